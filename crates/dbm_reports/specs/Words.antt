-- Raw words and prefixes.
use Rattle.std.specs.Prelude.{ℕ, Bool, true, false, List, [], Option, Some, None}
use Rattle.std.specs.Borrow.{Bor}
use Rattle.dbm_script.specs.Notation.{bytes_of_word, shown}
use Rattle.dbm_script.specs.declared.notations.Notation.{Notation}

-- the word itself, or if it is raw the text of its bytes in the notation
abbrev pub word_asked : {A : Type 0} → Bool → Notation A → List ℕ → List ℕ
word_asked true notation word = shown notation word
word_asked false notation word = word

-- the bytes of the prefix; without the option the prefix is empty, and every key begins with it
abbrev pub prefix_asked : {A : Type 0} → Notation A → Option (Bor (List ℕ)) → Option (List ℕ)
prefix_asked notation None = Some []
prefix_asked notation (Some word) = bytes_of_word notation word.now
