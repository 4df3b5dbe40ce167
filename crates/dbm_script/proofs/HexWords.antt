-- A word in hex has no spaces.
use Rattle.std.proofs.Common.{◌≡◌, ◌∙◌, ℕ, ◌+◌, ◌*◌, List, [], ◌∷◌, Bool, true, false, Option, Some, None, Result, Ok, Err, eqb, cond, codes, refl, sym, ap, subst}
use Rattle.std.specs.Prelude.{◌%◌, ◌==◌, if◌then◌else◌, length}
use Rattle.std.specs.Str.{bytes_eq}
use Rattle.std.specs.Result.{result_ok}
use Rattle.std.specs.List.{onto_first}
use Rattle.std.proofs.lemmas.Bool.{eqb-true, false_from_ne_true, true≢false}
use Rattle.std.proofs.lemmas.Option.{none-some}
use Rattle.std.proofs.lemmas.List.Splits.{slice_split-cons_no}
use Rattle.std.proofs.lemmas.Slice.Eq.{bytes_eq-Decides}
use Rattle.hex.specs.Hex.{decode_of, decode_pairs, digit_or_error, hex_digit_value, ◌>>=◌}
use Rattle.hex.specs.declared.error.FromHexError.{FromHexError}
use Rattle.hex.specs.declared.error.FromHexError.TheVariants.{OddLength}
use Rattle.dbm_script.specs.Notation.{bytes_of_word, hex_bytes, reads_hex}
use Rattle.dbm_script.specs.Pieces.{pieces_of}
use Rattle.dbm_script.specs.declared.notations.Notation.{Notation}
use Rattle.dbm_script.specs.declared.notations.Notation.TheVariants.{Hex, Text, Layout}

-- a digit is not a space
no_space : (c v : ℕ) → hex_digit_value c ≡ Some v → eqb c 32 ≡ false
no_space c v h = false_from_ne_true _ (λ e. none-some v (ap hex_digit_value (sym (eqb-true c 32 e)) ∙ h))

-- a valid pair of digits, followed by a valid text
pub record IsRead (high low : Option ℕ) (rest : Result (List ℕ) FromHexError) : Type 0 where
  pub h : ℕ
  pub l : ℕ
  pub bytes : List ℕ
  pub high_is : high ≡ Some h
  pub low_is : low ≡ Some l
  pub rest_is : rest ≡ Ok bytes

pub pair_read : (a b i : ℕ) (high low : Option ℕ) (rest : Result (List ℕ) FromHexError) (out : List ℕ)
    → ((digit_or_error a i high >>= (λ h. digit_or_error b (i + 1) low >>= (λ l. Ok (h * 16 + l)))) >>= (λ byte. rest >>= (λ bytes. Ok (byte ∷ bytes)))) ≡ Ok out → IsRead high low rest
pair_read a b i None low rest out e = let f : ⊥ = cc in absurd f
pair_read a b i (Some h) None rest out e = let f : ⊥ = cc in absurd f
pair_read a b i (Some h) (Some l) (Err fault) out e = let f : ⊥ = cc in absurd f
pair_read a b i (Some h) (Some l) (Ok bytes) out e = record { h = h; l = l; bytes = bytes; high_is = refl; low_is = refl; rest_is = refl }

pieces_decoded : (i : ℕ) (text out : List ℕ) → decode_pairs i text ≡ Ok out → pieces_of 32 text ≡ text ∷ []
unfolding decode_pairs
pieces_decoded i [] out e = refl
pieces_decoded i (digit ∷ []) out e = let f : ⊥ = cc in absurd f
pieces_decoded i (a ∷ b ∷ rest) out e =
    let read = pair_read a b i (hex_digit_value a) (hex_digit_value b) (decode_pairs (i + 2) rest) out e in
    let others : pieces_of 32 rest ≡ rest ∷ [] = pieces_decoded (i + 2) rest read.bytes read.rest_is in
    slice_split-cons_no (λ c. eqb c 32) a (b ∷ rest) (no_space a read.h read.high_is)
    ∙ ap (onto_first a) (slice_split-cons_no (λ c. eqb c 32) b rest (no_space b read.l read.low_is) ∙ ap (onto_first b) others)

decoded : (text bytes : List ℕ) (r : Result (List ℕ) FromHexError) → decode_pairs 0 text ≡ r → result_ok r ≡ Some bytes → pieces_of 32 text ≡ text ∷ []
decoded text bytes (Ok out) is e = pieces_decoded 0 text out is
decoded text bytes (Err fault) is e = absurd (none-some bytes e)

even : (text bytes : List ℕ) (odd : Bool) → result_ok (if odd then Err OddLength else decode_pairs 0 text) ≡ Some bytes → pieces_of 32 text ≡ text ∷ []
even text bytes true e = absurd (none-some bytes e)
even text bytes false e = decoded text bytes (decode_pairs 0 text) refl e

-- a hex word has no space, so splitting at spaces leaves it whole
one_word : (text bytes : List ℕ) (r : Result (List ℕ) FromHexError) (dot : Bool) → bytes_eq text (codes ".") ≡ dot → decode_of text ≡ r → cond dot (Some []) (result_ok r) ≡ Some bytes → pieces_of 32 text ≡ text ∷ []
one_word text bytes r true is reads e =
    let dot : text ≡ codes "." = (bytes_eq-Decides text (codes ".")).0 is in
    subst (λ (t : List ℕ). pieces_of 32 t ≡ t ∷ []) (sym dot) refl
one_word text bytes r false is reads e = even text bytes (length text % 2 == 1) (subst (λ (x : Result (List ℕ) FromHexError). result_ok x ≡ Some bytes) (sym reads) e)

pub hex_word : (text bytes : List ℕ) → hex_bytes text ≡ Some bytes → pieces_of 32 text ≡ text ∷ []
hex_word [] bytes e = absurd (none-some bytes e)
hex_word (c ∷ cs) bytes e = one_word (c ∷ cs) bytes (decode_of (c ∷ cs)) (bytes_eq (c ∷ cs) (codes ".")) refl refl e

-- the hex notation reads words as hex
pub in_hex : {A : Type 0} (n : Notation A) (word : List ℕ) → reads_hex n ≡ true → bytes_of_word n word ≡ hex_bytes word
in_hex Hex word h = refl
in_hex Text word h = absurd (true≢false (sym h))
in_hex (Layout kinds) word h = absurd (true≢false (sym h))
