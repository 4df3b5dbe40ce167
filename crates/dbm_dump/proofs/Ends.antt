-- The end of a text, after its last LF.
use Rattle.std.proofs.Common.{◌≡◌, ℕ, ◌+◌, ◌<◌, List, [], ◌∷◌, ◌++◌, length, take, Bool, true, false, not, cond, Option, Some, None, inr, refl, sym, ap, ◌∙◌, subst, arith, eqb}
use Rattle.std.proofs.lemmas.Bool.{false≢true, ne_eqb}
use Rattle.std.proofs.lemmas.List.{take-append-le, take_all}
use Rattle.std.proofs.Math.Seq.{take-length}
use Rattle.std.proofs.lemmas.Option.{same_Some}
use Rattle.sdbm_addr.specs.Pairs.{Pair}
use Rattle.dbm_script.specs.LineInput.{GivesNextLine, Unread, lines_left}
use Rattle.dbm_script.proofs.LinesGiven.{is_over}
use Rattle.dbm_dump.specs.declared.stage.Stage.{Stage}
use Rattle.dbm_dump.specs.declared.stage.Stage.TheVariants.{First, Title, Keys, Pages, Count, Gap, Pairs, Between, Within, Ended, Over}
use Rattle.dbm_dump.specs.declared.stage.Next.{Next}
use Rattle.dbm_dump.specs.Loading.{GivesLine, IsEmptyEnd}
use Rattle.dbm_dump.specs.Reading.{Read, before_read, dump_lines, kept_lines, pair_list, read, read_on, whole, without_empty_end}
use Rattle.dbm_dump.specs.Steps.{is_end, line_step}

-- ---- an empty last line changes no pairs

abbrev with_pairs : List Pair → Option (List Pair) → Option (List Pair)
with_pairs pairs None = None
with_pairs pairs (Some more) = Some (pairs ++ more)

whole_before : (pair : Option Pair) (o : Option Read) → whole (before_read pair o) ≡ with_pairs (pair_list pair) (whole o)
whole_before pair None = refl
whole_before pair (Some r) = at_end (is_end r.stage)
  where
    at_end : (b : Bool) → cond b (Some (pair_list pair ++ r.pairs)) None ≡ with_pairs (pair_list pair) (cond b (Some r.pairs) None)
    at_end true = refl
    at_end false = refl

-- appending the same pairs
whole_on : (o : Option Next) (f g : Stage → Option Read) → ((s : Stage) → whole (f s) ≡ whole (g s)) → whole (read_on o f) ≡ whole (read_on o g)
whole_on None f g same = refl
whole_on (Some n) f g same = whole_before n.pair (f n.stage) ∙ ap (with_pairs (pair_list n.pair)) (same n.stage) ∙ sym (whole_before n.pair (g n.stage))

-- an empty line at the end changes nothing
whole_empty : (s : Stage) → whole (read s []) ≡ whole (read s ([] ∷ []))
whole_empty First = refl
whole_empty Title = refl
whole_empty Keys = refl
whole_empty Pages = refl
whole_empty Count = refl
whole_empty (Gap left) = refl
whole_empty (Pairs left) = refl
whole_empty (Between seen role) = refl
whole_empty (Within seen role len text) = refl
whole_empty Ended = refl
whole_empty Over = refl

whole_kept : (s : Stage) (line : List ℕ) (lines : List (List ℕ)) → ((t : Stage) → whole (read t (without_empty_end lines)) ≡ whole (read t lines))
    → whole (read s (kept_lines lines line (without_empty_end lines))) ≡ whole (read s (line ∷ lines))
whole_kept s [] [] same = whole_empty s
whole_kept s (c ∷ cs) [] same = refl
whole_kept s line (other ∷ others) same = whole_on (line_step s line) (λ t. read t (without_empty_end (other ∷ others))) (λ t. read t (other ∷ others)) same

whole_without : (s : Stage) (lines : List (List ℕ)) → whole (read s (without_empty_end lines)) ≡ whole (read s lines)
whole_without s [] = refl
whole_without s (line ∷ lines) = whole_kept s line lines (λ t. whole_without t lines)

pub whole_lines : (s : Stage) (pieces : List (List ℕ)) → whole (read s (dump_lines pieces)) ≡ whole (read s pieces)
whole_lines s [] = refl
whole_lines s (first ∷ others) = whole_on (line_step s first) (λ t. read t (without_empty_end others)) (λ t. read t others) (λ t. whole_without t others)

-- ---- the remaining lines

abbrev pub lines_after : List (List ℕ) → List (List ℕ) → List (List ℕ)
lines_after [] pieces = dump_lines pieces
lines_after (line ∷ lines) pieces = without_empty_end pieces

-- a piece is a line, unless it is empty and the last
kept_line : (line : List ℕ) (behind : List (List ℕ)) → (line ∷ behind ≡ [] ∷ [] → ⊥) → kept_lines behind line (without_empty_end behind) ≡ line ∷ without_empty_end behind
kept_line [] [] h = absurd (h refl)
kept_line (c ∷ cs) [] h = refl
kept_line line (other ∷ others) h = refl

pub line_after : (done : List (List ℕ)) (line : List ℕ) (behind : List (List ℕ)) → (line ∷ behind ≡ [] ∷ [] → length done + 1 ≡ 1) → lines_after done (line ∷ behind) ≡ line ∷ without_empty_end behind
line_after [] line behind h = refl
line_after (d ∷ ds) line behind h = kept_line line behind (λ is. more (h is))
  where
    more : length (d ∷ ds) + 1 ≡ 1 → ⊥
    more is = omega arith

pub after_line : (done : List (List ℕ)) (line : List ℕ) (behind : List (List ℕ)) → lines_after (done ++ line ∷ []) behind ≡ without_empty_end behind
after_line [] line behind = refl
after_line (d ∷ ds) line behind = refl

pub none_after : (done : List (List ℕ)) → lines_after done [] ≡ []
none_after [] = refl
none_after (d ∷ ds) = refl

pub empty_after : (done : List (List ℕ)) → 1 < length done + 1 → lines_after done ([] ∷ []) ≡ []
empty_after [] h = absurd (omega arith)
empty_after (d ∷ ds) h = refl

-- ---- reading the next line

-- the first line, or a line that is not the empty end
pub gives_first : (number : ℕ) (left : Option (List (List ℕ))) (line : List ℕ) (left' : Option (List (List ℕ))) → number ≡ 1 → GivesNextLine left true line left' → GivesLine number left true line left'
gives_first number left line left' first gives = (gives, λ is. first)

-- the empty end
empty_first : (left : Option (List (List ℕ))) (line : List ℕ) (left' : Option (List (List ℕ))) → left ≡ Some ([] ∷ []) → GivesNextLine left true line left' → (line ≡ []) × (left' ≡ Some [])
empty_first left line left' is gives = subst (λ (l : Option (List (List ℕ))). GivesNextLine l true line left') is gives

abbrev pub IsEnd : Unread → List ℕ → Bool
IsEnd unread line = cond unread.ended (eqb (length line) 0) false

is_end_of : (ended : Bool) (line : List ℕ) → ended ≡ true → line ≡ [] → cond ended (eqb (length line) 0) false ≡ true
is_end_of ended line now none =
    ap (λ (b : Bool). cond b (eqb (length line) 0) false) now ∙ ap (λ (l : List ℕ). eqb (length l) 0) none

-- a line that is not the empty end
pub gives_more : (number : ℕ) (left : Option (List (List ℕ))) (line : List ℕ) (u : Unread) (known : Option (List ℕ)) → GivesNextLine left true line (lines_left u known) → IsEnd u line ≡ false
    → GivesLine number left true line (lines_left u known)
gives_more number left line u known gives more = (gives, λ is. absurd (no is))
  where
    no : left ≡ Some ([] ∷ []) → ⊥
    no is =
        let first = empty_first left line (lines_left u known) is gives in
        false≢true (sym more ∙ is_end_of u.ended line (is_over u.ended u.rest known first.1) first.0)

-- the last piece is the empty end
last_piece : (left : Option (List (List ℕ))) (line : List ℕ) (left' : Option (List (List ℕ))) → line ≡ [] → (left' ≡ Some []) → GivesNextLine left true line left' → IsEmptyEnd left
last_piece None line left' none last gives = tt
last_piece (Some []) line left' none last gives = absurd gives
last_piece (Some (l ∷ ls)) line left' none last gives =
    let first : l ≡ [] = sym gives.0 ∙ none in
    let others : ls ≡ [] = same_Some _ _ (sym gives.1 ∙ last) in
    ap (λ (x : List ℕ). x ∷ ls) first ∙ ap (λ (xs : List (List ℕ)). [] ∷ xs) others

none_left : (ended : Bool) (rest : List ℕ) (known : Option (List ℕ)) → ended ≡ true → lines_left (record { rest = rest; ended = ended }) known ≡ Some []
none_left ended rest known now = ap (λ (b : Bool). lines_left (record { rest = rest; ended = b }) known) now

no_bytes : (line : List ℕ) → eqb (length line) 0 ≡ true → line ≡ []
no_bytes [] h = refl
no_bytes (c ∷ cs) h = absurd (false≢true (sym (ne_eqb (length (c ∷ cs)) 0 (λ is. omega arith)) ∙ h))

both_true : (ended : Bool) (line : List ℕ) → cond ended (eqb (length line) 0) false ≡ true → (ended ≡ true) × (line ≡ [])
both_true true line h = (refl, no_bytes line h)
both_true false line h = absurd (false≢true h)

pub gives_end : (number : ℕ) (left : Option (List (List ℕ))) (line : List ℕ) (u : Unread) (known : Option (List ℕ)) → 1 < number → GivesNextLine left true line (lines_left u known) → IsEnd u line ≡ true
    → GivesLine number left false line (lines_left u known)
gives_end number left line u known more gives end =
    let is = both_true u.ended line end in
    inr (more, last_piece left line (lines_left u known) is.1 (none_left u.ended u.rest known is.0) gives)

-- a piece after the first, by cases on whether it is the empty end
pub gives_rest : (number : ℕ) (left : Option (List (List ℕ))) (line : List ℕ) (u : Unread) (known : Option (List ℕ)) (b : Bool) → 1 < number → GivesNextLine left true line (lines_left u known) → IsEnd u line ≡ b
    → GivesLine number left (not b) line (lines_left u known)
gives_rest number left line u known true more gives is = gives_end number left line u known more gives is
gives_rest number left line u known false more gives is = gives_more number left line u known gives is

-- ---- the head of a key

pub head_bytes : (key bytes rest : List ℕ) → bytes ≡ key → length key < 32 → take (length key) (bytes ++ rest) ≡ take 32 key
head_bytes key bytes rest same short =
    ap (λ (b : List ℕ). take (length key) (b ++ rest)) same ∙ take-append-le (length key) key rest (omega arith) ∙ take-length key ∙ sym (take_all 32 key (omega arith))
