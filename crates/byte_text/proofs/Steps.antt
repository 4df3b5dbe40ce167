-- Steps of the loops that read and print.
use Rattle.std.proofs.Common.{◌≡◌, ℕ, suc, ◌+◌, ◌<◌, List, [], ◌∷◌, ◌++◌, Option, Some, None, Bor, true, false, cond, eqb, is_none, option_map, length, drop, get_or, refl, sym, ap, ◌∙◌, subst, append_assoc, arith}
use Rattle.std.proofs.lemmas.List.{drop_more}
use Rattle.byte_text.specs.Escapes.{after_step, bytes_left, with_byte}
use Rattle.byte_text.specs.Text.{all_bytes, joined, part_bytes, parts_left, Puts}
use Rattle.byte_text.specs.Layouts.{kind_named, kinds_of, number_named, with_kind}
use Rattle.byte_text.specs.declared.escapes.Reading.{Reading}
use Rattle.byte_text.specs.declared.escapes.Reading.TheVariants.{Plain}
use Rattle.byte_text.specs.declared.escapes.Step.TheVariants.{Refused, Goes, Byte}
use Rattle.byte_text.specs.declared.layouts.Kind.{Kind}
use Rattle.byte_text.specs.declared.layouts.Kind.TheVariants as kinds
use Rattle.byte_text.proofs.Cuts.{parts_some}

-- no bytes, so nothing is appended
pub puts_none : (bytes : Option (List ℕ)) (old new : List ℕ) → bytes ≡ None → Puts bytes false old new
puts_none bytes old new is = subst (λ (o : Option (List ℕ)). Puts o false old new) (sym is) tt

-- no bytes so far
pub joined_start : (later : Option (List ℕ)) → later ≡ joined (Some []) later
joined_start None = refl
joined_start (Some later) = refl

-- one more byte
joined_byte : (front : List ℕ) (b : ℕ) (later : Option (List ℕ)) → joined (Some front) (with_byte (Some b) later) ≡ joined (Some (front ++ b ∷ [])) later
joined_byte front b None = refl
joined_byte front b (Some later) = ap Some (sym (append_assoc front (b ∷ []) later))

-- one more part
joined_part : (front part : List ℕ) (later : Option (List ℕ)) → joined (Some front) (joined (Some part) later) ≡ joined (Some (front ++ part)) later
joined_part front part None = refl
joined_part front part (Some later) = ap Some (sym (append_assoc front part later))

-- an invalid part, and a valid part
pub got_none : (whole : Option (List ℕ)) (front new part : List ℕ) (later : List (List ℕ)) → whole ≡ joined (Some front) (all_bytes (part ∷ later)) → Puts (part_bytes part) false front new → whole ≡ None
got_none whole front new part later is puts = is ∙ by_bytes (part_bytes part) puts
  where
    by_bytes : (o : Option (List ℕ)) → Puts o false front new → joined (Some front) (joined o (all_bytes later)) ≡ None
    by_bytes None p = refl
    by_bytes (Some bytes) p = absurd p

pub got_part : (whole : Option (List ℕ)) (front new part : List ℕ) (later : List (List ℕ)) → whole ≡ joined (Some front) (all_bytes (part ∷ later)) → Puts (part_bytes part) true front new
    → whole ≡ joined (Some new) (all_bytes later)
got_part whole front new part later is puts = is ∙ by_bytes (part_bytes part) puts
  where
    by_bytes : (o : Option (List ℕ)) → Puts o true front new → joined (Some front) (joined o (all_bytes later)) ≡ joined (Some new) (all_bytes later)
    by_bytes None p = absurd p
    by_bytes (Some bytes) p = joined_part front bytes (all_bytes later) ∙ ap (λ (f : List ℕ). joined (Some f) (all_bytes later)) (sym p)

-- ---- a text byte by byte: the bytes so far, and the bytes of the remaining text

next_left : (text : List ℕ) (i : ℕ) (reading : Reading) (added : List ℕ) → i < length text → bytes_left Plain text ≡ joined (Some added) (bytes_left reading (drop i text))
    → bytes_left Plain text ≡ joined (Some added) (bytes_left reading (get_or text i 0 ∷ drop (i + 1) text))
next_left text i reading added h is = is ∙ ap (λ (xs : List ℕ). joined (Some added) (bytes_left reading xs)) (drop_more text i 0 h)

pub stops_here : (text : List ℕ) (i : ℕ) (reading : Reading) (added : List ℕ) → i < length text → bytes_left Plain text ≡ joined (Some added) (bytes_left reading (drop i text))
    → ((cs : List ℕ) → bytes_left reading (get_or text i 0 ∷ cs) ≡ after_step Refused cs) → bytes_left Plain text ≡ None
stops_here text i reading added h is step = next_left text i reading added h is ∙ ap (joined (Some added)) (step (drop (i + 1) text))

pub goes_on : (text : List ℕ) (i : ℕ) (reading next : Reading) (added : List ℕ) → i < length text → bytes_left Plain text ≡ joined (Some added) (bytes_left reading (drop i text))
    → ((cs : List ℕ) → bytes_left reading (get_or text i 0 ∷ cs) ≡ after_step (Goes next) cs)
    → bytes_left Plain text ≡ joined (Some added) (bytes_left next (drop (i + 1) text))
goes_on text i reading next added h is step = next_left text i reading added h is ∙ ap (joined (Some added)) (step (drop (i + 1) text))

pub gives_byte : (text : List ℕ) (i : ℕ) (reading : Reading) (b : ℕ) (added : List ℕ) → i < length text → bytes_left Plain text ≡ joined (Some added) (bytes_left reading (drop i text))
    → ((cs : List ℕ) → bytes_left reading (get_or text i 0 ∷ cs) ≡ after_step (Byte b) cs)
    → bytes_left Plain text ≡ joined (Some (added ++ b ∷ [])) (bytes_left Plain (drop (i + 1) text))
gives_byte text i reading b added h is step =
    next_left text i reading added h is ∙ ap (joined (Some added)) (step (drop (i + 1) text)) ∙ joined_byte added b (bytes_left Plain (drop (i + 1) text))

-- a text without backslash represents itself
pub no_escape : (text : List ℕ) → ((k : ℕ) → k < length text → eqb (get_or text k 0) 92 ≡ false) → bytes_left Plain text ≡ Some text
no_escape [] none = refl
no_escape (c ∷ cs) none =
    let here = none 0 (omega arith) in
    rw here (ap (with_byte (Some c)) (no_escape cs (λ k h. none (suc k) (omega (arith, h)))))

-- ---- kinds name by name

pub kinds_step : (name : List ℕ) (after : Option (Bor (List ℕ)))
    → kinds_of (name ∷ parts_left after) ≡ with_kind (cond (is_none after) (kind_named name) (option_map kinds.Number (number_named name))) (kinds_of (parts_left after))
kinds_step name None = refl
kinds_step name (Some text) =
    let some = parts_some false text.now in
    subst (λ (parts : List (List ℕ)). kinds_of (name ∷ parts) ≡ with_kind (option_map kinds.Number (number_named name)) (kinds_of parts)) (sym some.1.1) refl

pub more_kinds : (front : List Kind) (kind : Kind) (later : Option (List Kind))
    → option_map (λ (others : List Kind). front ++ others) (with_kind (Some kind) later) ≡ option_map (λ (others : List Kind). (front ++ kind ∷ []) ++ others) later
more_kinds front kind None = refl
more_kinds front kind (Some later) = ap Some (sym (append_assoc front (kind ∷ []) later))
