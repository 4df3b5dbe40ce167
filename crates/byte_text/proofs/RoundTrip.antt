-- Printed text is read back.
use Rattle.std.proofs.Common.{◌≡◌, ℕ, Bool, true, false, List, [], ◌∷◌, Option, Some, nat_eq, refl, sym, ap, ◌∙◌, append-nil, codes}
use Rattle.std.specs.List.{starts_with}
use Rattle.std.specs.Str.{bytes_eq}
use Rattle.std.proofs.lemmas.Bool.{cond_both, false_from_ne_true, false≢true}
use Rattle.std.proofs.lemmas.Option.{same_Some, none-some}
use Rattle.std.proofs.lemmas.Slice.Eq.{bytes_eq-Decides}
use Rattle.hex.specs.Hex.{IsBytes}
use Rattle.byte_text.specs.Escapes.{bytes_left, with_byte, hex_escape, escaped}
use Rattle.byte_text.specs.declared.escapes.Reading.TheVariants.{Plain}
use Rattle.byte_text.specs.Text.{parts_of, plain_bytes, part_bytes, joined, all_bytes, bytes_of_text, is_typed, text_of_bytes}
use Rattle.byte_text.proofs.LowBytes.{rest_bytes, first_byte}
use Rattle.byte_text.proofs.Cuts.{IsWhole, or_left, or_right, whole_append, whole_escape}
use Rattle.byte_text.proofs.Escaped.{reads_digits, reads_escaped, whole_digits, whole_escaped, same_start}

-- ---- a part without a type

untyped : (text : List ℕ) → starts_with nat_eq text (codes "u8:") ≡ false → starts_with nat_eq text (codes "u16:") ≡ false
    → starts_with nat_eq text (codes "u32:") ≡ false → starts_with nat_eq text (codes "u64:") ≡ false → starts_with nat_eq text (codes "i64:") ≡ false
    → starts_with nat_eq text (codes "hex:") ≡ false → part_bytes text ≡ plain_bytes text
untyped text a b c d e f = rw (a, b, c, d, e, f) refl

-- escaping bytes without a type gives a text without a type
escaped_untyped : (bs : List ℕ) → is_typed bs ≡ false → part_bytes (escaped bs) ≡ plain_bytes (escaped bs)
escaped_untyped bs h =
    let later1 = or_right _ _ h in
    let later2 = or_right _ _ later1 in
    let later3 = or_right _ _ later2 in
    let later4 = or_right _ _ later3 in
    untyped (escaped bs)
    (same_start (codes "u8:") bs refl ∙ or_left _ _ h)
    (same_start (codes "u16:") bs refl ∙ or_left _ _ later1)
    (same_start (codes "u32:") bs refl ∙ or_left _ _ later2)
    (same_start (codes "u64:") bs refl ∙ or_left _ _ later3)
    (same_start (codes "i64:") bs refl ∙ or_left _ _ later4)
    (same_start (codes "hex:") bs refl ∙ or_right _ _ later4)

-- a text that represents a byte is not empty
plain_some : (text : List ℕ) (b : ℕ) (bs : List ℕ) → bytes_left Plain text ≡ Some (b ∷ bs) → plain_bytes text ≡ Some (b ∷ bs)
plain_some [] b bs h = cc
plain_some (c ∷ cs) b bs h = h

pub reads_part : (b : ℕ) (bs : List ℕ) → IsBytes (b ∷ bs) → part_bytes (text_of_bytes (b ∷ bs)) ≡ Some (b ∷ bs)
reads_part b bs h =
    cond_both (bytes_eq (b ∷ bs) (codes ".")) _ _ (λ text. part_bytes text ≡ Some (b ∷ bs))
    (λ dot. ap Some (sym ((bytes_eq-Decides (b ∷ bs) (codes ".")).0 dot)))
    (λ _. cond_both (is_typed (b ∷ bs)) _ _ (λ text. part_bytes text ≡ Some (b ∷ bs))
    (λ _. reads_digits b (escaped bs) (first_byte b bs h) ∙ ap (λ (x : Option (List ℕ)). with_byte (Some b) x) (reads_escaped bs (rest_bytes b bs h)))
    (λ other. escaped_untyped (b ∷ bs) other ∙ plain_some (escaped (b ∷ bs)) b bs (reads_escaped (b ∷ bs) h)))

pub whole_text : (b : ℕ) (bs : List ℕ) → IsBytes (b ∷ bs) → IsWhole (text_of_bytes (b ∷ bs))
whole_text b bs h =
    cond_both (bytes_eq (b ∷ bs) (codes ".")) _ _ (λ text. IsWhole text)
    (λ _. whole_escape 46)
    (λ _. cond_both (is_typed (b ∷ bs)) _ _ (λ text. IsWhole text)
    (λ _. whole_append (hex_escape b) (escaped bs) (whole_digits b (first_byte b bs h)) (whole_escaped bs (rest_bytes b bs h)))
    (λ _. whole_escaped (b ∷ bs) h))

-- ---- a whole text

-- a text that represents bytes different from a dot is not a dot
not_dot : (text bytes : List ℕ) → part_bytes text ≡ Some bytes → bytes_eq bytes (codes ".") ≡ false → bytes_eq text (codes ".") ≡ false
not_dot text bytes is other = false_from_ne_true (bytes_eq text (codes ".")) (λ dot.
    let same : codes "." ≡ bytes = same_Some (codes ".") bytes (sym (ap part_bytes ((bytes_eq-Decides text (codes ".")).0 dot)) ∙ is) in
    false≢true (sym other ∙ (bytes_eq-Decides bytes (codes ".")).1 (sym same)))

pub text_is_no_dot : (b : ℕ) (bs : List ℕ) → IsBytes (b ∷ bs) → bytes_eq (text_of_bytes (b ∷ bs)) (codes ".") ≡ false
text_is_no_dot b bs h = by_dot (bytes_eq (b ∷ bs) (codes ".")) refl
  where
    by_dot : (t : Bool) → bytes_eq (b ∷ bs) (codes ".") ≡ t → bytes_eq (text_of_bytes (b ∷ bs)) (codes ".") ≡ false
    by_dot true is = rw is refl
    by_dot false is = not_dot (text_of_bytes (b ∷ bs)) (b ∷ bs) (reads_part b bs h) is

-- a text that is not a dot represents the bytes of its parts
pub text_means : (text bytes : List ℕ) → bytes_eq text (codes ".") ≡ false → all_bytes (parts_of false text) ≡ Some bytes → bytes_of_text text ≡ Some bytes
text_means [] bytes other is = absurd (none-some bytes is)
text_means (c ∷ cs) bytes other is = rw other is

-- the bytes of a text with a single part
pub one_part : (text bytes : List ℕ) → IsWhole text → part_bytes text ≡ Some bytes → all_bytes (parts_of false text) ≡ Some bytes
one_part text bytes whole is =
    ap (λ (x : List ℕ). all_bytes (parts_of false x)) (sym (append-nil text)) ∙ ap all_bytes (whole []) ∙ ap (λ (x : List ℕ). joined (part_bytes x) (Some [])) (append-nil text)
    ∙ ap (λ (x : Option (List ℕ)). joined x (Some [])) is ∙ ap Some (append-nil bytes)

pub reads_text : (bytes : List ℕ) → IsBytes bytes → bytes_of_text (text_of_bytes bytes) ≡ Some bytes
reads_text [] h = refl
reads_text (b ∷ bs) h =
    text_means (text_of_bytes (b ∷ bs)) (b ∷ bs) (text_is_no_dot b bs h) (one_part (text_of_bytes (b ∷ bs)) (b ∷ bs) (whole_text b bs h) (reads_part b bs h))
