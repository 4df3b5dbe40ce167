-- Texts without separators, and lines made of them.
use Rattle.std.proofs.Common.{◌≡◌, ℕ, zero, suc, ◌+◌, ◌-◌, ◌<◌, ◌==◌, ◌||◌, ◌∷◌, ◌++◌, [], List, Some, Bool, true, false, not, length, take, drop, get_or, refl, sym, ◌∙◌, ap, arith, append_assoc, length-append}
use Rattle.std.specs.Bool.{⊤}
use Rattle.std.specs.Option.{option_and_then}
use Rattle.std.specs.List.{All, prefix_len, suffix_len}
use Rattle.std.proofs.Math.Seq.{take-length, take-append_seam, drop-append_seam, get_or-append_seam}
use Rattle.std.proofs.lemmas.List.{reverse-append}
use Rattle.std.proofs.lemmas.List.Splits.{slice_split_at, slice_split_none}
use Rattle.std.proofs.lemmas.Bool.{ne_eqb}
use Rattle.bpf_asm.specs.Text.{trimmed, trimmed_front, trimmed_back, uncommented, is_margin}
use Rattle.bpf_asm.specs.Mnemonics.{row_named}
use Rattle.bpf_asm.specs.Lines.{meaning, meaning_of_body, statement, is_label, instruction, two, three}
use Rattle.bpf_asm.specs.Printed.{pair_text}
use Rattle.bpf_asm.specs.declared.row.Row.{Row}

-- ---- bytes that a test refuses

abbrev pub Free : (ℕ → Bool) → List ℕ → Type 0
Free p [] = ⊤
Free p (x ∷ xs) = (p x ≡ false) × Free p xs

pub free_append : (p : ℕ → Bool) (xs ys : List ℕ) → Free p xs → Free p ys → Free p (xs ++ ys)
free_append p [] ys f g = g
free_append p (x ∷ xs) ys f g = (f.0, free_append p xs ys f.1 g)

pub weaken : (p q : ℕ → Bool) → ((b : ℕ) → p b ≡ false → q b ≡ false) → (xs : List ℕ) → Free p xs → Free q xs
weaken p q h [] f = tt
weaken p q h (x ∷ xs) f = (h x f.0, weaken p q h xs f.1)

pub by_index : (p : ℕ → Bool) (xs : List ℕ) → Free p xs → All (λ c. p c ≡ false) xs
by_index p [] f k d l = absurd (omega arith)
by_index p (x ∷ xs) f zero d l = f.0
by_index p (x ∷ xs) f (suc k) d l = by_index p xs f.1 k d (omega arith)

all_len : (p : ℕ → Bool) (xs : List ℕ) → Free p xs → prefix_len (λ x. not (p x)) xs ≡ length xs
all_len p [] f = refl
all_len p (x ∷ xs) f = rw (f.0, all_len p xs f.1) (omega arith)

-- a test stops at the first byte that fails it
pub seam : (p : ℕ → Bool) (xs : List ℕ) (y : ℕ) (ys : List ℕ) → Free p xs → p y ≡ true → prefix_len (λ x. not (p x)) (xs ++ (y ∷ ys)) ≡ length xs
seam p [] y ys f e = rw e refl
seam p (x ∷ xs) y ys f e = rw (f.0, seam p xs y ys f.1 e) (omega arith)

-- ---- words and bodies

-- the separators of words and lines
abbrev pub is_stop : ℕ → Bool
is_stop b = is_margin b || (b == 59) || (b == 44) || (b == 58) || (b == 10)

-- the ends of a line or of its text
abbrev pub is_break : ℕ → Bool
is_break b = (b == 59) || (b == 10)

or_false : (p q : Bool) → (p || q) ≡ false → (p ≡ false) × (q ≡ false)
or_false false q h = (refl, h)
or_false true q h = cc

stops_off : (b : ℕ) → is_stop b ≡ false → (is_margin b ≡ false) × ((b == 59) ≡ false) × ((b == 44) ≡ false) × ((b == 58) ≡ false) × ((b == 10) ≡ false)
stops_off b e =
    let h4 = or_false (is_margin b || (b == 59) || (b == 44) || (b == 58)) (b == 10) e in
    let h3 = or_false (is_margin b || (b == 59) || (b == 44)) (b == 58) h4.0 in
    let h2 = or_false (is_margin b || (b == 59)) (b == 44) h3.0 in
    let h1 = or_false (is_margin b) (b == 59) h2.0 in
    (h1.0, h1.1, h2.1, h3.1, h4.1)

breaks_off : (b : ℕ) → is_stop b ≡ false → is_break b ≡ false
breaks_off b e = let s = stops_off b e in rw (s.1, s.4) refl

-- a text of at least one byte, without separators
pub record IsWord (bs : List ℕ) : Type 0 where
  pub first : ℕ
  pub more : List ℕ
  pub is : bs ≡ first ∷ more
  pub free : Free is_stop bs

pub word_of : (bs : List ℕ) → 0 < length bs → Free is_stop bs → IsWord bs
word_of [] l f = absurd (omega arith)
word_of (b ∷ bs) l f = record { first = b; more = bs; is = refl; free = f }

-- a text on one line without comment, with no separator at either end
pub record IsBody (bs : List ℕ) : Type 0 where
  pub first : ℕ
  pub more : List ℕ
  pub starts : bs ≡ first ∷ more
  pub first_off : is_stop first ≡ false
  pub front : List ℕ
  pub last : ℕ
  pub ends : bs ≡ front ++ (last ∷ [])
  pub last_off : is_stop last ≡ false
  pub whole : Free is_break bs

last_of : (p : ℕ → Bool) (x : ℕ) (xs : List ℕ) → Free p (x ∷ xs) → (ys : List ℕ) × (z : ℕ) × (x ∷ xs ≡ ys ++ (z ∷ [])) × (p z ≡ false)
last_of p x [] f = ([], x, refl, f.0)
last_of p x (y ∷ xs) f = let r = last_of p y xs f.1 in (x ∷ r.0, r.1, ap (λ (zs : List ℕ). x ∷ zs) r.2, r.3)

pub body_of : (bs : List ℕ) → IsWord bs → IsBody bs
body_of bs w =
    let f = rw w.is at w.free in
    let l = last_of is_stop w.first w.more f in
    record { first = w.first; more = w.more; starts = w.is; first_off = f.0; front = l.0; last = l.1; ends = w.is ∙ l.2; last_off = l.3; whole = weaken is_stop is_break breaks_off bs w.free }

-- two bodies with something between them
pub joined : (a sep b : List ℕ) → IsBody a → Free is_break sep → IsBody b → IsBody (a ++ (sep ++ b))
joined a sep b x f y = record {
  first = x.first;
  more = x.more ++ (sep ++ b);
  starts = ap (λ (t : List ℕ). t ++ (sep ++ b)) x.starts;
  first_off = x.first_off;
  front = a ++ (sep ++ y.front);
  last = y.last;
  ends = ap (λ (t : List ℕ). a ++ (sep ++ t)) y.ends ∙ ap (λ (t : List ℕ). a ++ t) (sym (append_assoc sep y.front (y.last ∷ []))) ∙ sym (append_assoc a (sep ++ y.front) (y.last ∷ []));
  last_off = y.last_off;
  whole = free_append is_break a (sep ++ b) x.whole (free_append is_break sep b f y.whole);
}

pub pair_body : (a b : List ℕ) → IsBody a → IsBody b → IsBody (pair_text a b)
pair_body a b x y = joined a (44 ∷ 32 ∷ []) b x (refl, (refl, tt)) y

back_len : (ys : List ℕ) (z : ℕ) → is_margin z ≡ false → suffix_len is_margin (ys ++ (z ∷ [])) ≡ 0
back_len ys z g = let r = reverse-append ys (z ∷ []) in rw r (rw g refl)

untrimmed : (x : ℕ) (xs ys : List ℕ) (z : ℕ) → x ∷ xs ≡ ys ++ (z ∷ []) → is_margin x ≡ false → is_margin z ≡ false → trimmed (x ∷ xs) ≡ x ∷ xs
unfolding trimmed
untrimmed x xs ys z e f g =
    let a : trimmed_front (x ∷ xs) ≡ x ∷ xs = rw f refl in
    let k : length (ys ++ (z ∷ [])) - suffix_len is_margin (ys ++ (z ∷ [])) ≡ length (ys ++ (z ∷ [])) = omega (arith, back_len ys z g) in
    let b : trimmed_back (ys ++ (z ∷ [])) ≡ ys ++ (z ∷ []) = ap (λ n. take n (ys ++ (z ∷ []))) k ∙ take-length (ys ++ (z ∷ [])) in
    ap trimmed_back a ∙ ap trimmed_back e ∙ b ∙ sym e

-- a body has no margins
pub trimmed_body : (bs : List ℕ) → IsBody bs → trimmed bs ≡ bs
trimmed_body bs x = ap trimmed x.starts ∙ untrimmed x.first x.more x.front x.last (sym x.starts ∙ x.ends) (stops_off x.first x.first_off).0 (stops_off x.last x.last_off).0 ∙ sym x.starts

space_front : (xs : List ℕ) → trimmed_front (32 ∷ xs) ≡ trimmed_front xs
space_front xs = let e : 1 + prefix_len is_margin xs ≡ suc (prefix_len is_margin xs) = omega arith in ap (λ n. drop n (32 ∷ xs)) e

after_space : (xs : List ℕ) → trimmed (32 ∷ xs) ≡ trimmed xs
unfolding trimmed
after_space xs = ap trimmed_back (space_front xs)

-- ---- lines

uncommented_body : (xs : List ℕ) → Free is_break xs → uncommented xs ≡ xs
uncommented_body xs f = ap (λ n. take n xs) (all_len (λ b. b == 59) xs (weaken is_break (λ b. b == 59) (λ b e. (or_false (b == 59) (b == 10) e).0) xs f)) ∙ take-length xs

pub body_line : (bs : List ℕ) → IsBody bs → Free (λ b. b == 10) bs
body_line bs x = weaken is_break (λ b. b == 10) (λ b e. (or_false (b == 59) (b == 10) e).1) bs x.whole

label_end : (ys : List ℕ) (z : ℕ) → (z == 58) ≡ false → is_label (ys ++ (z ∷ [])) ≡ false
label_end ys z e =
    let k : length (ys ++ (z ∷ [])) - 1 ≡ length ys = simp length-append (omega arith) in
    let f : (get_or (ys ++ (z ∷ [])) (length (ys ++ (z ∷ [])) - 1) 0 == 58) ≡ false = rw (k, get_or-append_seam ys z [] 0) e in
    rw f refl

-- the meaning of a body is that of a statement
pub body_meaning : (bs : List ℕ) → IsBody bs → meaning bs ≡ statement bs
unfolding meaning meaning_of_body
body_meaning bs x =
    let no_label : is_label bs ≡ false = ap is_label x.ends ∙ label_end x.front x.last (stops_off x.last x.last_off).3 in
    let some : (length bs == 0) ≡ false = ne_eqb (length bs) 0 (λ e. absurd (omega (arith, ap length x.starts, e))) in
    let whole : meaning_of_body bs ≡ statement bs = rw (some, no_label) refl in
    ap (λ (t : List ℕ). meaning_of_body (trimmed t)) (uncommented_body bs x.whole) ∙ ap meaning_of_body (trimmed_body bs x) ∙ whole

split_head : (name rest : List ℕ) → Free is_margin name → statement (name ++ (32 ∷ rest)) ≡ option_and_then (λ row. instruction row (trimmed rest)) (row_named name)
unfolding statement
split_head name rest f =
    rw (seam is_margin name 32 rest f refl, take-append_seam name (32 ∷ rest), drop-append_seam name (32 ∷ rest), after_space rest) refl

-- a line of a mnemonic and its operands
pub line_meaning : (row : Row) (name rest : List ℕ) → IsWord name → IsBody rest → row_named name ≡ Some row → meaning (name ++ (32 ∷ rest)) ≡ instruction row rest
line_meaning row name rest w x known =
    body_meaning (name ++ (32 ∷ rest)) (joined name (32 ∷ []) rest (body_of name w) (refl, tt) x)
    ∙ split_head name rest (weaken is_stop is_margin (λ c e. (stops_off c e).0) name w.free)
    ∙ ap (option_and_then (λ r. instruction r (trimmed rest))) known ∙ ap (instruction row) (trimmed_body rest x)

pub line_body : (name rest : List ℕ) → IsWord name → IsBody rest → IsBody (name ++ (32 ∷ rest))
line_body name rest w x = joined name (32 ∷ []) rest (body_of name w) (refl, tt) x

-- ---- operands

no_comma : (a : List ℕ) → IsWord a → Free (λ c. c == 44) a
no_comma a w = weaken is_stop (λ c. c == 44) (λ c e. (stops_off c e).2) a w.free

trimmed_after : (b : List ℕ) → IsWord b → trimmed (32 ∷ b) ≡ b
trimmed_after b w = after_space b ∙ trimmed_body b (body_of b w)

pub two_words : (a b : List ℕ) → IsWord a → IsWord b → two (pair_text a b) ≡ Some (a, b)
unfolding two
two_words a b x y =
    rw (slice_split_at (λ c. c == 44) a 44 (32 ∷ b) (by_index (λ c. c == 44) a (no_comma a x)) refl, slice_split_none (λ c. c == 44) (32 ∷ b) (by_index (λ c. c == 44) (32 ∷ b) (refl, no_comma b y)))
    (ap (λ (t : List ℕ). Some (t, trimmed (32 ∷ b))) (trimmed_body a (body_of a x)) ∙ ap (λ (t : List ℕ). Some (a, t)) (trimmed_after b y))

pub three_words : (a b c : List ℕ) → IsWord a → IsWord b → IsWord c → three (pair_text a (pair_text b c)) ≡ Some (a, b, c)
unfolding three
three_words a b c x y z =
    rw (
      slice_split_at (λ d. d == 44) a 44 (32 ∷ (b ++ (44 ∷ 32 ∷ c))) (by_index (λ d. d == 44) a (no_comma a x)) refl,
      slice_split_at (λ d. d == 44) (32 ∷ b) 44 (32 ∷ c) (by_index (λ d. d == 44) (32 ∷ b) (refl, no_comma b y)) refl,
      slice_split_none (λ d. d == 44) (32 ∷ c) (by_index (λ d. d == 44) (32 ∷ c) (refl, no_comma c z)),
    )
    (ap (λ (t : List ℕ). Some (t, trimmed (32 ∷ b), trimmed (32 ∷ c))) (trimmed_body a (body_of a x)) ∙ ap (λ (t : List ℕ). Some (a, t, trimmed (32 ∷ c))) (trimmed_after b y) ∙ ap (λ (t : List ℕ). Some (a, b, t)) (trimmed_after c z))
