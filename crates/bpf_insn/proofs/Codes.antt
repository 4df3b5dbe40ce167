-- Codes, their units, and the instructions at these.
use Rattle.std.proofs.Common.{◌≡◌, ℕ, zero, suc, ◌+◌, ◌≤◌, ◌<◌, ◌++◌, length, List, [], ◌∷◌, take, Option, Some, None, refl, sym, ap, ◌∙◌, arith, length-append, get_or, add-one}
use Rattle.std.proofs.lemmas.List.{append-nil}
use Rattle.bpf_insn.specs.Stored.{insns_of}
use Rattle.std.specs.Prelude.{IfSome, slice_get}
use Rattle.std.specs.List.{AllByRecursion}
use Rattle.std.specs.Option.{option_flatten, option_to_list}
use Rattle.std.proofs.lemmas.List.Concat.{flat_map-append, flat_map-cons}
use Rattle.bpf_insn.specs.declared.insn.Insn.{Insn}
use Rattle.bpf_insn.specs.declared.insn.Insn.TheVariants.{Alu, Unary, Branch, Jump, JumpFar, Call, Exit, Load, LoadSigned, StoreImm, Store, Wide}
use Rattle.bpf_insn.specs.Spelling.{HasSpelling, spelling_of}
use Rattle.bpf_insn.specs.Code.{slots, slots_of, second_slot, unit_count, fetch, image_of, IsCode, IsImage}

-- a code has at most as many instructions as units
pub few : (code : List Insn) → length code ≤ unit_count code
few [] = omega arith
few (i ∷ is) =
    let rest : length is ≤ unit_count is = few is in
    omega (arith, ap length (flat_map-cons slots_of i is), length-append (slots_of i) (slots is))

-- no instruction begins past the end
pub fetch_past : (code : List Insn) (unit : ℕ) → unit_count code ≤ unit → fetch code unit ≡ None
fetch_past code unit h = past (slots code) unit h
  where
    past : (xs : List (Option Insn)) (unit : ℕ) → length xs ≤ unit → option_flatten (slice_get xs unit) ≡ None
    past [] unit h = refl
    past (x ∷ xs) zero h = absurd (omega arith)
    past (x ∷ xs) (suc unit) h = past xs unit (omega arith)

-- an instruction that begins at a unit is one of the table
pub fetch_has : (code : List Insn) (unit : ℕ) → AllByRecursion HasSpelling code → IfSome (fetch code unit) HasSpelling
fetch_has [] unit h = tt
fetch_has (i ∷ is) zero h = h.0
fetch_has (Wide d n ∷ is) (suc zero) h = tt
fetch_has (Wide d n ∷ is) (suc (suc unit)) h = fetch_has is unit h.1
fetch_has (Alu op w d s ∷ is) (suc unit) h = fetch_has is unit h.1
fetch_has (Unary op w d ∷ is) (suc unit) h = fetch_has is unit h.1
fetch_has (Branch t w d s off ∷ is) (suc unit) h = fetch_has is unit h.1
fetch_has (Jump off ∷ is) (suc unit) h = fetch_has is unit h.1
fetch_has (JumpFar off ∷ is) (suc unit) h = fetch_has is unit h.1
fetch_has (Call id ∷ is) (suc unit) h = fetch_has is unit h.1
fetch_has (Exit ∷ is) (suc unit) h = fetch_has is unit h.1
fetch_has (Load n d b off ∷ is) (suc unit) h = fetch_has is unit h.1
fetch_has (LoadSigned n d b off ∷ is) (suc unit) h = fetch_has is unit h.1
fetch_has (StoreImm n b off k ∷ is) (suc unit) h = fetch_has is unit h.1
fetch_has (Store n b off s ∷ is) (suc unit) h = fetch_has is unit h.1

-- the slot of a unit has the instruction that begins there
pub fetch_slot : (code : List Insn) (units : List (Option Insn)) (unit : ℕ) (o : Option Insn) → slots code ≡ units → unit < length units → o ≡ get_or units unit o → o ≡ fetch code unit
fetch_slot code units unit o whole within e = at units unit within e ∙ ap (λ (xs : List (Option Insn)). option_flatten (slice_get xs unit)) (sym whole)
  where
    at : (xs : List (Option Insn)) (n : ℕ) → n < length xs → o ≡ get_or xs n o → o ≡ option_flatten (slice_get xs n)
    at [] n h e = absurd (omega arith)
    at (x ∷ xs) zero h e = e
    at (x ∷ xs) (suc n) h e = at xs n (omega arith) e

-- ---- the instructions at the units

-- one more unit has one more instruction, if one begins there
pub next_insns : (units : List (Option Insn)) (unit : ℕ) → unit < length units → insns_of (take (unit + 1) units) ≡ insns_of (take unit units) ++ option_to_list (option_flatten (slice_get units unit))
next_insns units unit h = ap (λ n. insns_of (take n units)) (add-one unit) ∙ at units unit h
  where
    at : (xs : List (Option Insn)) (n : ℕ) → n < length xs → insns_of (take (suc n) xs) ≡ insns_of (take n xs) ++ option_to_list (option_flatten (slice_get xs n))
    at [] n h = absurd (omega arith)
    at (None ∷ xs) zero h = refl
    at (Some i ∷ xs) zero h = refl
    at (None ∷ xs) (suc n) h = at xs n (omega arith)
    at (Some i ∷ xs) (suc n) h = ap (λ (is : List Insn). i ∷ is) (at xs n (omega arith))

-- no instruction begins at a second unit
second_has_none : (i : Insn) → insns_of (second_slot i) ≡ []
second_has_none (Alu op w d s) = refl
second_has_none (Unary op w d) = refl
second_has_none (Branch t w d s off) = refl
second_has_none (Jump off) = refl
second_has_none (JumpFar off) = refl
second_has_none (Call id) = refl
second_has_none Exit = refl
second_has_none (Load n d b off) = refl
second_has_none (LoadSigned n d b off) = refl
second_has_none (StoreImm n b off k) = refl
second_has_none (Store n b off s) = refl
second_has_none (Wide d n) = refl

-- the instructions at all units of a code are the code
pub all_insns : (code : List Insn) → insns_of (slots code) ≡ code
all_insns [] = refl
all_insns (i ∷ is) = flat_map-append option_to_list (slots_of i) (slots is) ∙ ap (λ (xs : List Insn). xs ++ insns_of (slots is)) (ap (λ (xs : List Insn). i ∷ xs) (second_has_none i)) ∙ ap (λ (xs : List Insn). i ∷ xs) (all_insns is)

-- ---- bytes

-- the bytes after adding one instruction
pub image_more : (code : List Insn) (i : Insn) → image_of (code ++ i ∷ []) ≡ image_of code ++ spelling_of i
image_more code i = flat_map-append spelling_of code (i ∷ []) ∙ ap (λ (xs : List ℕ). image_of code ++ xs) (append-nil (spelling_of i))

-- the bytes written so far, with those of the next unit
encodes_more : (code : List Insn) (unit : ℕ) (before : List ℕ) (o : Option Insn) → unit < unit_count code → o ≡ fetch code unit
    → before ≡ image_of (insns_of (take unit (slots code))) → before ++ image_of (option_to_list o) ≡ image_of (insns_of (take (unit + 1) (slots code)))
encodes_more code unit before o h e b =
    ap (λ (p : Option Insn). before ++ image_of (option_to_list p)) e
    ∙ ap (λ (xs : List ℕ). xs ++ image_of (option_to_list (fetch code unit))) b
    ∙ sym (ap image_of (next_insns (slots code) unit h) ∙ flat_map-append spelling_of (insns_of (take unit (slots code))) (option_to_list (fetch code unit)))

pub encodes_some : (code : List Insn) (unit : ℕ) (before after : List ℕ) (i : Insn) → unit < unit_count code → Some i ≡ fetch code unit
    → before ≡ image_of (insns_of (take unit (slots code))) → after ≡ before ++ spelling_of i → after ≡ image_of (insns_of (take (unit + 1) (slots code)))
encodes_some code unit before after i h e b a =
    a ∙ ap (λ (xs : List ℕ). before ++ xs) (sym (append-nil (spelling_of i))) ∙ encodes_more code unit before (Some i) h e b

pub encodes_none : (code : List Insn) (unit : ℕ) (before : List ℕ) → unit < unit_count code → None ≡ fetch code unit
    → before ≡ image_of (insns_of (take unit (slots code))) → before ≡ image_of (insns_of (take (unit + 1) (slots code)))
encodes_none code unit before h e b = sym (append-nil before) ∙ encodes_more code unit before None h e b

-- the bytes of all units are the image
pub encodes_all : (code : List Insn) (unit : ℕ) (bytes : List ℕ) → IsCode code → unit_count code ≤ unit → bytes ≡ image_of (insns_of (take unit (slots code))) → IsImage code bytes
encodes_all code unit bytes is_code h e = record {
  is_code = is_code;
  spelling = e ∙ ap (λ (xs : List (Option Insn)). image_of (insns_of xs)) (whole (slots code) unit h) ∙ ap image_of (all_insns code);
}
  where
    whole : (xs : List (Option Insn)) (n : ℕ) → length xs ≤ n → take n xs ≡ xs
    whole [] zero h = refl
    whole [] (suc n) h = refl
    whole (x ∷ xs) zero h = absurd (omega arith)
    whole (x ∷ xs) (suc n) h = ap (λ (ys : List (Option Insn)). x ∷ ys) (whole xs n (omega arith))
