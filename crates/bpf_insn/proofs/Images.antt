-- The lengths of images, and reading an image instruction by instruction.
use Rattle.std.proofs.Common.{◌≡◌, ℕ, ◌+◌, ◌*◌, ◌≤◌, ◌<◌, ◌++◌, length, List, [], ◌∷◌, drop, Result, Ok, Err, refl, sym, ap, ◌∙◌, arith, length-append, append_assoc}
use Rattle.std.specs.List.{AllByRecursion}
use Rattle.std.proofs.lemmas.List.{append-nil, drop_at}
use Rattle.bpf_insn.specs.declared.insn.Insn.{Insn}
use Rattle.bpf_insn.specs.declared.insn.Insn.TheVariants.{Alu, Unary, Branch, Jump, JumpFar, Call, Exit, Load, LoadSigned, StoreImm, Store, Wide}
use Rattle.bpf_insn.specs.declared.operands.UnitFault.{UnitFault}
use Rattle.bpf_insn.specs.Spelling.{HasSpelling, spelling_of, NoneBegins}
use Rattle.bpf_insn.specs.Code.{slots, slots_of, unit_count, units_of, unit_limit, image_of, IsImage}
use Rattle.bpf_insn.specs.Rows.{OnlyFinds}
use Rattle.bpf_insn.specs.Decoding.{IsWhole, IsShort, FailsAt, HasFault, placed_fault}
use Rattle.bpf_insn.specs.declared.operands.UnitFault.TheVariants as unit
use Rattle.bpf_insn.proofs.Codes.{image_more}

-- ---- lengths

pub length_spelled : (i : Insn) → length (spelling_of i) ≡ 8 * units_of i
length_spelled (Alu op w d s) = refl
length_spelled (Unary op w d) = refl
length_spelled (Branch t w d s off) = refl
length_spelled (Jump off) = refl
length_spelled (JumpFar off) = refl
length_spelled (Call id) = refl
length_spelled Exit = refl
length_spelled (Load n d b off) = refl
length_spelled (LoadSigned n d b off) = refl
length_spelled (StoreImm n b off k) = refl
length_spelled (Store n b off s) = refl
length_spelled (Wide d n) = refl

units_more : (i : Insn) (is : List Insn) → unit_count (i ∷ is) ≡ units_of i + unit_count is
units_more i is = length-append (slots_of i) (slots is)

pub units_after : (code : List Insn) (i : Insn) → unit_count (code ++ i ∷ []) ≡ unit_count code + units_of i
units_after [] i = omega (arith, units_more i [])
units_after (c ∷ code) i = omega (arith, units_more c (code ++ i ∷ []), units_after code i, units_more c code)

pub length_image : (code : List Insn) → length (image_of code) ≡ 8 * unit_count code
length_image [] = refl
length_image (i ∷ is) = omega (arith, length-append (spelling_of i) (image_of is), length_image is, units_more i is, length_spelled i)

units_above : (i : Insn) → 0 < units_of i
units_above i = omega arith

-- ---- reading

-- the image is the code read so far and the rest; each code with this image is the code read so far followed by a code for the rest
pub record IsRead (image : List ℕ) (code : List Insn) (rest : List ℕ) : Type 0 where
  pub each : AllByRecursion HasSpelling code
  pub split : image ≡ image_of code ++ rest
  pub only : (c : List Insn) → AllByRecursion HasSpelling c → image ≡ image_of c → (tail : List Insn) × AllByRecursion HasSpelling tail × (c ≡ code ++ tail) × (rest ≡ image_of tail)

pub begins : (image : List ℕ) → IsRead image [] image
begins image = record { each = tt; split = refl; only = λ c each e. (c, each, refl, e) }

all_more : (code : List Insn) (i : Insn) → AllByRecursion HasSpelling code → HasSpelling i → AllByRecursion HasSpelling (code ++ i ∷ [])
all_more [] i each has = (has, tt)
all_more (c ∷ code) i each has = (each.0, all_more code i each.1 has)

-- equal lists with the same front have the same rest
pub same_rest : (a x y : List ℕ) → a ++ x ≡ a ++ y → x ≡ y
same_rest a x y e = sym (drop_at a x (length a) refl) ∙ ap (drop (length a)) e ∙ drop_at a y (length a) refl

abbrev found : Insn → Result Insn UnitFault
found i = Ok i

same_insn : (i j : Insn) → found i ≡ found j → i ≡ j
same_insn i j e = cc

pub goes_on : (image : List ℕ) (code : List Insn) (rest : List ℕ) (i : Insn) (behind : List ℕ) → IsRead image code rest → HasSpelling i → rest ≡ spelling_of i ++ behind
    → ((j : Insn) → OnlyFinds rest (found i) j) → IsRead image (code ++ i ∷ []) behind
goes_on image code rest i behind so_far has e only = record {
  each = all_more code i so_far.each has;
  split = so_far.split ∙ ap (λ (xs : List ℕ). image_of code ++ xs) e ∙ sym (append_assoc (image_of code) (spelling_of i) behind) ∙ ap (λ (xs : List ℕ). xs ++ behind) (sym (image_more code i));
  only = λ c each h. let t = so_far.only c each h in next c t.0 t.1 t.2 t.3;
}
  where
    next : (c tail : List Insn) → AllByRecursion HasSpelling tail → c ≡ code ++ tail → rest ≡ image_of tail
        → (more : List Insn) × AllByRecursion HasSpelling more × (c ≡ (code ++ i ∷ []) ++ more) × (behind ≡ image_of more)
    next c [] each p q = absurd (omega (arith, ap length (sym e ∙ q), length-append (spelling_of i) behind, length_spelled i, units_above i))
    next c (j ∷ more) each p q =
        let same = same_insn i j (only j (image_of more) each.0 q) in
        let spelling : spelling_of j ++ image_of more ≡ spelling_of i ++ image_of more = ap (λ (k : Insn). spelling_of k ++ image_of more) (sym same) in
        (more, each.1, p ∙ ap (λ (k : Insn). code ++ k ∷ more) (sym same) ∙ sym (append_assoc code (i ∷ []) more), same_rest (spelling_of i) behind (image_of more) (sym e ∙ q ∙ spelling))

-- ---- the end

long_enough : (image : List ℕ) (code : List Insn) (rest : List ℕ) → IsRead image code rest → length image ≡ 8 * unit_count code + length rest
long_enough image code rest r = omega (arith, ap length r.split, length-append (image_of code) rest, length_image code)

-- a rest that is not empty holds a unit
pub holds_unit : (image : List ℕ) (code : List Insn) (rest : List ℕ) → IsRead image code rest → IsWhole image → 0 < length rest → 8 ≤ length rest
holds_unit image code rest r whole h = omega (arith, long_enough image code rest r)

-- there is room for the next instruction
pub has_room : (image : List ℕ) (code : List Insn) (rest : List ℕ) (i : Insn) (behind : List ℕ) → IsRead image code rest → IsShort image → rest ≡ spelling_of i ++ behind → unit_count code + units_of i ≤ unit_limit
has_room image code rest i behind r short e = omega (arith, long_enough image code rest r, ap length e, length-append (spelling_of i) behind, length_spelled i)

pub ends : (image : List ℕ) (code : List Insn) → IsRead image code [] → IsShort image → IsImage code image
ends image code r short = record {
  is_code = record { each = r.each; short = omega (arith, long_enough image code [] r) };
  spelling = r.split ∙ append-nil (image_of code);
}

-- the empty rest is the image of no instructions
no_more : (tail : List Insn) → [] ≡ image_of tail → tail ≡ []
no_more [] e = refl
no_more (i ∷ is) e = absurd (omega (arith, ap length e, length-append (spelling_of i) (image_of is), length_spelled i, units_above i))

pub only_code : (image : List ℕ) (code : List Insn) → IsRead image code [] → (c : List Insn) → IsImage c image → code ≡ c
only_code image code r c h =
    let t = r.only c h.is_code.each h.spelling in
    sym (t.2 ∙ ap (λ (is : List Insn). code ++ is) (no_more t.0 t.3) ∙ append-nil code)

-- ---- a fault

pub none_begins : (rest : List ℕ) (f : UnitFault) → ((i : Insn) → OnlyFinds rest (Err f) i) → NoneBegins rest
none_begins rest f only i text more spells e = absurd (clash i (only i more spells.has (e ∙ ap (λ (xs : List ℕ). xs ++ more) spells.are)))
  where
    fault : Result Insn UnitFault
    fault = Err f

    clash : (i : Insn) → Err f ≡ found i → ⊥
    clash i e = cc

pub fails : (image : List ℕ) (code : List Insn) (rest : List ℕ) → IsRead image code rest → IsWhole image → IsShort image → 0 < length rest → NoneBegins rest → FailsAt image (unit_count code)
fails image code rest r whole short h none = record {
  whole = whole;
  short = short;
  before = code;
  rest = rest;
  is_code = record { each = r.each; short = omega (arith, long_enough image code rest r) };
  split = r.split;
  at_is = refl;
  within = omega (arith, long_enough image code rest r);
  none = none;
}

-- an image with a fault is not the image of a code
pub no_code : (image : List ℕ) (code : List Insn) (rest : List ℕ) → IsRead image code rest → 0 < length rest → NoneBegins rest → (c : List Insn) → IsImage c image → ⊥
no_code image code rest r h none c is =
    let t = r.only c is.is_code.each is.spelling in
    at t.0 t.1 t.3
  where
    at : (tail : List Insn) → AllByRecursion HasSpelling tail → rest ≡ image_of tail → ⊥
    at [] each e = omega (arith, ap length e)
    at (i ∷ more) each e = none i (spelling_of i) (image_of more) (record { has = each.0; are = refl }) e

-- the image of a code is a whole number of units, within the limit
pub image_is_whole : (code : List Insn) (bytes : List ℕ) → IsImage code bytes → IsWhole bytes × IsShort bytes
image_is_whole code bytes h = (omega (arith, ap length h.spelling, length_image code), omega (arith, ap length h.spelling, length_image code, h.is_code.short))

-- a unit's fault at its place
pub has_fault : (bytes : List ℕ) (at : ℕ) (f : UnitFault) → FailsAt bytes at → HasFault bytes (placed_fault f at)
has_fault bytes at unit.Opcode h = h
has_fault bytes at unit.HalfWide h = h
has_fault bytes at unit.Register h = h
has_fault bytes at unit.Reserved h = h
