-- Rows determine their instructions: a spelling has at most one.
use Rattle.std.proofs.Common.{◌≡◌, ℕ, ℤ, ◌+◌, ◌*◌, ◌/◌, ◌^◌, ◌≤◌, ◌<◌, ◌++◌, List, [], ◌∷◌, refl, sym, ap, ◌∙◌, arith, inl, inr, take, drop, length, subst, length-append, zero, suc, Bool, true, Option, add-one}
use Rattle.std.specs.Option.{option_to_list}
use Rattle.std.specs.Str.{bytes_eq}
use Rattle.std.specs.Cmp.{both_ways}
use Rattle.std.proofs.Math.Seq.{take-length}
use Rattle.std.proofs.lemmas.Slice.Eq.{bytes_eq-Decides}
use Rattle.bpf_insn.specs.Stored.{insns_of}
use Rattle.bpf_insn.proofs.Codes.{next_insns, all_insns}
use Rattle.std.specs.Prelude.{pos, ◌≢◌, ◌⊎◌, ◌==◌, IsTrue, if◌then◌else◌, slice_index_or}
use Rattle.std.specs.Int.{cast_unsigned, cast_signed, w32}
use Rattle.bpf_insn.specs.declared.insn.Width.{Width}
use Rattle.bpf_insn.specs.declared.insn.Width.TheVariants.{W32, W64}
use Rattle.bpf_insn.specs.declared.insn.Size.{Size}
use Rattle.bpf_insn.specs.declared.insn.Size.TheVariants.{Byte, Half, Word, Double}
use Rattle.bpf_insn.specs.declared.insn.Op.{Op}
use Rattle.bpf_insn.specs.declared.insn.Op.TheVariants.{Add, Sub, Mul, Div, SDiv, Or, And, Lsh, Rsh, Neg, Mod, SMod, Xor, Mov, MovSx, Arsh, Little, Big, Swap}
use Rattle.bpf_insn.specs.declared.insn.Test.{Test}
use Rattle.bpf_insn.specs.declared.insn.Test.TheVariants.{Eq, Gt, Ge, Set, Ne, SGt, SGe, Lt, Le, SLt, SLe}
use Rattle.bpf_insn.specs.declared.insn.Operand.{Operand}
use Rattle.bpf_insn.specs.declared.insn.Operand.TheVariants.{Imm, Reg}
use Rattle.bpf_insn.specs.declared.insn.Insn.{Insn}
use Rattle.bpf_insn.specs.declared.insn.Insn.TheVariants.{Alu, Unary, Branch, Jump, JumpFar, Call, Exit, Load, LoadSigned, StoreImm, Store, Wide}
use Rattle.bpf_insn.specs.declared.fields.Fields.{Fields}
use Rattle.bpf_insn.proofs.Units.{unit_tells, made}
use Rattle.bpf_insn.proofs.RowFacts.{tells_number, tells_row, row_fits, high_half_fits}
use Rattle.bpf_insn.proofs.Images.{length_spelled, same_rest}
use Rattle.bpf_insn.specs.Code.{image_of, unit_count, fetch, slots}
use Rattle.std.specs.List.{AllByRecursion}
use Rattle.bpf_insn.specs.Spelling.{HasSpelling, spelling_of, row_of, high_half, high_number, code_of, selector_of, order_bit, swap_bits, size_code, test_code, source_bit, source_of, immediate_of, arithmetic_class, jump_class, takes_operand, is_binary, is_unary}

-- ---- from numbers back to names

size_at : ℕ → Size
size_at k = slice_index_or (Word ∷ Half ∷ Byte ∷ Double ∷ []) k Word

size_at_is : (n : Size) → size_at (size_code n) ≡ n
unfolding size_at
size_at_is Byte = refl
size_at_is Half = refl
size_at_is Word = refl
size_at_is Double = refl

size_tells : (m n : Size) → size_code m ≡ size_code n → m ≡ n
size_tells m n e = sym (size_at_is m) ∙ ap size_at e ∙ size_at_is n

test_at : ℕ → Test
test_at k = slice_index_or (Eq ∷ Eq ∷ Gt ∷ Ge ∷ Set ∷ Ne ∷ SGt ∷ SGe ∷ Eq ∷ Eq ∷ Lt ∷ Le ∷ SLt ∷ SLe ∷ []) k Eq

test_at_is : (t : Test) → test_at (test_code t) ≡ t
unfolding test_at
test_at_is Eq = refl
test_at_is Gt = refl
test_at_is Ge = refl
test_at_is Set = refl
test_at_is Ne = refl
test_at_is SGt = refl
test_at_is SGe = refl
test_at_is Lt = refl
test_at_is Le = refl
test_at_is SLt = refl
test_at_is SLe = refl

test_tells : (t u : Test) → test_code t ≡ test_code u → t ≡ u
test_tells t u e = sym (test_at_is t) ∙ ap test_at e ∙ test_at_is u

-- the size with k bits
size_of_bits : ℕ → Size
size_of_bits k = if k == 8 then Byte else (if k == 16 then Half else (if k == 32 then Word else Double))

op_at : ℕ → ℕ → Op
op_at code selector =
    if selector == 0 then slice_index_or (Add ∷ Sub ∷ Mul ∷ Div ∷ Or ∷ And ∷ Lsh ∷ Rsh ∷ Neg ∷ Mod ∷ Xor ∷ Mov ∷ Arsh ∷ []) code Add
    else (if selector == 1 then (if code == 3 then SDiv else SMod)
    else MovSx (size_of_bits selector))

op_at_is : (op : Op) → IsTrue (takes_operand op) → op_at (code_of op) (selector_of op) ≡ op
unfolding op_at size_of_bits
op_at_is Add h = refl
op_at_is Sub h = refl
op_at_is Mul h = refl
op_at_is Div h = refl
op_at_is SDiv h = refl
op_at_is Or h = refl
op_at_is And h = refl
op_at_is Lsh h = refl
op_at_is Rsh h = refl
op_at_is Mod h = refl
op_at_is SMod h = refl
op_at_is Xor h = refl
op_at_is Mov h = refl
op_at_is (MovSx Byte) h = refl
op_at_is (MovSx Half) h = refl
op_at_is (MovSx Word) h = refl
op_at_is Arsh h = refl
op_at_is op h = cc

op_tells : (a b : Op) → IsTrue (takes_operand a) → IsTrue (takes_operand b) → code_of a ≡ code_of b → selector_of a ≡ selector_of b → a ≡ b
op_tells a b h k e g = sym (op_at_is a h) ∙ ap (λ (n : ℕ). op_at n (selector_of a)) e ∙ ap (op_at (code_of b)) g ∙ op_at_is b k

unary_at : ℕ → ℕ → ℕ → ℕ → Op
unary_at code order class bits =
    if code == 8 then Neg
    else (if class == 7 then Swap (size_of_bits bits)
    else (if order == 8 then Big (size_of_bits bits) else Little (size_of_bits bits)))

unary_at_is : (op : Op) (w : Width) → IsTrue (is_unary op w) → unary_at (code_of op) (order_bit op) (arithmetic_class w) (swap_bits op) ≡ op
unfolding unary_at size_of_bits
unary_at_is Neg w h = refl
unary_at_is (Little Half) W32 h = refl
unary_at_is (Little Word) W32 h = refl
unary_at_is (Little Double) W32 h = refl
unary_at_is (Big Half) W32 h = refl
unary_at_is (Big Word) W32 h = refl
unary_at_is (Big Double) W32 h = refl
unary_at_is (Swap Half) W64 h = refl
unary_at_is (Swap Word) W64 h = refl
unary_at_is (Swap Double) W64 h = refl
unary_at_is (Little n) W64 h = cc
unary_at_is (Big n) W64 h = cc
unary_at_is (Swap n) W32 h = cc
unary_at_is (Little Byte) W32 h = cc
unary_at_is (Big Byte) W32 h = cc
unary_at_is (Swap Byte) W64 h = cc
unary_at_is op w h = cc

arithmetic_tells : (v w : Width) → arithmetic_class v ≡ arithmetic_class w → v ≡ w
arithmetic_tells W32 W32 e = refl
arithmetic_tells W32 W64 e = absurd (omega arith)
arithmetic_tells W64 W32 e = absurd (omega arith)
arithmetic_tells W64 W64 e = refl

jump_tells : (v w : Width) → jump_class v ≡ jump_class w → v ≡ w
jump_tells W32 W32 e = refl
jump_tells W32 W64 e = absurd (omega arith)
jump_tells W64 W32 e = absurd (omega arith)
jump_tells W64 W64 e = refl

operand_tells : (s t : Operand) → source_bit s ≡ source_bit t → source_of s ≡ source_of t → immediate_of s ≡ immediate_of t → s ≡ t
operand_tells (Imm k) (Imm m) e f g = ap (λ (z : ℤ). Imm z) g
operand_tells (Imm k) (Reg r) e f g = absurd (omega arith)
operand_tells (Reg r) (Imm k) e f g = absurd (omega arith)
operand_tells (Reg r) (Reg s) e f g = ap (λ (n : ℕ). Reg n) f

-- ---- the possible numbers

bit_is : (s : Operand) → (source_bit s ≡ 0) ⊎ (source_bit s ≡ 8)
bit_is (Imm k) = inl refl
bit_is (Reg r) = inr refl

arithmetic_is : (w : Width) → (arithmetic_class w ≡ 4) ⊎ (arithmetic_class w ≡ 7)
arithmetic_is W32 = inl refl
arithmetic_is W64 = inr refl

jump_is : (w : Width) → (jump_class w ≡ 6) ⊎ (jump_class w ≡ 5)
jump_is W32 = inl refl
jump_is W64 = inr refl

test_is : (t : Test) → (1 ≤ test_code t) × (test_code t ≤ 13) × (test_code t ≢ 8) × (test_code t ≢ 9)
test_is t = grind arith

binary_takes : (op : Op) (w : Width) (s : Operand) → IsTrue (is_binary op w s) → IsTrue (takes_operand op)
binary_takes op w s h = grind arith

binary_is : (op : Op) → IsTrue (takes_operand op) → (code_of op ≤ 12) × (code_of op ≢ 8)
binary_is op h = grind arith

unary_is : (op : Op) (w : Width) → IsTrue (is_unary op w) → (code_of op ≡ 8) ⊎ (code_of op ≡ 13)
unary_is op w h = grind arith

order_bit_is : (op : Op) → (order_bit op ≡ 0) ⊎ (order_bit op ≡ 8)
order_bit_is op = grind arith

size_is : (n : Size) → size_code n ≤ 3
size_is n = grind arith

-- ---- rows

some_pos : (a b : ℕ) → pos a ≡ pos b → a ≡ b
some_pos a b e = cc

opcodes : (i j : Insn) → row_of i ≡ row_of j → (row_of i).opcode ≡ (row_of j).opcode
opcodes i j e = ap (λ (f : Fields). f.opcode) e

alu_tells : (a b : Op) (v w : Width) (c d : ℕ) (s t : Operand) → HasSpelling (Alu a v c s) → HasSpelling (Alu b w d t) → row_of (Alu a v c s) ≡ row_of (Alu b w d t) → Alu a v c s ≡ Alu b w d t
alu_tells a b v w c d s t h k e =
    let o = opcodes (Alu a v c s) (Alu b w d t) e in
    let code : code_of a ≡ code_of b = omega (arith, o, bit_is s, bit_is t, arithmetic_is v, arithmetic_is w) in
    let bit : source_bit s ≡ source_bit t = omega (arith, o, bit_is s, bit_is t, arithmetic_is v, arithmetic_is w) in
    let class : arithmetic_class v ≡ arithmetic_class w = omega (arith, o, bit_is s, bit_is t, arithmetic_is v, arithmetic_is w) in
    let selector = some_pos _ _ (ap (λ (f : Fields). f.offset) e) in
    let op = op_tells a b (binary_takes a v s h.0) (binary_takes b w t k.0) code selector in
    let operand = operand_tells s t bit (ap (λ (f : Fields). f.src) e) (ap (λ (f : Fields). f.imm) e) in
    ap (λ (x : Op). Alu x v c s) op ∙ (ap (λ (x : Width). Alu b x c s) (arithmetic_tells v w class) ∙ (ap (λ (x : ℕ). Alu b w x s) (ap (λ (f : Fields). f.dst) e) ∙ ap (λ (x : Operand). Alu b w d x) operand))

unary_tells : (a b : Op) (v w : Width) (c d : ℕ) → HasSpelling (Unary a v c) → HasSpelling (Unary b w d) → row_of (Unary a v c) ≡ row_of (Unary b w d) → Unary a v c ≡ Unary b w d
unary_tells a b v w c d h k e =
    let o = opcodes (Unary a v c) (Unary b w d) e in
    let code : code_of a ≡ code_of b = omega (arith, o, order_bit_is a, order_bit_is b, arithmetic_is v, arithmetic_is w) in
    let order : order_bit a ≡ order_bit b = omega (arith, o, order_bit_is a, order_bit_is b, arithmetic_is v, arithmetic_is w) in
    let class : arithmetic_class v ≡ arithmetic_class w = omega (arith, o, order_bit_is a, order_bit_is b, arithmetic_is v, arithmetic_is w) in
    let bits = some_pos _ _ (ap (λ (f : Fields). f.imm) e) in
    let op : a ≡ b = sym (unary_at_is a v h.0) ∙ (ap (λ (x : ℕ). unary_at x (order_bit a) (arithmetic_class v) (swap_bits a)) code ∙ (ap (λ (x : ℕ). unary_at (code_of b) x (arithmetic_class v) (swap_bits a)) order ∙ (ap (λ (x : ℕ). unary_at (code_of b) (order_bit b) x (swap_bits a)) class ∙ (ap (unary_at (code_of b) (order_bit b) (arithmetic_class w)) bits ∙ unary_at_is b w k.0)))) in
    ap (λ (x : Op). Unary x v c) op ∙ (ap (λ (x : Width). Unary b x c) (arithmetic_tells v w class) ∙ ap (λ (x : ℕ). Unary b w x) (ap (λ (f : Fields). f.dst) e))

branch_tells : (a b : Test) (v w : Width) (c d : ℕ) (s t : Operand) (x y : ℤ) → row_of (Branch a v c s x) ≡ row_of (Branch b w d t y) → Branch a v c s x ≡ Branch b w d t y
branch_tells a b v w c d s t x y e =
    let o = opcodes (Branch a v c s x) (Branch b w d t y) e in
    let code : test_code a ≡ test_code b = omega (arith, o, bit_is s, bit_is t, jump_is v, jump_is w) in
    let bit : source_bit s ≡ source_bit t = omega (arith, o, bit_is s, bit_is t, jump_is v, jump_is w) in
    let class : jump_class v ≡ jump_class w = omega (arith, o, bit_is s, bit_is t, jump_is v, jump_is w) in
    let operand = operand_tells s t bit (ap (λ (f : Fields). f.src) e) (ap (λ (f : Fields). f.imm) e) in
    ap (λ (z : Test). Branch z v c s x) (test_tells a b code) ∙ (ap (λ (z : Width). Branch b z c s x) (jump_tells v w class) ∙ (ap (λ (z : ℕ). Branch b w z s x) (ap (λ (f : Fields). f.dst) e) ∙ (ap (λ (z : Operand). Branch b w d z x) operand ∙ ap (λ (z : ℤ). Branch b w d t z) (ap (λ (f : Fields). f.offset) e))))

-- a form of five parts from its row
access_tells : (F : Size → ℕ → ℕ → ℤ → Insn) (m n : Size) (a b c d : ℕ) (x y : ℤ) → size_code m ≡ size_code n → a ≡ b → c ≡ d → x ≡ y → F m a c x ≡ F n b d y
access_tells F m n a b c d x y e f g h =
    ap (λ (z : Size). F z a c x) (size_tells m n e) ∙ (ap (λ (z : ℕ). F n z c x) f ∙ (ap (λ (z : ℕ). F n b z x) g ∙ ap (λ (z : ℤ). F n b d z) h))

-- rows of different forms differ
apart : (i j : Insn) → row_of i ≡ row_of j → (row_of i).opcode ≢ (row_of j).opcode → i ≡ j
apart i j e other = absurd (other (opcodes i j e))

-- Instructions with the same row are equal, if the high halves of constants are equal too.
pub row_tells : (i j : Insn) → HasSpelling i → HasSpelling j → row_of i ≡ row_of j → ((c m d n : ℕ) → i ≡ Wide c m → j ≡ Wide d n → high_half m ≡ high_half n) → i ≡ j
row_tells (Alu a v c s) (Alu b w d t) h k e g = alu_tells a b v w c d s t h k e
row_tells (Alu a v c s) (Unary b w d) h k e g = apart _ _ e (λ o. omega (arith, o, binary_is a (binary_takes a v s h.0), bit_is s, unary_is b w k.0, order_bit_is b, arithmetic_is v, arithmetic_is w))
row_tells (Alu a v c s) (Branch t w d u y) h k e g = apart _ _ e (λ o. omega (arith, o, bit_is s, bit_is u, arithmetic_is v, jump_is w))
row_tells (Alu a v c s) j h k e g = apart _ j e (λ o. omega (arith, o, bit_is s, arithmetic_is v))
row_tells (Unary b w d) (Alu a v c s) h k e g = apart _ _ e (λ o. omega (arith, o, binary_is a (binary_takes a v s k.0), bit_is s, unary_is b w h.0, order_bit_is b, arithmetic_is v, arithmetic_is w))
row_tells (Unary a v c) (Unary b w d) h k e g = unary_tells a b v w c d h k e
row_tells (Unary a v c) (Branch t w d u y) h k e g = apart _ _ e (λ o. omega (arith, o, order_bit_is a, bit_is u, arithmetic_is v, jump_is w))
row_tells (Unary a v c) j h k e g = apart _ j e (λ o. omega (arith, o, order_bit_is a, arithmetic_is v))
row_tells (Branch t w d u y) (Alu a v c s) h k e g = apart _ _ e (λ o. omega (arith, o, bit_is s, bit_is u, arithmetic_is v, jump_is w))
row_tells (Branch t w d u y) (Unary a v c) h k e g = apart _ _ e (λ o. omega (arith, o, order_bit_is a, bit_is u, arithmetic_is v, jump_is w))
row_tells (Branch a v c s x) (Branch b w d t y) h k e g = branch_tells a b v w c d s t x y e
row_tells (Branch a v c s x) j h k e g = apart _ j e (λ o. omega (arith, o, test_is a, bit_is s, jump_is v))
row_tells (Jump x) (Jump y) h k e g = ap (λ (z : ℤ). Jump z) (ap (λ (f : Fields). f.offset) e)
row_tells (JumpFar x) (JumpFar y) h k e g = ap (λ (z : ℤ). JumpFar z) (ap (λ (f : Fields). f.imm) e)
row_tells (Call x) (Call y) h k e g = ap (λ (z : ℤ). Call z) (ap (λ (f : Fields). f.imm) e)
row_tells Exit Exit h k e g = refl
row_tells (Load m a c x) (Load n b d y) h k e g =
    let o = opcodes (Load m a c x) (Load n b d y) e in
    access_tells (λ (z : Size) (p q : ℕ) (r : ℤ). Load z p q r) m n a b c d x y (omega (arith, o)) (ap (λ (f : Fields). f.dst) e) (ap (λ (f : Fields). f.src) e) (ap (λ (f : Fields). f.offset) e)
row_tells (LoadSigned m a c x) (LoadSigned n b d y) h k e g =
    let o = opcodes (LoadSigned m a c x) (LoadSigned n b d y) e in
    access_tells (λ (z : Size) (p q : ℕ) (r : ℤ). LoadSigned z p q r) m n a b c d x y (omega (arith, o)) (ap (λ (f : Fields). f.dst) e) (ap (λ (f : Fields). f.src) e) (ap (λ (f : Fields). f.offset) e)
row_tells (Store m a x c) (Store n b y d) h k e g =
    let o = opcodes (Store m a x c) (Store n b y d) e in
    access_tells (λ (z : Size) (p q : ℕ) (r : ℤ). Store z p r q) m n a b c d x y (omega (arith, o)) (ap (λ (f : Fields). f.dst) e) (ap (λ (f : Fields). f.src) e) (ap (λ (f : Fields). f.offset) e)
row_tells (StoreImm m a x u) (StoreImm n b y v) h k e g =
    let o = opcodes (StoreImm m a x u) (StoreImm n b y v) e in
    access_tells (λ (z : Size) (p q : ℕ) (r : ℤ). StoreImm z p r u) m n a b 0 0 x y (omega (arith, o)) (ap (λ (f : Fields). f.dst) e) refl (ap (λ (f : Fields). f.offset) e) ∙ ap (λ (z : ℤ). StoreImm n b y z) (ap (λ (f : Fields). f.imm) e)
row_tells (Wide c m) (Wide d n) h k e g =
    let number = sym (tells_number c m (row_of (Wide c m)) (high_half m) h.1 refl refl) ∙ (ap (λ (f : Fields). cast_unsigned w32 (high_half m).imm * 2 ^ 32 + cast_unsigned w32 f.imm) e ∙ (ap (λ (f : Fields). cast_unsigned w32 f.imm * 2 ^ 32 + cast_unsigned w32 (row_of (Wide d n)).imm) (g c m d n refl refl) ∙ tells_number d n (row_of (Wide d n)) (high_half n) k.1 refl refl)) in
    ap (λ (z : ℕ). Wide z m) (ap (λ (f : Fields). f.dst) e) ∙ ap (λ (z : ℕ). Wide d z) number
row_tells (Jump x) (Alu b w d t) h k e g = apart _ _ e (λ o. omega (arith, o, bit_is t, arithmetic_is w))
row_tells (Jump x) (Unary b w d) h k e g = apart _ _ e (λ o. omega (arith, o, order_bit_is b, arithmetic_is w))
row_tells (Jump x) (Branch b w d t y) h k e g = apart _ _ e (λ o. omega (arith, o, test_is b, bit_is t, jump_is w))
row_tells (Jump x) j h k e g = apart _ j e (λ o. omega (arith, o))
row_tells (JumpFar x) (Alu b w d t) h k e g = apart _ _ e (λ o. omega (arith, o, bit_is t, arithmetic_is w))
row_tells (JumpFar x) (Unary b w d) h k e g = apart _ _ e (λ o. omega (arith, o, order_bit_is b, arithmetic_is w))
row_tells (JumpFar x) (Branch b w d t y) h k e g = apart _ _ e (λ o. omega (arith, o, test_is b, bit_is t, jump_is w))
row_tells (JumpFar x) j h k e g = apart _ j e (λ o. omega (arith, o))
row_tells (Call x) (Alu b w d t) h k e g = apart _ _ e (λ o. omega (arith, o, bit_is t, arithmetic_is w))
row_tells (Call x) (Unary b w d) h k e g = apart _ _ e (λ o. omega (arith, o, order_bit_is b, arithmetic_is w))
row_tells (Call x) (Branch b w d t y) h k e g = apart _ _ e (λ o. omega (arith, o, test_is b, bit_is t, jump_is w))
row_tells (Call x) j h k e g = apart _ j e (λ o. omega (arith, o))
row_tells Exit (Alu b w d t) h k e g = apart _ _ e (λ o. omega (arith, o, bit_is t, arithmetic_is w))
row_tells Exit (Unary b w d) h k e g = apart _ _ e (λ o. omega (arith, o, order_bit_is b, arithmetic_is w))
row_tells Exit (Branch b w d t y) h k e g = apart _ _ e (λ o. omega (arith, o, test_is b, bit_is t, jump_is w))
row_tells Exit j h k e g = apart _ j e (λ o. omega (arith, o))
row_tells (Load m a c x) (Alu b w d t) h k e g = apart _ _ e (λ o. omega (arith, o, bit_is t, arithmetic_is w, size_is m))
row_tells (Load m a c x) (Unary b w d) h k e g = apart _ _ e (λ o. omega (arith, o, order_bit_is b, arithmetic_is w, size_is m))
row_tells (Load m a c x) (Branch b w d t y) h k e g = apart _ _ e (λ o. omega (arith, o, test_is b, bit_is t, jump_is w, size_is m))
row_tells (Load m a c x) (LoadSigned n b d y) h k e g = apart _ _ e (λ o. omega (arith, o, size_is m, size_is n))
row_tells (Load m a c x) j h k e g = apart _ j e (λ o. omega (arith, o, size_is m))
row_tells (LoadSigned m a c x) (Alu b w d t) h k e g = apart _ _ e (λ o. omega (arith, o, bit_is t, arithmetic_is w, size_is m))
row_tells (LoadSigned m a c x) (Unary b w d) h k e g = apart _ _ e (λ o. omega (arith, o, order_bit_is b, arithmetic_is w, size_is m))
row_tells (LoadSigned m a c x) (Branch b w d t y) h k e g = apart _ _ e (λ o. omega (arith, o, test_is b, bit_is t, jump_is w, size_is m))
row_tells (LoadSigned m a c x) (Load n b d y) h k e g = apart _ _ e (λ o. omega (arith, o, size_is m, size_is n))
row_tells (LoadSigned m a c x) j h k e g = apart _ j e (λ o. omega (arith, o, size_is m))
row_tells (StoreImm m a x u) (Alu b w d t) h k e g = apart _ _ e (λ o. omega (arith, o, bit_is t, arithmetic_is w, size_is m))
row_tells (StoreImm m a x u) (Unary b w d) h k e g = apart _ _ e (λ o. omega (arith, o, order_bit_is b, arithmetic_is w, size_is m))
row_tells (StoreImm m a x u) (Branch b w d t y) h k e g = apart _ _ e (λ o. omega (arith, o, test_is b, bit_is t, jump_is w, size_is m))
row_tells (StoreImm m a x u) j h k e g = apart _ j e (λ o. omega (arith, o, size_is m))
row_tells (Store m a x c) (Alu b w d t) h k e g = apart _ _ e (λ o. omega (arith, o, bit_is t, arithmetic_is w, size_is m))
row_tells (Store m a x c) (Unary b w d) h k e g = apart _ _ e (λ o. omega (arith, o, order_bit_is b, arithmetic_is w, size_is m))
row_tells (Store m a x c) (Branch b w d t y) h k e g = apart _ _ e (λ o. omega (arith, o, test_is b, bit_is t, jump_is w, size_is m))
row_tells (Store m a x c) j h k e g = apart _ j e (λ o. omega (arith, o, size_is m))
row_tells (Wide c m) (Alu b w d t) h k e g = apart _ _ e (λ o. omega (arith, o, bit_is t, arithmetic_is w))
row_tells (Wide c m) (Unary b w d) h k e g = apart _ _ e (λ o. omega (arith, o, order_bit_is b, arithmetic_is w))
row_tells (Wide c m) (Branch b w d t y) h k e g = apart _ _ e (λ o. omega (arith, o, test_is b, bit_is t, jump_is w))
row_tells (Wide c m) j h k e g = apart _ j e (λ o. omega (arith, o))

-- ---- spellings

-- Bytes begin with the spelling of at most one instruction.
pub spelling_tells : (i j : Insn) (x y : List ℕ) → HasSpelling i → HasSpelling j → spelling_of i ++ x ≡ spelling_of j ++ y → (i ≡ j) × (x ≡ y)
spelling_tells i j x y h k e =
    let row : row_of i ≡ row_of j = tells_row i (row_of j) (spelling_of j ++ y) x (row_fits j k) refl h (sym e) in
    let same : i ≡ j = row_tells i j h k row high in
    (same, same_rest (spelling_of j) x y (ap (λ (a : Insn). spelling_of a ++ x) (sym same) ∙ e))
  where
    halves : (c m d n : ℕ) → HasSpelling (Wide c m) → HasSpelling (Wide d n) → spelling_of (Wide c m) ++ x ≡ spelling_of (Wide d n) ++ y → high_half m ≡ high_half n
    halves c m d n p q f = unit_tells (high_half m) (high_half n) (high_half_fits m p.1) (high_half_fits n q.1) (ap (λ (bs : List ℕ). take 8 (drop 8 bs)) f)

    high : (c m d n : ℕ) → i ≡ Wide c m → j ≡ Wide d n → high_half m ≡ high_half n
    high c m d n p q = halves c m d n (subst HasSpelling p h) (subst HasSpelling q k) (ap (λ (a : Insn). spelling_of a ++ x) (sym p) ∙ (e ∙ ap (λ (a : Insn). spelling_of a ++ y) q))

-- Codes with the same bytes are the same.
pub image_tells : (c d : List Insn) → AllByRecursion HasSpelling c → AllByRecursion HasSpelling d → image_of c ≡ image_of d → c ≡ d
image_tells [] [] h k e = refl
image_tells [] (j ∷ js) h k e = absurd (omega (arith, ap length e, length-append (spelling_of j) (image_of js), length_spelled j))
image_tells (i ∷ is) [] h k e = absurd (omega (arith, ap length e, length-append (spelling_of i) (image_of is), length_spelled i))
image_tells (i ∷ is) (j ∷ js) h k e =
    let t = spelling_tells i j (image_of is) (image_of js) h.0 k.0 e in
    ap (λ (a : Insn). a ∷ is) t.0 ∙ ap (λ (rest : List Insn). j ∷ rest) (image_tells is js h.1 k.1 t.1)

-- ---- equality

high_tells : (m n : ℕ) → m / 2 ^ 32 ≡ n / 2 ^ 32 → high_half m ≡ high_half n
high_tells m n e = ap (λ (k : ℕ). made 0 0 0 (pos 0) (cast_signed w32 k)) e

pub same_by_parts : (i j : Insn) → HasSpelling i → HasSpelling j → row_of i ≡ row_of j → high_number i ≡ high_number j → i ≡ j
same_by_parts i j h k e g = row_tells i j h k e (λ c m d n p q. high_tells m n (sym (ap high_number p) ∙ (g ∙ ap high_number q)))

-- a test of sameness has the same result as comparing the images
pub image_answer : (c d : List Insn) (r : Bool) → AllByRecursion HasSpelling c → AllByRecursion HasSpelling d → (r ≡ true → c ≡ d) → (c ≡ d → r ≡ true) → r ≡ bytes_eq (image_of c) (image_of d)
image_answer c d r h k f g =
    let decides = bytes_eq-Decides (image_of c) (image_of d) in
    both_ways r (bytes_eq (image_of c) (image_of d)) (λ t. decides.1 (ap image_of (f t))) (λ t. g (image_tells c d h k (decides.0 t)))

-- codes with the same number of units and the same instruction at each are the same
pub units_tell : (c d : List Insn) → unit_count c ≡ unit_count d → ((u : ℕ) → u < unit_count c → fetch c u ≡ fetch d u) → c ≡ d
units_tell c d same each = sym (whole c) ∙ (front (unit_count c) (λ u lt. each u lt) (omega arith) (omega arith) ∙ (ap (λ (n : ℕ). insns_of (take n (slots d))) same ∙ whole d))
  where
    whole : (code : List Insn) → insns_of (take (unit_count code) (slots code)) ≡ code
    whole code = ap insns_of (take-length (slots code)) ∙ all_insns code

    front : (n : ℕ) → ((u : ℕ) → u < n → fetch c u ≡ fetch d u) → n ≤ unit_count c → n ≤ unit_count d → insns_of (take n (slots c)) ≡ insns_of (take n (slots d))
    front zero each p q = refl
    front (suc n) each p q =
        let here : fetch c n ≡ fetch d n = each n (omega arith) in
        let before : insns_of (take n (slots c)) ≡ insns_of (take n (slots d)) = front n (λ u lt. each u (omega arith)) (omega arith) (omega arith) in
        ap (λ (m : ℕ). insns_of (take m (slots c))) (sym (add-one n)) ∙ (next_insns (slots c) n (omega arith) ∙ (ap (λ (xs : List Insn). xs ++ option_to_list (fetch c n)) before ∙ (ap (λ (o : Option Insn). insns_of (take n (slots d)) ++ option_to_list o) here ∙ (sym (next_insns (slots d) n (omega arith)) ∙ ap (λ (m : ℕ). insns_of (take m (slots d))) (add-one n)))))
