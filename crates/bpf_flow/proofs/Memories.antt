-- Loads and stores, with the state before them.
use Rattle.std.proofs.Common.{◌≡◌, ◌≢◌, ℕ, ℤ, zero, suc, ◌+◌, ◌*◌, ◌^◌, ◌%◌, ◌<◌, ◌≤◌, length, drop, refl, sym, ap, ◌∙◌, arith, List, [], ◌∷◌, Option, Some, None, lit<}
use Rattle.std.specs.Prelude.{slice_index, IsSome, ◌+ℤ◌}
use Rattle.std.specs.Option.{option_and_then, option_map}
use Rattle.std.specs.Int.{cast_unsigned, w64}
use Rattle.std.proofs.Math.Nat.{pow-succ', mod-lt}
use Rattle.std.proofs.lemmas.Int.{ints}
use Rattle.byteorder.specs.Endian.{little_number, little_from, little_bytes}
use Rattle.bpf_insn.specs.declared.insn.Size.{Size}
use Rattle.bpf_insn.specs.declared.insn.Size.TheVariants.{Byte, Half, Word, Double}
use Rattle.bpf_insn.specs.declared.insn.Insn.TheVariants.{Load, LoadSigned, StoreImm, Store}
use Rattle.bpf_helpers.specs.declared.values.Region.{Region}
use Rattle.bpf_helpers.specs.declared.values.Region.TheVariants.{Record, Argument, Stack}
use Rattle.bpf_helpers.specs.declared.values.Value.{Value}
use Rattle.bpf_helpers.specs.declared.values.Value.TheVariants.{Nothing, Number, Pointer}
use Rattle.bpf_insn.specs.Arithmetic.{bytes_of, size_modulus, sign_extension}
use Rattle.bpf_helpers.specs.Machine.{Config, register, with_register, with_contents, contents, access, base_of, splice, loaded_number, after_number_store, after_store, next_unit}
use Rattle.bpf_helpers.specs.Runs.{AreBytes}
use Rattle.bpf_helpers.proofs.Lengths.{length_splice, inside_at, length_low}
use Rattle.bpf_range.specs.declared.known.Known.{Known}
use Rattle.bpf_range.specs.Sets.{Contains, In}
use Rattle.bpf_range.specs.declared.kinds.Kind.TheVariants.{Num}
use Rattle.bpf_flow.specs.declared.state.State.{State}
use Rattle.bpf_flow.specs.Kinds.{HoldsKind, IsNumber, IsPointer, Between}
use Rattle.bpf_flow.specs.States.{Fits, IsConfig, kind_in}
use Rattle.bpf_flow.specs.Steps.{Passes, Sets, Reaching, Accesses}
use Rattle.bpf_flow.proofs.Arms.{writes}

-- a register with pointers of a kind, all of whose accesses are inside, reaches the region
pub reaches : (s : State) (a : ℕ) (off : ℤ) (n : ℕ) (q : Region) (lo hi : ℤ) → a ≤ 10
    → ((m l : ℕ) (v : Value) → HoldsKind (kind_in s a) m l v → IsPointer q (Between lo hi) v)
    → Accesses q lo hi s off n → Reaching s a off n q
reaches s a off n q lo hi low place acc = λ c config f. at c config f (register c a) (place (length c.bytes) (length c.argument) (register c a) (f.kinds a (omega arith)))
  where
    at : (c : Config) → IsConfig c → Fits s c → (v : Value) → IsPointer q (Between lo hi) v → IsPointer q (λ o. IsSome (access c q (o +ℤ off) n)) v
    at c config f Nothing h = absurd h
    at c config f (Number x) h = absurd h
    at c config f (Pointer r o) h = (h.0, acc c config f o n h.1 (omega arith))

number_fits : (i n : ℕ) (xs : List ℕ) → AreBytes xs → little_from i n xs < 256 ^ n
number_fits i zero xs h = lit< tt
number_fits i (suc n) xs h =
    let a : slice_index xs i < 256 = h i in
    let b : little_from (suc i) n xs < 256 ^ n = number_fits (suc i) n xs h in
    let e : 256 ^ suc n ≡ 256 * 256 ^ n = pow-succ' 256 n in
    omega arith

pub drop_bytes : (k : ℕ) (xs : List ℕ) → AreBytes xs → AreBytes (drop k xs)
drop_bytes zero xs p i = p i
drop_bytes (suc k) [] p i = lit< tt
drop_bytes (suc k) (x ∷ xs) p i = drop_bytes k xs (λ j. p (suc j)) i

pub contents_bytes : (c : Config) (q : Region) → IsConfig c → AreBytes (contents c q)
contents_bytes c Record h = h.are_bytes
contents_bytes c Argument h = h.are_argument
contents_bytes c Stack h = h.are_stack

-- an access inside its region has a place
pub found : (o : Option ℕ) → IsSome o → (p : ℕ) × (o ≡ Some p)
found None h = let e : ⊥ = cc in absurd e
found (Some p) h = (p, refl)

sized : (n : Size) → 256 ^ bytes_of n ≡ size_modulus n
sized Byte = refl
sized Half = refl
sized Word = refl
sized Double = refl

loads : (c : Config) (q : Region) (off : ℤ) (n : ℕ) (v : Value) → IsConfig c → IsPointer q (λ o. IsSome (access c q (o +ℤ off) n)) v → (x : ℕ) × (loaded_number c v off n ≡ Some x) × (x < 256 ^ n)
loads c q off n Nothing config h = absurd h
loads c q off n (Number x) config h = absurd h
loads c q off n (Pointer r o) config h =
    let a : IsSome (access c r (o +ℤ off) n) = rw h.0 h.1 in
    let p = found (access c r (o +ℤ off) n) a in
    (little_number n (drop p.0 (contents c r)), ap (option_map (λ k. little_number n (drop k (contents c r)))) p.1, number_fits 0 n (drop p.0 (contents c r)) (drop_bytes p.0 (contents c r) (contents_bytes c r config)))

pub load_passes : (size : Size) (r a : ℕ) (off : ℤ) (q : Region) (s t : State) (k : Known) → Sets s t r (Num k) → r ≤ 10 → r ≢ 10
    → ((x : ℕ) → x < size_modulus size → Contains k x)
    → Reaching s a off (bytes_of size) q
    → Passes (Load size r a off) s t
load_passes size r a off q s t k set low ne all reach = λ c config f.
    let x = loads c q off (bytes_of size) (register c a) config (reach c config f) in
    let y : ℕ = x.0 in
    let b : y < size_modulus size = rw (sized size) at x.2 in
    let d = writes s t (Num k) r 1 c (Number y) set low ne config f (all y b) in
    (d.0, ap (option_and_then (λ z. with_register c 1 r (Number z))) x.1 ∙ d.1, d.2, d.3)

extension_fits : (n : Size) (x : ℕ) → sign_extension n x < 2 ^ 64
extension_fits Byte x = let h : x % 2 ^ 8 < 2 ^ 8 = mod-lt x (lit< tt) in omega (arith, ints)
extension_fits Half x = let h : x % 2 ^ 16 < 2 ^ 16 = mod-lt x (lit< tt) in omega (arith, ints)
extension_fits Word x = let h : x % 2 ^ 32 < 2 ^ 32 = mod-lt x (lit< tt) in omega (arith, ints)
extension_fits Double x = let h : x % 2 ^ 64 < 2 ^ 64 = mod-lt x (lit< tt) in omega (arith, ints)

pub load_signed_passes : (size : Size) (r a : ℕ) (off : ℤ) (q : Region) (s t : State) (k : Known) → Sets s t r (Num k) → r ≤ 10 → r ≢ 10
    → ((x : ℕ) → x < 2 ^ 64 → Contains k x)
    → Reaching s a off (bytes_of size) q
    → Passes (LoadSigned size r a off) s t
load_signed_passes size r a off q s t k set low ne all reach = λ c config f.
    let x = loads c q off (bytes_of size) (register c a) config (reach c config f) in
    let y : ℕ = sign_extension size x.0 in
    let d = writes s t (Num k) r 1 c (Number y) set low ne config f (all y (extension_fits size x.0)) in
    (d.0, ap (option_and_then (λ z. with_register c 1 r (Number (sign_extension size z)))) x.1 ∙ d.1, d.2, d.3)

-- ---- stores

-- a state still fits if registers and lengths are unchanged
pub same_fits : (s : State) (c d : Config) → d.registers ≡ c.registers → length d.bytes ≡ length c.bytes → length d.argument ≡ length c.argument → Fits s c → Fits s d
same_fits s c d r b a f = record {
  kinds = λ q h. rw (r, b, a) (f.kinds q h);
  bytes = rw b f.bytes;
  argument = rw a f.argument;
}

-- writing bytes changes nothing that a state describes
pub record Written (s : State) (c : Config) (q : Region) (p : ℕ) (new : List ℕ) : Type 0 where
  pub next : Config
  pub is : with_contents c q p new ≡ Some next
  pub place : next.place ≡ c.place
  pub registers : next.registers ≡ c.registers
  pub fits : Fits s next

pub writes_contents : (s : State) (c : Config) (q : Region) (p : ℕ) (new : List ℕ) → (q ≡ Argument → ⊥) → p + length new ≤ length (contents c q) → Fits s c → Written s c q p new
writes_contents s c Record p new ne l f =
    let d : Config = record c { bytes = splice c.bytes p new } in
    record { next = d; is = refl; place = refl; registers = refl; fits = same_fits s c d refl (length_splice c.bytes p new l) refl f }
writes_contents s c Argument p new ne l f = absurd (ne refl)
writes_contents s c Stack p new ne l f =
    let d : Config = record c { stack = splice c.stack p new } in
    record { next = d; is = refl; place = refl; registers = refl; fits = same_fits s c d refl refl refl f }

stores : (s : State) (c : Config) (q : Region) (off : ℤ) (n x : ℕ) (v : Value) → (q ≡ Argument → ⊥) → Fits s c → IsPointer q (λ o. IsSome (access c q (o +ℤ off) n)) v → (d : Config) × (after_number_store c v off n x ≡ Some d) × (d.place ≡ c.place + 1) × Fits s d
stores s c q off n x Nothing ne f h = absurd h
stores s c q off n x (Number y) ne f h = absurd h
stores s c q off n x (Pointer r o) ne f h =
    let a : IsSome (access c r (o +ℤ off) n) = rw h.0 h.1 in
    let p = found (access c r (o +ℤ off) n) a in
    let m : length (little_bytes n x) ≡ n = length_low 0 n x in
    let l : p.0 + n ≤ length (contents c r) = inside_at (o +ℤ off +ℤ base_of r) n (length (contents c r)) p.0 p.1 in
    let w : Written s c r p.0 (little_bytes n x) = writes_contents s c r p.0 (little_bytes n x) (λ e. ne (sym h.0 ∙ e)) (rw m l) f in (
      next_unit w.next,
      ap (option_and_then (λ k. option_map next_unit (with_contents c r k (little_bytes n x)))) p.1 ∙ ap (option_map next_unit) w.is,
      ap (λ z. z + 1) w.place,
      same_fits s w.next (next_unit w.next) refl refl refl w.fits,
    )

pub numbered : (P : ℕ → Type 0) (v : Value) → IsNumber P v → (x : ℕ) × (v ≡ Number x) × P x
numbered P Nothing h = absurd h
numbered P (Number x) h = (x, refl, h)
numbered P (Pointer r o) h = absurd h

pub store_passes : (size : Size) (r a : ℕ) (off : ℤ) (q : Region) (s : State) (y : Known) → a ≤ 10 → (q ≡ Argument → ⊥)
    → ((m n : ℕ) (v : Value) → In s.bytes m → In s.argument n → HoldsKind (kind_in s a) m n v → IsNumber (Contains y) v)
    → Reaching s r off (bytes_of size) q
    → Passes (Store size r off a) s s
store_passes size r a off q s y la ne num reach = λ c config f.
    let v = numbered (Contains y) (register c a) (num (length c.bytes) (length c.argument) (register c a) f.bytes f.argument (f.kinds a (omega arith))) in
    let d = stores s c q off (bytes_of size) v.0 (register c r) ne f (reach c config f) in
    (d.0, ap (after_store c (register c r) off (bytes_of size)) v.1 ∙ d.1, d.2, d.3)

pub store_imm_passes : (size : Size) (r : ℕ) (off k : ℤ) (q : Region) (s : State) → (q ≡ Argument → ⊥)
    → Reaching s r off (bytes_of size) q
    → Passes (StoreImm size r off k) s s
store_imm_passes size r off k q s ne reach = λ c config f.
    let d = stores s c q off (bytes_of size) (cast_unsigned w64 k) (register c r) ne f (reach c config f) in
    (d.0, d.1, d.2, d.3)
