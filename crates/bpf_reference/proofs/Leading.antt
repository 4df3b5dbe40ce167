-- The target of an effect that depends on a test.
use Rattle.std.proofs.Common.{◌≡◌, List, Option, Some, None, refl}
use Rattle.std.specs.Option.{option_and_then}
use Rattle.bpf_insn.specs.declared.insn.Insn.{Insn}
use Rattle.bpf_helpers.specs.Machine.{Config}
use Rattle.bpf_reference.specs.Cpu.{Leads}

-- the test fails
pub fails : {A : Type 0} (code : List Insn) (f : A → Option Config) (o : Option A) (c : Config) (result : Option Insn) → o ≡ None → result ≡ None → Leads code (option_and_then f o) c c result
fails code f o c result e r = rw (e, r) (refl, refl)

-- the test succeeds
pub gives : {A : Type 0} (code : List Insn) (f : A → Option Config) (o : Option A) (x : A) (c d : Config) (result : Option Insn) → o ≡ Some x → Leads code (f x) c d result → Leads code (option_and_then f o) c d result
gives code f o x c d result e h = rw e h

-- a function at equal arguments gives equal results
pub of_two : {A B C : Type 0} (f : A → B → C) (o r : C) (a x : A) (b y : B) → o ≡ f a b → a ≡ x → b ≡ y → o ≡ r → f x y ≡ r
of_two f o r a x b y e p q s = cc
