-- A code has at most one fault of its structure.
use Rattle.std.proofs.Common.{◌≡◌, ◌<◌, ◌≤◌, sym, ap, ◌∙◌, arith, List, [], Some, None, ⊎_elim}
use Rattle.std.proofs.lemmas.Bool.{cases_lt}
use Rattle.std.proofs.lemmas.Option.{same_Some}
use Rattle.bpf_insn.specs.declared.insn.Insn.{Insn}
use Rattle.bpf_verify.specs.declared.fault.VerifyFault.{VerifyFault}
use Rattle.bpf_verify.specs.Structure.{unit_fault, IsBuilt, IsFirst, IsMisbuilt}

some_none : (f : VerifyFault) → Some f ≡ None → ⊥
some_none f e = cc

-- no instruction before the first fault has a fault
not_before : (code : List Insn) (f g : VerifyFault) (a : IsFirst code f) (b : IsFirst code g) → a.at < b.at → ⊥
not_before code f g a b less = some_none f (sym a.is ∙ b.before a.at less)

only_first : (code : List Insn) (f g : VerifyFault) → IsFirst code f → IsFirst code g → f ≡ g
only_first code f g a b = ⊎_elim
    (λ (less : a.at < b.at). absurd (not_before code f g a b less))
    (λ (most : b.at ≤ a.at). ⊎_elim
    (λ (less : b.at < a.at). absurd (not_before code g f b a less))
    (λ (least : a.at ≤ b.at).
    let same : a.at ≡ b.at = omega arith in
    same_Some f g (sym a.is ∙ ap (unit_fault code) same ∙ b.is))
    (cases_lt b.at a.at))
    (cases_lt a.at b.at)

none_first : (code : List Insn) (f : VerifyFault) → code ≡ [] → IsFirst code f → ⊥
none_first code f e a = some_none f (sym a.is ∙ ap (λ c. unit_fault c a.at) e)

pub only_misbuilt : (code : List Insn) (f g : VerifyFault) → IsMisbuilt code f → IsMisbuilt code g → f ≡ g
only_misbuilt code f g a b = ⊎_elim
    (λ x. ⊎_elim (λ y. x.1 ∙ sym y.1) (λ y. absurd (none_first code g x.0 y)) b)
    (λ x. ⊎_elim (λ y. absurd (none_first code f y.0 x)) (λ y. only_first code f g x y) b)
    a

pub built_not : (code : List Insn) (f : VerifyFault) → IsBuilt code → IsMisbuilt code f → ⊥
built_not code f b m = ⊎_elim (λ x. b.some x.0) (λ x. some_none f (sym x.is ∙ b.each x.at)) m
