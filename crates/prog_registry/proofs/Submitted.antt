-- The faults of a submission.
use Rattle.std.proofs.Common.{◌≡◌, ◌≢◌, ℕ, ◌%◌, ◌/◌, ◌<◌, ◌⊎◌, List, length, IfOk, IfErr, refl, ◌∙◌, ap, subst, inl, inr, ⊎_elim, arith}
use Rattle.std.specs.Prelude.{Result, Ok, Err, IsErrOf, ◌↔◌}
use Rattle.bpf_insn.specs.declared.insn.Insn.{Insn}
use Rattle.bpf_insn.specs.declared.fault.DecodeFault.{DecodeFault}
use Rattle.bpf_insn.specs.declared.fault.DecodeFault.TheVariants.{Length, TooLong, Opcode, HalfWide, Register, Reserved}
use Rattle.bpf_insn.specs.declared.fault.DecodeFault.TheVariants as decode
use Rattle.bpf_insn.specs.Code.{IsImage, unit_limit}
use Rattle.bpf_insn.specs.Decoding.{IsWhole, HasFault}
use Rattle.bpf_verify.specs.declared.fault.VerifyFault.{VerifyFault}
use Rattle.bpf_verify.specs.Structure.{IsMisbuilt}
use Rattle.bpf_verify.specs.Verified.{Accepted}
use Rattle.bpf_verify.proofs.Misbuilt.{only_misbuilt, built_not}
use Rattle.prog_registry.specs.declared.fault.RegFault.{RegFault}
use Rattle.prog_registry.specs.declared.fault.RegFault.TheVariants.{NoMemory, Decode, Verify, Full}
use Rattle.prog_registry.specs.declared.registry.ProgId.{ProgId}
use Rattle.prog_registry.specs.Judged.{IsProgramOf, IsUndecoded, IsJudged, IsSized}
use Rattle.prog_registry.specs.Programs.{StandsAt, ArePrograms}
use Rattle.prog_registry.specs.Registry.{Registered, GivesNumber, AddsProgram, RefusesImage}
use Rattle.prog_registry.proofs.Codes.{same_code, image_of_program, image_sized, program_sized, stands_program}

abbrev undecoded : DecodeFault → Result ProgId RegFault
undecoded f = Err (Decode f)

abbrev unaccepted : VerifyFault → Result ProgId RegFault
unaccepted f = Err (Verify f)

-- ---- images of programs

given_program : (old : Registered) (image : List ℕ) (id : ℕ) (new : Registered) → ArePrograms old.programs → GivesNumber old image id new → (p : Accepted) × IsProgramOf image p
given_program old image id new are gives = ⊎_elim
    (λ (h : StandsAt old.programs image id × (new ≡ old)). stands_program old.programs image id are h.0)
    (λ (h : AddsProgram old image id new). (h.program, h.is))
    gives

-- ---- bytes that are not an image

-- Either the number of bytes is that of a possible code and no decoder fault is returned, or one is returned.
abbrev Decodes : List ℕ → Result ProgId RegFault → Type 0
Decodes image r = (IsSized image × ((f : DecodeFault) → r ≡ Err (Decode f) → ⊥)) ⊎ ((f : DecodeFault) × (r ≡ Err (Decode f)) × IsUndecoded image f)

decodes : (old new : Registered) (image : List ℕ) (r : Result ProgId RegFault) → ArePrograms old.programs → IfOk r (λ id. GivesNumber old image id.0 new) → IfErr r (λ f. RefusesImage old image f new) → Decodes image r
decodes old new image (Ok id) are ok err = let given = given_program old image id.0 new are ok in inl (program_sized given.0 image given.1, λ f e. let g : ⊥ = cc in g)
decodes old new image (Err NoMemory) are ok err = inl (err.1.0, λ f e. let g : ⊥ = cc in g)
decodes old new image (Err (Decode f)) are ok err = inr (f, refl, err.1.0)
decodes old new image (Err (Verify v)) are ok err = inl (image_sized err.1.0.code image err.1.0.is, λ f e. let g : ⊥ = cc in g)
decodes old new image (Err Full) are ok err = inl (program_sized err.1.0.program image err.1.0.is, λ f e. let g : ⊥ = cc in g)

same_decode : (f g : DecodeFault) (r : Result ProgId RegFault) → r ≡ Err (Decode f) → r ≡ Err (Decode g) → f ≡ g
same_decode f g r a b = cc

-- the fault if the bytes are not whole units
unwhole : (image : List ℕ) (f : DecodeFault) → IsUndecoded image f → length image % 8 ≢ 0 → f ≡ Length
unwhole image decode.NoMemory und n = absurd (und.told refl)
unwhole image Length und n = refl
unwhole image TooLong und n = absurd (n und.has.0)
unwhole image (Opcode at) und n = absurd (n und.has.whole)
unwhole image (HalfWide at) und n = absurd (n und.has.whole)
unwhole image (Register at) und n = absurd (n und.has.whole)
unwhole image (Reserved at) und n = absurd (n und.has.whole)

-- the fault if there are too many bytes
unshort : (image : List ℕ) (f : DecodeFault) → IsUndecoded image f → IsWhole image → unit_limit < length image / 8 → f ≡ TooLong
unshort image decode.NoMemory und w l = absurd (und.told refl)
unshort image Length und w l = absurd (und.has w)
unshort image TooLong und w l = refl
unshort image (Opcode at) und w l = let short = und.has.short in absurd (omega (arith, short))
unshort image (HalfWide at) und w l = let short = und.has.short in absurd (omega (arith, short))
unshort image (Register at) und w l = let short = und.has.short in absurd (omega (arith, short))
unshort image (Reserved at) und w l = let short = und.has.short in absurd (omega (arith, short))

pub length_told : (old new : Registered) (image : List ℕ) (r : Result ProgId RegFault) → ArePrograms old.programs → IfOk r (λ id. GivesNumber old image id.0 new) → IfErr r (λ f. RefusesImage old image f new)
    → IsErrOf r (Decode Length) ↔ (length image % 8 ≢ 0)
length_told old new image r are ok err = ⊎_elim
    (λ (h : IsSized image × ((f : DecodeFault) → r ≡ Err (Decode f) → ⊥)). (λ e. absurd (h.1 Length e), λ n. absurd (n h.0.whole)))
    (λ (h : (f : DecodeFault) × (r ≡ Err (Decode f)) × IsUndecoded image f). (
      λ e. subst (HasFault image) (same_decode h.0 Length r h.1 e) h.2.has,
      λ n. h.1 ∙ ap undecoded (unwhole image h.0 h.2 n),
    ))
    (decodes old new image r are ok err)

pub too_long_told : (old new : Registered) (image : List ℕ) (r : Result ProgId RegFault) → ArePrograms old.programs → IfOk r (λ id. GivesNumber old image id.0 new) → IfErr r (λ f. RefusesImage old image f new)
    → IsErrOf r (Decode TooLong) ↔ (IsWhole image × (unit_limit < length image / 8))
too_long_told old new image r are ok err = ⊎_elim
    (λ (h : IsSized image × ((f : DecodeFault) → r ≡ Err (Decode f) → ⊥)). (λ e. absurd (h.1 TooLong e), λ n. let short = h.0.short in let long = n.1 in absurd (omega (arith, short, long))))
    (λ (h : (f : DecodeFault) × (r ≡ Err (Decode f)) × IsUndecoded image f). (
      λ e. subst (HasFault image) (same_decode h.0 TooLong r h.1 e) h.2.has,
      λ n. h.1 ∙ ap undecoded (unshort image h.0 h.2 n.0 n.1),
    ))
    (decodes old new image r are ok err)

-- ---- codes with an invalid structure

unbuilt : (image : List ℕ) (code : List Insn) (fault : VerifyFault) (p : Accepted) → IsProgramOf image p → IsImage code image → IsMisbuilt code fault → ⊥
unbuilt image code fault p one is mis = built_not p.code fault one.is.built (subst (λ (c : List Insn). IsMisbuilt c fault) (same_code code p.code image is (image_of_program image p one)) mis)

judged_first : (image : List ℕ) (code : List Insn) (fault told : VerifyFault) → IsJudged image told → IsImage code image → IsMisbuilt code fault → told ≡ fault
judged_first image code fault told judged is mis =
    let here : IsMisbuilt judged.code fault = subst (λ (c : List Insn). IsMisbuilt c fault) (same_code code judged.code image is judged.is) mis in
    ⊎_elim (λ m. only_misbuilt judged.code told fault m here) (λ m. absurd (built_not judged.code fault m.0 here)) judged.refused

pub structure_told : (old new : Registered) (image : List ℕ) (r : Result ProgId RegFault) → ArePrograms old.programs → IfOk r (λ id. GivesNumber old image id.0 new) → IfErr r (λ f. RefusesImage old image f new)
    → (code : List Insn) (fault : VerifyFault) → IsImage code image → IsMisbuilt code fault → IsErrOf r (Verify fault) ⊎ IsErrOf r NoMemory
structure_told old new image (Ok id) are ok err code fault is mis = let given = given_program old image id.0 new are ok in absurd (unbuilt image code fault given.0 given.1 is mis)
structure_told old new image (Err NoMemory) are ok err code fault is mis = inr refl
structure_told old new image (Err (Decode f)) are ok err code fault is mis = absurd (err.1.0.none code is)
structure_told old new image (Err (Verify v)) are ok err code fault is mis = inl (ap unaccepted (judged_first image code fault v err.1.0 is mis))
structure_told old new image (Err Full) are ok err code fault is mis = absurd (unbuilt image code fault err.1.0.program err.1.0.is is mis)
