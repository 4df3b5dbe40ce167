-- Images and their codes.
use Rattle.std.proofs.Common.{◌≡◌, ℕ, List, Option, Some, None, refl, sym, ◌∙◌}
use Rattle.std.specs.Prelude.{slice_get}
use Rattle.std.specs.Option.{option_map}
use Rattle.std.proofs.lemmas.Option.{same_Some, slice_get-map}
use Rattle.bpf_insn.specs.declared.insn.Insn.{Insn}
use Rattle.bpf_insn.specs.Code.{IsImage}
use Rattle.bpf_insn.proofs.Images.{image_is_whole}
use Rattle.bpf_insn.proofs.Tells.{image_tells}
use Rattle.bpf_verify.specs.Verified.{Accepted, image_in}
use Rattle.prog_registry.specs.Judged.{IsProgramOf, IsSized}
use Rattle.prog_registry.specs.Programs.{StandsAt, ArePrograms}

-- an image has at most one code
pub same_code : (a b : List Insn) (image : List ℕ) → IsImage a image → IsImage b image → a ≡ b
same_code a b image x y = image_tells a b x.is_code.each y.is_code.each (sym x.spelling ∙ y.spelling)

pub image_of_program : (image : List ℕ) (p : Accepted) → IsProgramOf image p → IsImage p.code image
image_of_program image p one = record { is_code = one.is.is_code; spelling = sym one.spelled }

pub image_sized : (code : List Insn) (image : List ℕ) → IsImage code image → IsSized image
image_sized code image is = let sized = image_is_whole code image is in record { whole = sized.0; short = sized.1 }

pub program_sized : (p : Accepted) (image : List ℕ) → IsProgramOf image p → IsSized image
program_sized p image one = image_sized p.code image (image_of_program image p one)

-- an image with a number has an accepted program
pub stands_program : (programs : List Accepted) (image : List ℕ) (id : ℕ) → ArePrograms programs → StandsAt programs image id → (p : Accepted) × IsProgramOf image p
stands_program programs image id are stands = by_program (slice_get programs id) (λ p. are.each id p) (sym (slice_get-map image_in programs id) ∙ stands) where
  by_program : (o : Option Accepted) → ((p : Accepted) → o ≡ Some p → Rattle.prog_registry.specs.Judged.IsProgram p) → option_map image_in o ≡ Some image → (p : Accepted) × IsProgramOf image p
  by_program None each e = let f : ⊥ = cc in absurd f
  by_program (Some p) each e = (p, record { is = each p refl; spelled = same_Some (image_in p) image e })
