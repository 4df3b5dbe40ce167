-- The result for an image: an accepted program, or a fault (own).
use Rattle.std.specs.Prelude.{ℕ, ◌≡◌, ◌≢◌, List}
use Rattle.bpf_insn.specs.declared.insn.Insn.{Insn}
use Rattle.bpf_insn.specs.declared.fault.DecodeFault.{DecodeFault}
use Rattle.bpf_insn.specs.declared.fault.DecodeFault.TheVariants as decode
use Rattle.bpf_insn.specs.Code.{IsCode, IsImage}
use Rattle.bpf_insn.specs.Decoding.{HasFault, IsWhole, IsShort}
use Rattle.bpf_helpers.specs.Runs.{Safe}
use Rattle.bpf_verify.specs.declared.fault.VerifyFault.{VerifyFault}
use Rattle.bpf_verify.specs.declared.fault.VerifyFault.TheVariants as verify
use Rattle.bpf_verify.specs.Structure.{IsBuilt, IsRefused}
use Rattle.bpf_verify.specs.Verified.{Accepted, image_in}
use Rattle.prog_registry.specs.declared.fault.RegFault.{RegFault}
use Rattle.prog_registry.specs.declared.fault.RegFault.TheVariants.{NoMemory, Decode, Verify, Full}

-- An accepted program: its structure has no fault, and each of its runs is safe.
pub record IsProgram (p : Accepted) : Type 0 where
  pub is_code : IsCode p.code
  pub built : IsBuilt p.code
  pub safe : Safe p.code

-- the accepted program of an image
pub record IsProgramOf (image : List ℕ) (p : Accepted) : Type 0 where
  pub is : IsProgram p
  pub spelled : image_in p ≡ image

-- The bytes are not the image of a code, and have this fault.
pub record IsUndecoded (image : List ℕ) (fault : DecodeFault) : Type 0 where
  pub has : HasFault image fault
  pub told : fault ≢ decode.NoMemory
  pub none : (code : List Insn) → IsImage code image → ⊥

-- The bytes are the image of a code, which is refused with this fault.
pub record IsJudged (image : List ℕ) (fault : VerifyFault) : Type 0 where
  pub code : List Insn
  pub is : IsImage code image
  pub refused : IsRefused code fault
  pub told : fault ≢ verify.NoMemory

-- The number of bytes is that of a possible code.
pub record IsSized (image : List ℕ) : Type 0 where
  pub whole : IsWhole image
  pub short : IsShort image

-- The reason why an image gives no accepted program. `NoMemory` is possible only if the length is valid.
abbrev pub Condemns : List ℕ → RegFault → Type 0
Condemns image NoMemory = IsSized image
Condemns image (Decode fault) = IsUndecoded image fault
Condemns image (Verify fault) = IsJudged image fault
Condemns image Full = ⊥
