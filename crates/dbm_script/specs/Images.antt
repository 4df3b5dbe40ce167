-- Lines that submit a program image: the number of the program, or the reason for the refusal.
use Rattle.std.specs.Prelude.{ℕ, ◌≡◌, ◌<◌, ◌++◌, ◌⊎◌, List, [], ◌∷◌, codes, decimal, length, slice_get, Some, Result, Ok, Err}
use Rattle.bpf_verify.specs.Verified.{Accepted, image_in}
use Rattle.prog_registry.specs.FaultText.{fault_text}
use Rattle.prog_registry.specs.Judged.{IsProgramOf, IsUndecoded, IsJudged}
use Rattle.prog_registry.specs.Programs.{StandsAt, IsNew, program_limit}
use Rattle.prog_registry.specs.Registry.{IsAccepted}
use Rattle.prog_registry.specs.declared.fault.RegFault.{RegFault}
use Rattle.prog_registry.specs.declared.fault.RegFault.TheVariants.{NoMemory, Decode, Verify, Full}

-- the verdict on an image: its accepted program, or the reason for the refusal
abbrev pub ImageVerdict : Type 0
ImageVerdict = Result Accepted RegFault

-- The program is already in the list, at exactly one index, its number. Nothing changes.
pub record IsThere (programs : List Accepted) (image : List ℕ) (p : Accepted) (id : ℕ) (programs' : List Accepted) : Type 0 where
  pub stands : slice_get programs id ≡ Some p
  pub spelled : image_in p ≡ image
  pub only : (other : ℕ) → StandsAt programs image other → id ≡ other
  pub same : programs' ≡ programs

-- A new program is appended to the list. Its number is the previous length of the list.
pub record GoesBehind (programs : List Accepted) (image : List ℕ) (p : Accepted) (id : ℕ) (programs' : List Accepted) : Type 0 where
  pub is_new : IsNew programs image
  pub room : length programs < program_limit
  pub is : IsProgramOf image p
  pub next : id ≡ length programs
  pub more : programs' ≡ programs ++ p ∷ []

abbrev pub Numbers : List Accepted → List ℕ → Accepted → ℕ → List Accepted → Type 0
Numbers programs image p id programs' = IsThere programs image p id programs' ⊎ GoesBehind programs image p id programs'

-- the reason for refusing a new program image
abbrev pub Denies : List Accepted → List ℕ → RegFault → Type 0
Denies programs image NoMemory = ⊥
Denies programs image (Decode fault) = IsUndecoded image fault
Denies programs image (Verify fault) = IsJudged image fault
Denies programs image Full = IsAccepted image × (length programs ≡ program_limit)

-- The answer to a line that submits an image, and the list of programs after it, given the verdict on the image.
abbrev pub AnswersImage : List Accepted → List ℕ → ImageVerdict → List ℕ → List Accepted → Type 0
AnswersImage programs image (Ok p) text programs' =
    (id : ℕ) × (Numbers programs image p id programs' × (text ≡ codes "program " ++ decimal id))
AnswersImage programs image (Err fault) text programs' =
    IsNew programs image × (Denies programs image fault × ((programs' ≡ programs) × (text ≡ codes "refused " ++ fault_text fault)))
