-- A registry, and the effect of `submit` on it: rules of this project.
use Rattle.std.specs.Prelude.{ℕ, ◌≡◌, ◌<◌, ◌++◌, ◌⊎◌, List, [], ◌∷◌, length, None}
use Rattle.bpf_verify.specs.declared.fault.VerifyFault.{VerifyFault}
use Rattle.bpf_verify.specs.Verified.{Accepted}
use Rattle.prog_registry.specs.declared.fault.RegFault.{RegFault}
use Rattle.prog_registry.specs.declared.fault.RegFault.TheVariants.{NoMemory, Decode, Verify, Full}
use Rattle.prog_registry.specs.Judged.{IsProgramOf, IsUndecoded, IsJudged, IsSized}
use Rattle.prog_registry.specs.Programs.{StandsAt, IsNew, program_limit}
use Rattle.prog_registry.specs.Verdicts.{Recent, verdict_on, with_verdict, Recalls}

-- the programs by number, and the stored verdicts
pub record Registered : Type 0 where
  pub programs : List Accepted
  pub recent : Recent

-- ---- submissions that get a number

-- The program of a new image is appended. Its number is the number of earlier programs.
pub record AddsProgram (old : Registered) (image : List ℕ) (id : ℕ) (new : Registered) : Type 0 where
  pub is_new : IsNew old.programs image
  pub unjudged : verdict_on old.recent.verdicts image ≡ None
  pub room : length old.programs < program_limit
  pub next : id ≡ length old.programs
  pub program : Accepted
  pub is : IsProgramOf image program
  pub programs : new.programs ≡ old.programs ++ program ∷ []
  pub recent : new.recent ≡ old.recent

-- The number is that of a known image, and nothing changes; or the image is new and gets the number.
abbrev pub GivesNumber : Registered → List ℕ → ℕ → Registered → Type 0
GivesNumber old image id new = (StandsAt old.programs image id × (new ≡ old)) ⊎ AddsProgram old image id new

-- ---- submissions that are refused

-- A stored verdict is the answer, and only the verdicts change.
pub record RecallsIn (old : Registered) (image : List ℕ) (fault : VerifyFault) (new : Registered) : Type 0 where
  pub programs : new.programs ≡ old.programs
  pub recent : Recalls old.recent image fault new.recent

-- The verdict is new. It is stored, or nothing changes.
pub record KeepsVerdict (old : Registered) (image : List ℕ) (fault : VerifyFault) (new : Registered) : Type 0 where
  pub unjudged : verdict_on old.recent.verdicts image ≡ None
  pub programs : new.programs ≡ old.programs
  pub recent : (new.recent ≡ with_verdict old.recent image fault) ⊎ (new.recent ≡ old.recent)

-- The image has neither a number nor a stored verdict.
pub record IsUnheard (old : Registered) (image : List ℕ) : Type 0 where
  pub is_new : IsNew old.programs image
  pub unjudged : verdict_on old.recent.verdicts image ≡ None

-- The bytes are the image of an accepted program.
pub record IsAccepted (image : List ℕ) : Type 0 where
  pub program : Accepted
  pub is : IsProgramOf image program

-- The image gets no number, for this reason, and `new` is the registry after that.
abbrev pub RefusesImage : Registered → List ℕ → RegFault → Registered → Type 0
RefusesImage old image NoMemory new = IsUnheard old image × (IsSized image × (new ≡ old))
RefusesImage old image (Decode fault) new = IsUnheard old image × (IsUndecoded image fault × (new ≡ old))
RefusesImage old image (Verify fault) new = IsNew old.programs image × (IsJudged image fault × (RecallsIn old image fault new ⊎ KeepsVerdict old image fault new))
RefusesImage old image Full new = IsUnheard old image × (IsAccepted image × ((length old.programs ≡ program_limit) × (new ≡ old)))
