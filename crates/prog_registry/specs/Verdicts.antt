-- Verdicts on images that were refused (own).
use Rattle.std.specs.Prelude.{ℕ, ◌≡◌, ◌+◌, ◌-◌, ◌^◌, List, ◌∷◌, take, min, Contains, Option, Some}
use Rattle.std.specs.Str.{bytes_eq}
use Rattle.std.specs.Map.{lookup}
use Rattle.lru.specs.LruCache.{promoted}
use Rattle.bpf_verify.specs.declared.fault.VerifyFault.{VerifyFault}
use Rattle.prog_registry.specs.Judged.{IsJudged}

-- an image, and its fault
abbrev pub Verdict : Type 0
Verdict = List ℕ × VerifyFault

-- the stored verdicts, most recently used first, and the number of answers from them
pub record Recent : Type 0 where
  pub verdicts : List Verdict
  pub recalls : ℕ

-- the stored verdict on an image
abbrev pub verdict_on : List Verdict → List ℕ → Option VerifyFault
verdict_on verdicts image = lookup (bytes_eq image) verdicts

-- Each verdict is that of the verifier on its image.
abbrev pub AreVerdicts : List Verdict → Type 0
AreVerdicts verdicts = (v : Verdict) → Contains verdicts v → IsJudged v.0 v.1

-- the table after a new verdict: the verdict is first, and the last of 64 is removed
abbrev pub with_verdict : Recent → List ℕ → VerifyFault → Recent
with_verdict old image fault = record { verdicts = (image, fault) ∷ take 63 old.verdicts; recalls = old.recalls }

-- The verdict was stored. It moves to the front, and the answer is counted, saturating at 2 ^ 64 - 1.
pub record Recalls (old : Recent) (image : List ℕ) (fault : VerifyFault) (new : Recent) : Type 0 where
  pub was : verdict_on old.verdicts image ≡ Some fault
  pub first : new.verdicts ≡ promoted (bytes_eq image) old.verdicts
  pub counted : new.recalls ≡ min (old.recalls + 1) (2 ^ 64 - 1)
