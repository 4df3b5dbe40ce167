-- The representation of programs and verdicts.
use Rattle.std.specs.Prelude.{ℕ, ◌≡◌, List, map, Option, Some}
use Rattle.std.specs.Arc.{arc_value}
use Rattle.std.specs.declared.sync.Arc.{Arc}
use Rattle.std.specs.Map.{lookup}
use Rattle.std.specs.Str.{bytes_eq}
use Rattle.std.specs.declared.vec.Vec.{Vec}
use Rattle.lru.specs.LruCache.{LruCache}
use Rattle.bpf_verify.specs.declared.fault.VerifyFault.{VerifyFault}
use Rattle.bpf_verify.specs.Verified.{Accepted}
use Rattle.prog_registry.specs.Programs.{StandsAt, ArePrograms}
use Rattle.prog_registry.specs.Verdicts.{Verdict, AreVerdicts}

module _ {Z : Type 0} where
  -- the shared programs
  abbrev pub values_of : List (Arc Accepted Z) → List Accepted
  values_of shared = map arc_value shared

  -- the number that an image maps to
  abbrev pub number_of : List (Vec ℕ Z × ℕ) → List ℕ → Option ℕ
  number_of numbers image = lookup (λ k. bytes_eq image k.items) numbers

  -- each image maps to its number, and no other bytes map to a number
  pub record IsKept (programs : List Accepted) (numbers : List (Vec ℕ Z × ℕ)) : Type 0 where
    pub are : ArePrograms programs
    pub found : (image : List ℕ) (id : ℕ) → number_of numbers image ≡ Some id → StandsAt programs image id
    pub listed : (image : List ℕ) (id : ℕ) → StandsAt programs image id → number_of numbers image ≡ Some id

  -- the verdicts, each with the plain bytes of its image
  abbrev pub plain : List (Vec ℕ Z × VerifyFault) → List Verdict
  plain entries = map (λ e. (e.0.items, e.1)) entries

  pub record AreKept (cache : LruCache (Vec ℕ Z) VerifyFault) : Type 0 where
    pub limit : cache.cap ≡ 64
    pub are : AreVerdicts (plain cache.entries)
