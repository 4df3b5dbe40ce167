-- Programs by number (own).
use Rattle.std.specs.Prelude.{ℕ, ◌≡◌, ◌≤◌, List, map, length, slice_get, Some}
use Rattle.bpf_verify.specs.Verified.{Accepted, image_in}
use Rattle.prog_registry.specs.Judged.{IsProgram}

-- the maximum number of programs
abbrev pub program_limit : ℕ
program_limit = 4096

-- the images of programs, by number
abbrev pub images_of : List Accepted → List (List ℕ)
images_of programs = map image_in programs

-- The image has this number.
abbrev pub StandsAt : List Accepted → List ℕ → ℕ → Type 0
StandsAt programs image id = slice_get (images_of programs) id ≡ Some image

-- The image has no number.
abbrev pub IsNew : List Accepted → List ℕ → Type 0
IsNew programs image = (id : ℕ) → StandsAt programs image id → ⊥

-- Accepted programs with distinct images.
pub record ArePrograms (programs : List Accepted) : Type 0 where
  pub few : length programs ≤ program_limit
  pub distinct : (image : List ℕ) (i j : ℕ) → StandsAt programs image i → StandsAt programs image j → i ≡ j
  pub each : (id : ℕ) (p : Accepted) → slice_get programs id ≡ Some p → IsProgram p
