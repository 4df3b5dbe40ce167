-- Bytes that are written to a file, and to a part of this file.
use Rattle.std.proofs.Common.{◌≡◌, ⊎_elim, ℕ, ◌+◌, ◌-◌, ◌<◌, ◌≤◌, min, max, List, length, take, drop, get_or, sym, ◌∙◌, ap, arith, length-drop}
use Rattle.std.proofs.lemmas.Bool.{cases_lt}
use Rattle.std.proofs.lemmas.List.{get_or-take, get_or-drop, length-take-le}
use Rattle.sdbm_saves.specs.Disk.{written}
use Rattle.sdbm_saves.proofs.Lists.{length-written, written_before, written_inside, written_after}
use Rattle.sdbm_tail.specs.Tail.{IsPartFrom}

-- the bytes from `start` to `stop` of the file are new, and are in the part
module _ (from at start stop : ℕ) (bytes part whole : List ℕ) (start_is : start ≡ max at from) (stop_is : stop ≡ min (at + length bytes) (from + length part)) (some : start < stop) (inside : at + length bytes ≤ length whole)
    (is : IsPartFrom from part whole) where
  abbrev piece : List ℕ
  piece = take (stop - at - (start - at)) (drop (start - at) bytes)

  long : length piece ≡ stop - start
  long = length-take-le (stop - at - (start - at)) (drop (start - at) bytes) (omega (arith, length-drop (start - at) bytes, start_is, stop_is)) ∙ omega (arith, start_is, stop_is, some)

  fits : start - from + length piece ≤ length part
  fits = omega (arith, long, start_is, stop_is, some)

  pub part_written : (next : List ℕ) → next ≡ written (start - from) piece part → IsPartFrom from next (written at bytes whole)
  part_written next next_is i below = ap (λ (l : List ℕ). get_or l i 0) next_is ∙ ⊎_elim before (λ le. ⊎_elim (within le) after (cases_lt i (stop - from))) (cases_lt i (start - from))
    where
      lt : i < length part
      lt = omega (arith, below, ap (λ (l : List ℕ). length l) next_is, length-written (start - from) piece part (omega (arith, fits)))

      before : i < start - from → get_or (written (start - from) piece part) i 0 ≡ get_or (written at bytes whole) (from + i) 0
      before early = written_before (start - from) piece part i (omega (arith, fits)) early ∙ is i lt ∙ sym (written_before at bytes whole (from + i) (omega (arith, inside)) (omega (arith, early, start_is)))

      within : start - from ≤ i → i < stop - from → get_or (written (start - from) piece part) i 0 ≡ get_or (written at bytes whole) (from + i) 0
      within le early =
          let place : start - at + (i - (start - from)) ≡ from + i - at = omega (arith, le, early, start_is, stop_is, some) in
          written_inside (start - from) piece part i (omega (arith, fits)) le (omega (arith, early, long, start_is, some))
          ∙ get_or-take (stop - at - (start - at)) (drop (start - at) bytes) (i - (start - from)) 0 (omega (arith, le, early, start_is, stop_is, some))
          ∙ get_or-drop (start - at) bytes (i - (start - from)) 0
          ∙ ap (λ k. get_or bytes k 0) place
          ∙ sym (written_inside at bytes whole (from + i) (omega (arith, inside)) (omega (arith, le, start_is)) (omega (arith, early, stop_is)))

      after : stop - from ≤ i → get_or (written (start - from) piece part) i 0 ≡ get_or (written at bytes whole) (from + i) 0
      after late =
          written_after (start - from) piece part i (omega (arith, fits)) (omega (arith, late, long, start_is, some)) ∙ is i lt ∙ sym (written_after at bytes whole (from + i) (omega (arith, inside)) (omega (arith, late, lt, stop_is, some, start_is)))
