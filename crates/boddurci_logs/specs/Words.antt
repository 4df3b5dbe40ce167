-- Steps as words of 64 bits. A step has five words: its kind, its file, its offset in the file, its offset in the buffer, and a
-- length.
use Rattle.std.specs.Prelude.{ℕ, zero, suc, List, [], ◌∷◌, ◌++◌}
use Rattle.sdbm_saves.specs.declared.disk.DiskFile.{DiskFile}
use Rattle.sdbm_saves.specs.declared.disk.DiskFile.TheVariants.{Pages, Directory, Redo}
use Rattle.sdbm_log.specs.declared.steps.Step.{Step}
use Rattle.sdbm_log.specs.declared.steps.Step.TheVariants.{Write, Zeros, Resize, Sync}

abbrev pub number_of_file : DiskFile → ℕ
number_of_file Pages = 0
number_of_file Directory = 1
number_of_file Redo = 2

abbrev pub file_with_number : ℕ → DiskFile
file_with_number zero = Pages
file_with_number (suc n) = Directory

abbrev pub words_of_step : Step → List ℕ
words_of_step (Write file at from len) = 0 ∷ number_of_file file ∷ at ∷ from ∷ len ∷ []
words_of_step (Zeros file at len) = 1 ∷ number_of_file file ∷ at ∷ 0 ∷ len ∷ []
words_of_step (Resize file len) = 2 ∷ number_of_file file ∷ 0 ∷ 0 ∷ len ∷ []
words_of_step (Sync file) = 3 ∷ number_of_file file ∷ 0 ∷ 0 ∷ 0 ∷ []

abbrev pub words_of : List Step → List ℕ
words_of [] = []
words_of (step ∷ steps) = words_of_step step ++ words_of steps
