-- The calls that open a log, save in a log, and empty or close a log. The calls of a list are made in order. If one of them fails, the
-- files are recovered when they are opened again.
use Rattle.std.specs.Prelude.{ℕ, zero, suc, ◌+◌, ◌-◌, List, [], ◌∷◌, ◌++◌, replicate}
use Rattle.sdbm_saves.specs.declared.disk.DiskFile.TheVariants.{Pages, Directory, Redo}
use Rattle.sdbm_saves.specs.Acts.{Act, write, resize, sync}
use Rattle.sdbm_saves.specs.Redo.{file_of, offset_of, data_of, rest_of, new_length, count_of, changes_of}

-- Sets the commit byte to 1 before the first record.
abbrev pub mark_acts : ℕ → List Act
mark_acts zero = write Redo 0 (1 ∷ []) ∷ []
mark_acts (suc end) = []

-- Commits a save: writes its record after the existing records, which end at `end`, and syncs the log once.
abbrev pub record_acts : ℕ → List ℕ → List Act
record_acts end record_bytes = write Redo (4096 + end) record_bytes ∷ sync Redo ∷ []

abbrev pub commit_acts : ℕ → List ℕ → List Act
commit_acts end record_bytes = mark_acts end ++ record_acts end record_bytes

-- Applies a plan to both data files without a sync.
abbrev pub change_acts : ℕ → List ℕ → List Act
change_acts zero changes = []
change_acts (suc n) changes = write (file_of changes) (offset_of changes) (data_of changes) ∷ change_acts n (rest_of changes)

abbrev pub apply_acts : List ℕ → List Act
apply_acts plan = resize Pages (new_length Pages plan) ∷ resize Directory (new_length Directory plan) ∷ change_acts (count_of plan) (changes_of plan)

-- Closes a log: syncs both data files, then clears the commit byte.
abbrev pub close_acts : List Act
close_acts = sync Pages ∷ sync Directory ∷ write Redo 0 (0 ∷ []) ∷ sync Redo ∷ []

-- Overwrites the first n bytes after the header of a closed log with zeros.
abbrev pub clear_acts : ℕ → List Act
clear_acts n = write Redo 4096 (replicate n 0) ∷ sync Redo ∷ []

-- Makes the redo file an empty log of `len` bytes.
abbrev pub start_acts : ℕ → List Act
start_acts len = resize Redo len ∷ write Redo 9 (replicate (len - 9) 0) ∷ write Redo 0 (0 ∷ 115 ∷ 100 ∷ 98 ∷ 109 ∷ 108 ∷ 111 ∷ 103 ∷ 49 ∷ []) ∷ sync Redo ∷ []

-- Syncs all three files: after a kill, bytes that are read may not be durable yet.
abbrev pub settle_acts : List Act
settle_acts = sync Redo ∷ sync Pages ∷ sync Directory ∷ []
