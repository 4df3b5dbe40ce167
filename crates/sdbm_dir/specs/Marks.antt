-- The model of a directory.
use Rattle.std.specs.Prelude.{ℕ, ◌*◌, List, length, refl}
use Rattle.std.specs.Coded.{Coded, code_by, coded×, coded_ℕ, coded_list, coded_bool}
use Rattle.std.specs.FinSet as set
use Rattle.sdbm_addr.specs.Directory.{Splits}
use Rattle.sdbm_dir.specs.Bitmap.{splits_of}

-- the split prefixes, and the number of bits for which the directory has room
pub record Marks : Type 0 where
  pub splits : Splits
  pub room : ℕ

abbrev pub coded_marks : Coded Marks
coded_marks = code_by (Splits × ℕ) (coded× (set.code (coded_list coded_bool)) coded_ℕ) (λ m. (m.splits, m.room)) (λ p. record { splits = p.0; room = p.1 }) (λ _. refl)

-- the model of a bitmap
abbrev pub marks_of : List ℕ → Marks
marks_of bytes = record { splits = splits_of bytes; room = 8 * length bytes }
