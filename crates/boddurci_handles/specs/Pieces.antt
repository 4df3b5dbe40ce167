-- The pieces of a `.pag`, read in order (own).
use Rattle.std.specs.Prelude.{◌≡◌, ◌≢◌, ◌⊎◌, ◌<◌, ◌≤◌, ◌+◌, ◌%◌, ◌^◌, ℕ, List, [], length, Option, Some, None}
use Rattle.sdbm_addr.specs.declared.PageSize.{PageSize}
use Rattle.sdbm_addr.specs.Pairs.{page_bytes}
use Rattle.sdbm_files.specs.Reading.{PagRead, with_piece}
use Rattle.boddurci_handles.specs.declared.pieces.Pieces.{Pieces}
use Rattle.boddurci_handles.specs.declared.status.Status.{Status}
use Rattle.boddurci_handles.specs.declared.status.Status.TheVariants.{Done, BadFiles, NoMemory, TooLong}

-- the part of the file read so far; before the first piece, an empty file with pages of this size
abbrev pub read_so_far : PageSize → Option Pieces → PagRead
read_so_far size None = record { size = size; bytes = [] }
read_so_far size (Some pieces) = pieces.pages

-- all bytes read
abbrev pub bytes_read : Option Pieces → List ℕ
bytes_read None = []
bytes_read (Some pieces) = pieces.pages.bytes

-- a piece may follow: whole pages were read, and the total number of bytes is within the limit
pub record MayFollow (read : PagRead) (piece : List ℕ) : Type 0 where
  pub whole : length read.bytes % page_bytes read.size ≡ 0
  pub short : length read.bytes + length piece < 2 ^ 63

-- the reason why a piece may not follow
abbrev pub DeniesPiece : PagRead → List ℕ → Status → Type 0
DeniesPiece read piece status =
    ((status ≡ BadFiles) × (length read.bytes % page_bytes read.size ≢ 0)) ⊎ ((status ≡ TooLong) × (2 ^ 63 ≤ length read.bytes + length piece))

-- a piece that may follow is read after the earlier ones
pub record HasPiece (size : PageSize) (piece : List ℕ) (old new : Option Pieces) : Type 0 where
  pub may_follow : MayFollow (read_so_far size old) piece
  pub pieces : Pieces
  pub new_is : new ≡ Some pieces
  pub is : pieces.pages ≡ with_piece (read_so_far size old) piece

-- A piece is read; or it may not follow, and nothing changes; or memory ran out for a valid piece, and the reading is free.
abbrev pub ReadsPiece : PageSize → List ℕ → Option Pieces → Option Pieces → Status → Type 0
ReadsPiece size piece old new status =
    ((status ≡ Done) × HasPiece size piece old new)
    ⊎ (((new ≡ old) × DeniesPiece (read_so_far size old) piece status) ⊎ ((status ≡ NoMemory) × ((new ≡ None) × MayFollow (read_so_far size old) piece)))
