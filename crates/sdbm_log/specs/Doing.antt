-- Lists of calls that are made in order on the three files, and the images that a crash leaves before, during and after the calls.
use Rattle.std.specs.Prelude.{◌≤◌, ◌≡◌, ◌⊎◌, List, [], ◌∷◌, length}
use Rattle.sdbm_saves.specs.Disk.{Image, content}
use Rattle.sdbm_saves.specs.Acts.{Act, write, resize, sync, clear, acted, seen_after, LeftBy, LeftAfter}

-- A call may be made: a write starts within its file.
abbrev pub CanCall : Act → Image → Type 0
CanCall (write file at bytes) seen = at ≤ length (content file seen)
CanCall (resize file len) seen = Unit {0}
CanCall (sync file) seen = Unit {0}
CanCall clear seen = Unit {0}

abbrev pub CanDo : List Act → Image → Type 0
CanDo [] seen = Unit {0}
CanDo (act ∷ acts) seen = CanCall act seen × CanDo acts (acted act seen)

-- the images that a crash may leave before, during or after the calls
abbrev pub AnyMoment : List Act → Image → (Image → Type 0) → Image → Type 0
AnyMoment [] seen may_leave c = may_leave c
AnyMoment (act ∷ acts) seen may_leave c = may_leave c ⊎ AnyMoment acts (acted act seen) (LeftBy act seen may_leave) c

-- The calls may be made in order. A crash at any time during the calls leaves only images that satisfy P. After the calls, the image that
-- is read and the images that a crash may leave satisfy Q.
pub record Does (acts : List Act) (seen : Image) (may_leave : Image → Type 0) (P : Image → Type 0) (Q : Image → (Image → Type 0) → Type 0) : Type 0 where
  pub can : CanDo acts seen
  pub any_moment : (c : Image) → AnyMoment acts seen may_leave c → P c
  pub after : Q (seen_after acts seen) (LeftAfter acts seen may_leave)

-- An image that may be read after a process was killed during a call, so that a part of the call was done. The image depends only on the
-- image that was read before, not on the images that a crash may leave.
abbrev pub Partly : Act → Image → Image → Type 0
Partly act seen c = LeftBy act seen (λ d. d ≡ seen) c

-- an image that may be read after a process was killed before, during or after one of the calls
abbrev pub Killed : List Act → Image → Image → Type 0
Killed [] seen c = c ≡ seen
Killed (act ∷ acts) seen c = (c ≡ seen) ⊎ (Partly act seen c ⊎ Killed acts (acted act seen) c)
