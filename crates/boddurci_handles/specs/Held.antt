-- A handle owns nothing if it is null, and otherwise the box of an open database. Likewise a ticket owns the box of a job, and a
-- reading the box of pieces.
use Rattle.std.specs.Prelude.{Option, Some, None}
use Rattle.std.specs.Coded.{Coded, coded_option}
use base.Fml.{Fml, feq}
use denote.RawPtr.{Ptr, null_ptr}
use Rattle.std.specs.declared.alloc.Global.{Global}
use Rattle.std.specs.contracts.impls.GlobalAllocator.TheImpl.{ghosts}
use Rattle.std.specs.Box.Ownership.{box_owns}
use Rattle.boddurci_handles.specs.contracts.opened.Db.{the_row}
use Rattle.boddurci_handles.specs.declared.opened.Db.{Db}
use Rattle.boddurci_handles.specs.contracts.job.Job.{the_row as job_row}
use Rattle.boddurci_handles.specs.declared.job.Job.{Job}
use Rattle.boddurci_handles.specs.contracts.pieces.Pieces.{the_row as pieces_row}
use Rattle.boddurci_handles.specs.declared.pieces.Pieces.{Pieces}

abbrev pub held_at : Global → Ptr → Option Db → Fml
held_at a p None = feq Ptr p null_ptr
held_at a p (Some db) = box_owns (ghosts.dealloc_token a) the_row p db

-- the coding of the contents of a handle
abbrev pub coded_held : Coded (Option Db)
coded_held = coded_option the_row.coded

abbrev pub asked_at : Global → Ptr → Option Job → Fml
asked_at a p None = feq Ptr p null_ptr
asked_at a p (Some job) = box_owns (ghosts.dealloc_token a) job_row p job

-- the coding of the contents of a ticket
abbrev pub coded_asked : Coded (Option Job)
coded_asked = coded_option job_row.coded

abbrev pub read_at : Global → Ptr → Option Pieces → Fml
read_at a p None = feq Ptr p null_ptr
read_at a p (Some pieces) = box_owns (ghosts.dealloc_token a) pieces_row p pieces

-- the coding of the contents of a reading
abbrev pub coded_read : Coded (Option Pieces)
coded_read = coded_option pieces_row.coded
