-- The contents of a ticket mean the same to every thread, and so does the ticket.
use Rattle.std.proofs.Common.{Option, Some, None}
use mir.Raw.{raw}
use base.Fraction.{full_share}
use base.Shift.{Keyless}
use denote.Memory.{lone}
use denote.Exit.{Exit, unchanged, leaves, hidden, under}
use denote.RawPtr.{Ptr, block_ptr, null_ptr, lies_at}
use denote.Struct.Struct.{exits_of}
use denote.Struct.Owning.{shape, fields, to}
use denote.Param.Send.{IsSend, Quiet, AllSend, part_keyless, owning_send, struct_send, sendable}
use Rattle.std.proofs.Crossing as heap
use Rattle.std.proofs.alloc.Global.TheSendSync as global
use Rattle.std.specs.declared.alloc.Global.{Global}
use Rattle.boddurci_handles.specs.contracts.job.Job as store
use Rattle.boddurci_handles.specs.declared.job.Job.{Job}
use Rattle.boddurci_handles.proofs.job.Job.TheSendSync.{the_send as store_send}
use Rattle.boddurci_handles.specs.Held.{asked_at}
use Rattle.boddurci_handles.specs.contracts.ticket.Ticket.{the_row, the_type}

quiet : {D X : Type 0} (to : D → X) (e : Exit X) → Quiet e → Quiet (hidden (under to e))
quiet to unchanged q = λ x w. tt
quiet to (leaves L l S s r₀) q = λ d. q (to d)

lies : (p : Ptr) (d : Job) → Keyless (lies_at store.the_row full_share p d)
lies (block_ptr b o) d = part_keyless store.the_row store_send full_share d b o
lies null_ptr d = tt

keyless : (a : Global) (p : Ptr) (asked : Option Job) → Keyless (asked_at a p asked)
keyless a p None = tt
keyless a p (Some d) = (lies p d, heap.frees.frees a (raw (lone store.the_row.mir)) p)

pub send : IsSend the_row
send =
    let all : AllSend (fields the_type) = (search sendable, (global.the_field_send, tt)) in
    owning_send the_type all (λ d. keyless d.alloc d.at d.asked) (λ k. quiet (to the_type) (exits_of k (fields the_type)) ((struct_send (shape the_type) all).leaving k))
