-- The numbers of statuses, and the statuses of replies (own).
use Rattle.std.specs.Prelude.{ℕ}
use Rattle.std.specs.declared.alloc.Global.{Global}
use Rattle.store_cmd.specs.declared.Reply.{Reply}
use Rattle.store_cmd.specs.declared.Reply.TheVariants as replies
use Rattle.store_cmd.specs.declared.SizeFault.{SizeFault}
use Rattle.store_cmd.specs.declared.SizeFault.TheVariants as sizes
use Rattle.boddurci_handles.specs.declared.status.Status.{Status}
use Rattle.boddurci_handles.specs.declared.status.Status.TheVariants.{Done, Missing, Exists, Crowded, ShortRoom, Refused, BadText, BadFiles, Changed, Stale, Closed, Open, PairTooLarge, ArgTooLong, NoProgram, NoMemory, TooLong, NoTicket, NoStock}

abbrev pub status_code : Status → ℕ
status_code Done = 0
status_code Missing = 1
status_code Exists = 2
status_code Crowded = 3
status_code ShortRoom = 4
status_code Refused = 5
status_code BadText = 6
status_code BadFiles = 7
status_code Changed = 8
status_code Stale = 9
status_code Closed = 16
status_code Open = 17
status_code PairTooLarge = 18
status_code ArgTooLong = 19
status_code NoProgram = 20
status_code NoMemory = 21
status_code TooLong = 22
status_code NoTicket = 23
status_code NoStock = 24

abbrev pub status_of_reply : Reply Global → Status
status_of_reply (replies.Found value) = Done
status_of_reply replies.Missing = Missing
status_of_reply replies.Stored = Done
status_of_reply replies.Exists = Exists
status_of_reply replies.Crowded = Crowded
status_of_reply replies.Deleted = Done
status_of_reply (replies.Ran code word) = Done
status_of_reply (replies.Count n) = Done

abbrev pub status_of_size : SizeFault → Status
status_of_size sizes.PairTooLarge = PairTooLarge
status_of_size sizes.ArgTooLong = ArgTooLong
