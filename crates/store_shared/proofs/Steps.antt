-- The answer of a desk's step is a reply to its command.
use Rattle.std.proofs.Common.{ℕ, refl, inl, inr}
use Rattle.std.specs.FinMap as map
use Rattle.sdbm_addr.specs.Database.{pairs_at, map_of}
use Rattle.store_cmd.specs.declared.Command.{Command}
use Rattle.store_cmd.specs.declared.Command.TheVariants.{Fetch, Store, Delete, Run, Count}
use Rattle.store_cmd.specs.declared.Reply.{Reply}
use Rattle.store_moves.specs.Works.{HasKey}
use Rattle.store_moves.specs.Acts.{IsOnPage}
use Rattle.desk_core.specs.Desk.{DeskState}
use Rattle.desk_core.specs.Calls.{Steps}
use Rattle.store_shared.specs.Shared.{IsReplyTo, IsWorkedFor}

-- an answer on the page of a key is the result computed there
on_page : {A : Type 0} (s s' : DeskState A) (session : ℕ) (command : Command A) (reply : Reply A) → HasKey command → IsOnPage s.database (record { session = session; command = command; reply = reply }) s'.database → IsWorkedFor session command reply
on_page s s' session command reply keyed on = record {
  keyed = keyed;
  asked = record { session = session; command = command; place = on.place; kind = s.database.kind; page = record { size = s.database.size; pairs = pairs_at s.database on.place.page } };
  session_is = refl;
  command_is = refl;
  reply_is = on.answer_is;
  ends = on.ends;
}

pub stepped_reply : {A : Type 0} (s s' : DeskState A) (session : ℕ) (command : Command A) (reply : Reply A) → Steps s session command reply s' → IsReplyTo session command reply
stepped_reply s s' session (Fetch key) reply h = inl (on_page s s' session (Fetch key) reply tt h.acts.exact)
stepped_reply s s' session (Store key value mode) reply h = inl (on_page s s' session (Store key value mode) reply tt h.acts.exact)
stepped_reply s s' session (Delete key) reply h = inl (on_page s s' session (Delete key) reply tt h.acts.exact)
stepped_reply s s' session (Run key program argument blank now) reply h = inl (on_page s s' session (Run key program argument blank now) reply tt h.acts.exact)
stepped_reply s s' session Count reply h = inr (record { counts = refl; count = map.len (map_of s.database); reply_is = h.acts.exact.0 })
