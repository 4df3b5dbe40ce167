use Rattle.std.proofs.Common.{◌≡◌, ◌+◌, ◌≤◌, length, nat_eq, take, vec_len, vec_capacity}
use Rattle.std.specs.HashMap.{get, spare}
use Rattle.desk_core.specs.Events.{Plays, no_hands}
use Rattle.desk_core.proofs.Desk.play.Given as goal

-- the events so far were played
abbrev pub invariant-loop-event : goal.invariant-loop-event
invariant-loop-event g l = record {
  plays : Plays l.fn.self no_hands (take l.event-index l.events) l.outcomes.items l.self (get nat_eq l.hands);
  len : vec_len l.outcomes ≡ l.event-index;
  capacity : length l.events ≤ vec_capacity l.outcomes;
  room : length l.events ≤ spare l.hands + l.event-index;
}
