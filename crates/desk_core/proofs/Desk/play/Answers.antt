use Rattle.std.proofs.Common.{◌≡◌, ◌+◌, ◌≤◌, ◌++◌, ◌∷◌, [], List, nat_eq, take, length, sym, ap, ◌∙◌, subst, refl, arith}
use Rattle.std.proofs.lemmas.List.{take_more, take_all}
use Rattle.std.specs.HashMap.{get}
use Rattle.std.specs.Map.{lookup}
use Rattle.desk_core.specs.declared.events.Event.{Event}
use Rattle.desk_core.specs.declared.events.EventOutcome.{EventOutcome}
use Rattle.desk_core.specs.Desk.{DeskState, IsSound}
use Rattle.desk_core.specs.Events.{Plays, no_hands}
use Rattle.desk_core.proofs.Playing.{Plays-push, GoesOn-from_Plays}
use Rattle.desk_core.proofs.Desk.play.Goals as goal

pub loop-event-init : goal.loop-event-init
loop-event-init g c =
    let hands = c.in_ok-hands.ensures in
    let outcomes = c.in_ok-outcomes.ensures in
    record {
      plays = subst (λ (outs : List (EventOutcome g.row.A.Denot)). Plays c.args.self.now (no_hands {A = g.row.A.Denot}) [] outs c.args.self.now (get nat_eq c.in_ok-hands.hands)) (sym outcomes.items)
          (refl, λ t. ap (lookup (nat_eq t)) hands.empty);
      len = outcomes.len;
      capacity = outcomes.capacity;
      room = let spare = hands.spare in omega (arith, spare);
    }

pub loop-event-preserved : goal.loop-event-preserved
loop-event-preserved g c =
    let before = c.loop-event.invariant in
    let k = c.loop-event.event-index in
    let events = c.args.events.now in
    let event = c.event-item.result in
    let more : take (k + 1) events ≡ take k events ++ event ∷ [] =
    take_more events k event c.loop-event-test.true ∙ ap (λ (e : Event g.row.A.Denot). take k events ++ e ∷ []) (sym c.event-item.is) in
    let played = Plays-push c.args.self.now c.loop-event.self c.happen-outcome.new.self (no_hands {A = g.row.A.Denot}) (get nat_eq c.loop-event.hands) (get nat_eq c.happen-outcome.new.hands)
    (take k events) c.loop-event.outcomes.items event c.happen-outcome.result before.plays c.happen-outcome.ensures.does (subst (λ (x : DeskState g.row.A.Denot). IsSound x) c.self-in-loop-event.view_is c.self-in-loop-event.invariant.0) in
    record {
      plays = subst (λ (es : List (Event g.row.A.Denot)). Plays c.args.self.now (no_hands {A = g.row.A.Denot}) es c.push_reserved.new.self.items c.happen-outcome.new.self (get nat_eq c.happen-outcome.new.hands)) (sym more)
          (subst (λ (outs : List (EventOutcome g.row.A.Denot)). Plays c.args.self.now (no_hands {A = g.row.A.Denot}) (take k events ++ event ∷ []) outs c.happen-outcome.new.self (get nat_eq c.happen-outcome.new.hands)) (sym c.push_reserved.ensures.items) played);
      len = c.push_reserved.ensures.len ∙ ap (λ n. n + 1) before.len;
      capacity = subst (λ n. length events ≤ n) (sym c.push_reserved.ensures.capacity) before.capacity;
      room = let room = before.room in let spent = c.happen-outcome.ensures.spare in omega arith;
    }

pub returns-clause-plays : goal.returns-clause-plays
returns-clause-plays g c =
    let before = c.loop-event.invariant in
    let k = c.loop-event.event-index in
    let events = c.args.events.now in
    let all : take k events ≡ events = take_all k events (omega (arith, c.loop-event-test.false)) in (
      get nat_eq c.loop-event.hands,
      subst (λ (es : List (Event g.row.A.Denot)). Plays c.args.self.now (no_hands {A = g.row.A.Denot}) es c.loop-event.outcomes.items c.loop-event.self (get nat_eq c.loop-event.hands)) all before.plays,
    )

pub returns-clause-goes_on : goal.returns-clause-goes_on
returns-clause-goes_on g c =
    GoesOn-from_Plays c.args.self.now c.loop-event.self (no_hands {A = g.row.A.Denot}) (get nat_eq c.loop-event.hands)
    (take c.loop-event.event-index c.args.events.now) c.loop-event.outcomes.items c.loop-event.invariant.plays
