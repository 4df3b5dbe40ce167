use Rattle.std.proofs.Common.{◌≡◌, ℕ, Some, None, Option, ap, sym, ◌∙◌, refl}
use Rattle.std.specs.Prelude.{slice_index_or}
use Rattle.std.proofs.lemmas.Bool.{false≢true, true≢false}
use Rattle.hold_modes.specs.Held.{exclusive_in, held_by}
use Rattle.desk_core.specs.declared.job.Open.{Open}
use Rattle.desk_core.specs.Desk.{DeskState, ticket_of, the_ticket}
use Rattle.desk_core.specs.Calls.{is_exclusive}
use Rattle.desk_core.proofs.Desk.finish.Goals as goal

-- the open command of a ticket, and whether its hold is exclusive, in an equal state
own_is : {A : Type 0} (s s' : DeskState A) (t u : ℕ) (o : Option (Open A)) → s ≡ s' → t ≡ u → o ≡ slice_index_or s.tickets t None → ticket_of s' u ≡ o
own_is {A} s s' t u o state same is = sym (ap (λ (x : DeskState A). ticket_of x u) state) ∙ ap (λ (k : ℕ). slice_index_or s.tickets k None) (sym same) ∙ sym is

alone_is : {A : Type 0} (s s' : DeskState A) (t u : ℕ) → s ≡ s' → t ≡ u → is_exclusive s' u ≡ exclusive_in (held_by (the_ticket t) s.holds)
alone_is {A} s s' t u state same = sym (ap (λ (x : DeskState A). is_exclusive x u) state) ∙ ap (λ (k : ℕ). exclusive_in (held_by (the_ticket k) s.holds)) (sym same)

pub returns-then-not-equals-clause-refused : goal.returns-then-not-equals-clause-refused
returns-then-not-equals-clause-refused g c =
    (c.in-Some.own.now, (own_is _ _ _ _ _ c.self.view_is c.ticket-ticket.ensures c.in-Some.ensures, λ e. false≢true (c.if-not-equals.ensures.1 (e ∙ sym c.asked.ensures))))

pub commit-requires : goal.commit-requires
commit-requires g c = record {
  own = own_is _ _ _ _ _ c.self.view_is c.ticket-ticket.ensures c.in-Some.ensures ∙ ap (λ (o : Open g.row.A.Denot). Some o) (c.if-not-equals.ensures.0 refl ∙ c.asked.ensures);
  alone = λ some. absurd (true≢false (sym some ∙ sym c.changes.ensures.change ∙ c.if-not-changes.true));
}

pub returns-then-not-is_exclusive-clause-refused : goal.returns-then-not-is_exclusive-clause-refused
returns-then-not-is_exclusive-clause-refused g c = (
  own_is _ _ _ _ _ c.self.view_is c.ticket-ticket.ensures c.in-Some.ensures ∙ ap (λ (o : Open g.row.A.Denot). Some o) (c.if-not-equals.ensures.0 refl ∙ c.asked.ensures),
  (sym c.changes.ensures.change ∙ c.if-not-changes.false, alone_is _ _ _ _ c.self.view_is c.ticket-ticket.ensures ∙ sym c.is_exclusive.ensures ∙ c.if-not-is_exclusive.true),
)

pub commit-requires-2 : goal.commit-requires-2
commit-requires-2 g c = record {
  own = own_is _ _ _ _ _ c.self.view_is c.ticket-ticket.ensures c.in-Some.ensures ∙ ap (λ (o : Open g.row.A.Denot). Some o) (c.if-not-equals.ensures.0 refl ∙ c.asked.ensures);
  alone = λ some. alone_is _ _ _ _ c.self.view_is c.ticket-ticket.ensures ∙ sym c.is_exclusive.ensures ∙ c.if-not-is_exclusive.false;
}
