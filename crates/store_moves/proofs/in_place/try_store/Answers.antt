use Rattle.std.proofs.Common.{ℕ, List, sym, ap, ◌∙◌, subst}
use Rattle.sdbm_addr.specs.declared.Mode.{Mode}
use Rattle.store_cmd.specs.declared.Command.{Command}
use Rattle.store_cmd.specs.declared.Command.TheVariants.{Store}
use Rattle.store_cmd.specs.declared.Reply.TheVariants.{Stored}
use Rattle.store_moves.specs.Acts.{IsPutIn}
use Rattle.store_moves.proofs.in_place.try_store.Goals as goal

abbrev store_of : (A : Type 0) → List ℕ → List ℕ → Mode → Command A
store_of A key value mode = Store key value mode

pub returns-in-Store-clause-done : goal.returns-in-Store-clause-done
returns-in-Store-clause-done g c = λ t session.
    subst (λ (command : Command g.row.A.Denot). IsPutIn c.args.image.now c.args.place session command Stored c.store_in_place.new.image)
    (ap (λ (key : List ℕ). store_of g.row.A.Denot key c.as_slice-in-Store.result.now c.in-Store.mode) c.as_slice.ensures
    ∙ ap (λ (value : List ℕ). store_of g.row.A.Denot c.in-Store.key value c.in-Store.mode) c.as_slice-in-Store.ensures ∙ sym c.in-Store.is)
    (c.store_in_place.ensures.done t session)
