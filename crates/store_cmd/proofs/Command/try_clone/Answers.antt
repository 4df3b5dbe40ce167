use Rattle.std.proofs.Common.{sym, ◌∙◌, ap}
use Rattle.store_cmd.specs.declared.Command.TheVariants.{Fetch, Delete}
use Rattle.store_cmd.proofs.Command.try_clone.Goals as goal

pub returns-in_ok-try_clone-in-Fetch : goal.returns-in_ok-try_clone-in-Fetch
returns-in_ok-try_clone-in-Fetch g c = ap Fetch c.in_ok-try_clone-in-Fetch.ensures ∙ sym c.in-Fetch.is

pub returns-in_ok-key-in-Store : goal.returns-in_ok-key-in-Store
returns-in_ok-key-in-Store g c = rw (c.in_ok-key-in-Store.ensures.0, c.in_ok-key-in-Store.ensures.1) (sym c.in-Store.is)

pub returns-in_ok-try_clone-in-Delete : goal.returns-in_ok-try_clone-in-Delete
returns-in_ok-try_clone-in-Delete g c = ap Delete c.in_ok-try_clone-in-Delete.ensures ∙ sym c.in-Delete.is

pub returns-in_ok-try_clone-in-Run : goal.returns-in_ok-try_clone-in-Run
returns-in_ok-try_clone-in-Run g c = rw (c.in_ok-key-in-Run.ensures.0, c.in_ok-key-in-Run.ensures.1, c.in_ok-try_clone-in-Run.ensures) (sym c.in-Run.is)
