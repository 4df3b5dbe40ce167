use Rattle.std.proofs.Common.{sym, subst}
use Rattle.sdbm_addr.specs.Database.{Database}
use Rattle.sdbm_split.specs.InPlace.{with_stored}
use Rattle.sdbm_files.specs.Installed.{content_at}
use Rattle.store_moves.specs.Leads.{FillsNone}
use Rattle.sdbm_files.proofs.Fitting.{fills_none}
use Rattle.store_moves.proofs.Storing.{may_store, stored_so}
use Rattle.store_moves.proofs.in_place.store_in_place.Goals as goal

pub store_pair-requires-clause-installable : goal.store_pair-requires-clause-installable
store_pair-requires-clause-installable g c = λ may.
    may_store g.row.A.Denot c.args.image.now c.requires.database c.args.place c.args.key.now c.args.value.now c.args.mode c.requires.small c.requires.place may

pub returns-clause-done : goal.returns-clause-done
returns-clause-done g c = λ t session.
    stored_so g.row.A.Denot c.args.image.now c.requires.database c.args.place c.args.key.now c.args.value.now c.args.mode c.requires.small c.requires.place (c.store_pair.ensures.may t) session c.store_pair.new.self (c.store_pair.ensures.stored t)

pub returns-clause-fills : goal.returns-clause-fills
returns-clause-fills g c = λ t.
    subst (λ (db : Database). FillsNone c.args.image.now db) (sym (c.store_pair.ensures.stored t))
    (fills_none c.args.image.now c.args.place.page (with_stored (content_at c.args.image.now c.args.place.page) c.args.key.now c.args.value.now) (c.store_pair.ensures.there t))
