use Rattle.std.proofs.Common.{◌≡◌, ◌∙◌, ap, sym, subst, IfSome}
use Rattle.sdbm_addr.specs.Pairs.{page_bytes}
use Rattle.sdbm_addr.specs.Database.{Database, empty_database}
use Rattle.store_parts.specs.Parts.{IsOpenedPart}
use Rattle.store_parts.proofs.part.open_part.Goals as goal

pub open_next_part-requires : goal.open_next_part-requires
unfolding empty_database
open_next_part-requires c = record { page = c.requires.page ∙ ap (λ (db : Database). page_bytes db.size) (sym c.empty.ensures) }

pub returns : goal.returns
unfolding empty_database
returns c = subst (λ (known : Database). IfSome c.open_next_part-2.result (IsOpenedPart c.args.key.now c.args.part known.kind known.size)) c.empty.ensures c.open_next_part-2.ensures
