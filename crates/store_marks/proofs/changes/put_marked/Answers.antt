use Rattle.store_marks.proofs.Marked.{differ_put}
use Rattle.std.specs.Option.{option_map}
use Rattle.store_moves.specs.Works.{change_of}
use Rattle.store_marks.proofs.changes.put_marked.Goals as goal

pub returns-in-Ok-put_in-clause-differ : goal.returns-in-Ok-put_in-clause-differ
returns-in-Ok-put_in-clause-differ g c =
    differ_put c.args.image.now c.put_in.new.image c.args.marks.now c.mark_change.new.marks c.in-Ok.ensures.more c.args.place.page (option_map change_of c.args.change) c.in-Ok-put_in.ensures.ok c.in-Ok.ensures.covers
