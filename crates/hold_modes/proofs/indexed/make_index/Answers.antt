use Rattle.std.proofs.Common.{◌∙◌, ap}
use Rattle.std.specs.Prelude.{slice_index_or}
use Rattle.std.specs.List.{list_any}
use Rattle.hold_modes.specs.declared.modes.Held.{Held}
use Rattle.hold_modes.specs.declared.modes.Hold.TheVariants.{Read}
use Rattle.hold_modes.specs.Held.{bars, is_of}
use Rattle.hold_modes.proofs.FewLemmas.{none_before}
use Rattle.hold_modes.proofs.indexed.make_index.Goals as goal

pub take_free-requires-clause-ticket : goal.take_free-requires-clause-ticket
take_free-requires-clause-ticket g c =
    let some : Held = record { page = 0; mode = Read; ticket = record { 0 = 0 } } in
    let held : Held = slice_index_or c.args.few.now c.loop-held.held-index some in
    ap (list_any (is_of held.ticket)) c.loop-held.invariant ∙ (none_before c.args.few.now c.loop-held.held-index some c.loop-held-test.true c.requires).0

pub take_free-requires-clause-free : goal.take_free-requires-clause-free
take_free-requires-clause-free g c =
    let some : Held = record { page = 0; mode = Read; ticket = record { 0 = 0 } } in
    let held : Held = slice_index_or c.args.few.now c.loop-held.held-index some in
    ap (list_any (bars held.page held.mode)) c.loop-held.invariant ∙ (none_before c.args.few.now c.loop-held.held-index some c.loop-held-test.true c.requires).1
