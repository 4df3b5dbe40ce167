use Rattle.std.proofs.Common.{◌≡◌, ℕ, List, ap, rules}
use Rattle.sdbm_saves.specs.Redo.{files}
use Rattle.sdbm_saves.specs.Saves.{IsSaving}
use Rattle.dbm_files.proofs.SaveMoments.{at_rest, ever}
use Rattle.dbm_files.proofs.saving.save_change.Goals as goal

pub returns-in_err-print-in-None-clause-any_moment : goal.returns-in_err-print-in-None-clause-any_moment
returns-in_err-print-in-None-clause-any_moment g c =
    at_rest g.D.Disk.moment g.D.Disk.left_since g.D.Disk.may_leave (c.args.change.before.pages.now.bytes, c.args.change.before.directory.now) c.args.change.after.now c.args.disk.now
    (g.met.D.Disk.only_now c.args.disk.now)

pub returns-in_ok-print-in-None-clause-any_moment : goal.returns-in_ok-print-in-None-clause-any_moment
returns-in_ok-print-in-None-clause-any_moment g c =
    at_rest g.D.Disk.moment g.D.Disk.left_since g.D.Disk.may_leave (c.args.change.before.pages.now.bytes, c.args.change.before.directory.now) c.args.change.after.now c.args.disk.now
    (g.met.D.Disk.only_now c.args.disk.now)

pub returns-in-Some-clause-any_moment : goal.returns-in-Some-clause-any_moment
returns-in-Some-clause-any_moment g c =
    let before : List ℕ × List ℕ = (c.args.change.before.pages.now.bytes, c.args.change.before.directory.now) in
    let db = c.args.change.after.now in
    let old = c.args.disk.now in
    let saving : IsSaving db c.as_slice.result.now before.0 before.1 = search rules in
    let same : files (g.D.Disk.seen old) ≡ before = ap files c.requires.read in
    ever g.D.Disk.moment g.D.Disk.left_since g.D.Disk.may_leave before db old c.as_slice.result.now saving (g.D.Disk.seen old) same c.save_plan.new.disk c.save_plan.ensures.any_moment
