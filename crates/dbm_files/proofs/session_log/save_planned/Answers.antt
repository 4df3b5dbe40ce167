use Rattle.std.proofs.Common.{rules, ◌≡◌, ℕ, List, subst}
use Rattle.store_saves.specs.Saved.{LeavesDatabase, LeavesSaved, renewed_in}
use Rattle.dbm_files.proofs.SaveMoments.{pending_holds}
use Rattle.dbm_files.proofs.session_log.save_planned.Goals as goal

pub of-requires : goal.of-requires
of-requires g c = pending_holds _ c.args.image.now (renewed_in c.args.plan.now c.args.kept.0.1) _ _ _ c.in-Pending.is c.requires.saving.files c.in-Ok.ensures.durable
