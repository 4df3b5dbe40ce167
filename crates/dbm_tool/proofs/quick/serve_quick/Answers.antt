use Rattle.std.proofs.Common.{rules}
use Rattle.dbm_tool.proofs.QuickParts.{knows_part}
use Rattle.dbm_tool.proofs.quick.serve_quick.Goals as goal

pub save_quick-requires : goal.save_quick-requires
save_quick-requires g c = knows_part _ _ _ _ (search rules) (search rules) c.in-Some-answer_on_page.ensures.plan
