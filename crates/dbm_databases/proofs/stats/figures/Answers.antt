use Rattle.std.proofs.Common.{ℕ, ap, ◌∙◌}
use Rattle.std.specs.Global.{Vec}
use Rattle.dbm_databases.proofs.stats.figures.Goals as goal

pub returns : goal.returns
returns c = (
  c.in_ok-stats.stats,
  (
    c.in_ok-stats.ensures.stats,
    record {
      text_is = ap (λ (text : Vec ℕ). text.items) c.printed.ensures.text ∙ c.in_ok-text.ensures;
      status_is = c.printed.ensures.status;
      written = c.printed.ensures.database;
    },
  ),
)
