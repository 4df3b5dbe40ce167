use Rattle.stock_programs.proofs.ComparingAndSetting.{compares_and_sets}
use Rattle.stock_programs.proofs.meanings.compare_and_set_means.Goals as goal

pub returns : goal.returns
returns c = compares_and_sets
