use Rattle.stock_histories.proofs.OfSemaphores.{never_more}
use Rattle.stock_histories.proofs.laws.semaphores_hold.Goals as goal

pub returns : goal.returns
returns g c = never_more _
