use Rattle.stock_histories.proofs.OfBuckets.{pours_at_most}
use Rattle.stock_histories.proofs.laws.token_buckets_hold.Goals as goal

pub returns : goal.returns
returns g c = pours_at_most _
