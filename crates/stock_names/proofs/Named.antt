-- Each stock program is found by its name.
use Rattle.std.proofs.Common.{◌≡◌, Some, refl}
use Rattle.stock_names.specs.declared.Stock.{Stock}
use Rattle.stock_names.specs.declared.Stock.TheVariants as stocks
use Rattle.stock_names.specs.Names.{name_of_stock, stock_named}

pub is_found : (s : Stock) → stock_named (name_of_stock s) ≡ Some s
unfolding stock_named
is_found stocks.Counter = refl
is_found stocks.BoundedAdd = refl
is_found stocks.BoundedCounter = refl
is_found stocks.CompareAndSet = refl
is_found stocks.Sequence = refl
is_found stocks.Lease = refl
is_found stocks.FencedLease = refl
is_found stocks.RateLimit = refl
is_found stocks.Semaphore = refl
is_found stocks.TokenBucket = refl
