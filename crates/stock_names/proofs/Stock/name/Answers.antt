use Rattle.stock_names.specs.declared.Stock.TheVariants as stocks
use Rattle.stock_names.proofs.Named.{is_found}
use Rattle.stock_names.proofs.Stock.name.Goals as goal

pub returns-in-Counter-clause-own : goal.returns-in-Counter-clause-own
returns-in-Counter-clause-own c = rw (c.in-Counter.is) (is_found stocks.Counter)

pub returns-in-BoundedAdd-clause-own : goal.returns-in-BoundedAdd-clause-own
returns-in-BoundedAdd-clause-own c = rw (c.in-BoundedAdd.is) (is_found stocks.BoundedAdd)

pub returns-in-BoundedCounter-clause-own : goal.returns-in-BoundedCounter-clause-own
returns-in-BoundedCounter-clause-own c = rw (c.in-BoundedCounter.is) (is_found stocks.BoundedCounter)

pub returns-in-CompareAndSet-clause-own : goal.returns-in-CompareAndSet-clause-own
returns-in-CompareAndSet-clause-own c = rw (c.in-CompareAndSet.is) (is_found stocks.CompareAndSet)

pub returns-in-Sequence-clause-own : goal.returns-in-Sequence-clause-own
returns-in-Sequence-clause-own c = rw (c.in-Sequence.is) (is_found stocks.Sequence)

pub returns-in-Lease-clause-own : goal.returns-in-Lease-clause-own
returns-in-Lease-clause-own c = rw (c.in-Lease.is) (is_found stocks.Lease)

pub returns-in-FencedLease-clause-own : goal.returns-in-FencedLease-clause-own
returns-in-FencedLease-clause-own c = rw (c.in-FencedLease.is) (is_found stocks.FencedLease)

pub returns-in-RateLimit-clause-own : goal.returns-in-RateLimit-clause-own
returns-in-RateLimit-clause-own c = rw (c.in-RateLimit.is) (is_found stocks.RateLimit)

pub returns-in-Semaphore-clause-own : goal.returns-in-Semaphore-clause-own
returns-in-Semaphore-clause-own c = rw (c.in-Semaphore.is) (is_found stocks.Semaphore)

pub returns-in-TokenBucket-clause-own : goal.returns-in-TokenBucket-clause-own
returns-in-TokenBucket-clause-own c = rw (c.in-TokenBucket.is) (is_found stocks.TokenBucket)
