-- Units of the time of day.
use Rattle.std.specs.Prelude.{ℕ}
use Rattle.dbm_args.specs.declared.options.TimeUnit.{TimeUnit}
use Rattle.dbm_args.specs.declared.options.TimeUnit.TheVariants.{Seconds, Milliseconds}

abbrev pub nanos_in : TimeUnit → ℕ
nanos_in Seconds = 1000000000
nanos_in Milliseconds = 1000000
