use Rattle.std.proofs.Common.{ℕ, ◌<◌, ◌≢◌}
use Rattle.sdbm_page.specs.Keys.{key_of}
use Rattle.sdbm_page.proofs.keys.comes_before.Given as goal

-- no pair before place a has the key
abbrev pub invariant-loop-a : goal.invariant-loop-a
invariant-loop-a l = (k : ℕ) → k < l.a → key_of l.bytes k ≢ key_of l.bytes l.i
