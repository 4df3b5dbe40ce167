use Rattle.std.proofs.Common.{subst}
use Rattle.bpf_helpers.specs.Runs.{Safe}
use Rattle.bpf_verify.specs.Verified.{Accepted}
use Rattle.bpf_verify.proofs.Safety.{safe}
use Rattle.bpf_verify.proofs.examined.Examined.code.Goals as goal

pub returns-clause-safe : goal.returns-clause-safe
returns-clause-safe g c = subst (λ (a : Accepted). Safe a.code) c.self.view_is (safe c.self.inside.code c.self.inside.states c.self.invariant)
