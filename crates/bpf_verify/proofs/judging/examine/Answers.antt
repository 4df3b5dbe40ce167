use Rattle.std.proofs.Common.{refl}
use Rattle.bpf_verify.proofs.Misbuilt.{only_misbuilt, built_not}
use Rattle.bpf_verify.proofs.Safety.{safe}
use Rattle.bpf_verify.proofs.judging.examine.Goals as goal

pub returns-in-Err-clause-structure : goal.returns-in-Err-clause-structure
returns-in-Err-clause-structure g c = λ fault is. only_misbuilt c.args.code c.in-Err.fault fault c.in-Err.ensures.err is

pub returns-in-Err-clause-stopped : goal.returns-in-Err-clause-stopped
returns-in-Err-clause-stopped g c = λ built. absurd (built_not c.args.code c.in-Err.fault built c.in-Err.ensures.err)

pub returns-in-Ok-clause-safe : goal.returns-in-Ok-clause-safe
returns-in-Ok-clause-safe g c = rw c.new.ensures.code (safe c.args.code c.in-Ok.passed.noted.states c.in-Ok.ensures.verified)

pub returns-in-Ok-clause-structure : goal.returns-in-Ok-clause-structure
returns-in-Ok-clause-structure g c = λ fault is. built_not c.args.code fault c.in_default.ensures.ok is

pub returns-in-Err-pass_over-clause-structure : goal.returns-in-Err-pass_over-clause-structure
returns-in-Err-pass_over-clause-structure g c = λ fault is. absurd (built_not c.args.code fault c.in_default.ensures.ok is)

pub returns-in-Err-pass_over-clause-stopped : goal.returns-in-Err-pass_over-clause-stopped
returns-in-Err-pass_over-clause-stopped g c = λ built. c.in-Err-pass_over.ensures.stopped refl

pub returns-in-Err-pass_over-clause-unknown : goal.returns-in-Err-pass_over-clause-unknown
returns-in-Err-pass_over-clause-unknown g c = λ is. absurd (built_not c.args.code _ c.in_default.ensures.ok is)
