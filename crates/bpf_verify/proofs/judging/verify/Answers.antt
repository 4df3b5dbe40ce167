use Rattle.bpf_verify.proofs.Misbuilt.{only_misbuilt}
use Rattle.bpf_verify.proofs.Safety.{safe}
use Rattle.bpf_verify.proofs.judging.verify.Goals as goal

pub returns-in-Err-clause-structure : goal.returns-in-Err-clause-structure
returns-in-Err-clause-structure g c = λ fault is. only_misbuilt c.args.code c.in-Err.fault fault c.in-Err.ensures.err is

pub returns-in-Ok-encode-clause-safe : goal.returns-in-Ok-encode-clause-safe
returns-in-Ok-encode-clause-safe g c = rw c.new.ensures.code (safe c.args.code c.in-Ok.passed.noted.states c.in-Ok.ensures.verified)
