use Rattle.bpf_flow.proofs.Arms.{wide_passes}
use Rattle.bpf_flow.proofs.after.after_wide.Goals as goal

pub returns : goal.returns
returns c = wide_passes c.args.dst c.args.n c.args.state.now c.set.new.self c.single.result c.set.ensures c.requires.dst c.requires.frame c.single.ensures.contains
