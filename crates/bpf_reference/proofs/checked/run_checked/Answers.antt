use Rattle.bpf_reference.proofs.OneEnd.{one_answer}
use Rattle.bpf_reference.proofs.checked.run_checked.Goals as goal

pub returns-clause-alone : goal.returns-clause-alone
returns-clause-alone g c = λ answer left told. one_answer c.args.code.now c.args.bytes.now c.args.argument.now c.args.env.now answer c.run_with.result left c.run_with.new.bytes told c.run_with.ensures
