use Rattle.std.proofs.Common.{rules}
use Rattle.bpf_machine.proofs.Copying.{copies}
use Rattle.bpf_machine.proofs.copies.do_copy.Goals as goal

pub returns : goal.returns
returns c = λ env a d at h k l e.
    copies a d at c.args.core.now c.copy.new.core c.args.bytes.now c.copy.new.bytes c.args.argument.now env c.args.to c.args.from
    (search rules) c.copy.ensures.registers c.copy.ensures.value h k l e
