use Rattle.std.proofs.Common.{rules}
use Rattle.bpf_machine.specs.Words.{core_of}
use Rattle.bpf_machine.proofs.Writing.{answers_hold}
use Rattle.bpf_machine.proofs.calls.do_answer.Goals as goal

pub returns : goal.returns
returns c = λ stack a d at bytes argument h e.
    rw (c.answer.ensures.value, c.answer.ensures.word) (answers_hold a d at (core_of c.args.registers.now stack c.args.word.now) bytes argument c.args.env c.args.helper c.requires (search rules) h e)
