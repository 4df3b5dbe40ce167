use Rattle.std.proofs.Common.{sym, ap, ◌∙◌, box_value, arith}
use Rattle.std.specs.Option.{option_map}
use Rattle.bpf_verify.specs.Visits.{Adds, Grows}
use Rattle.bpf_verify.proofs.Built.{flow_ready}
use Rattle.bpf_verify.proofs.Flattening.{reached_stands, stands_still}
use Rattle.bpf_verify.proofs.Growing.{taken_adds}
use Rattle.bpf_verify.proofs.visits.visit.Goals as goal

pub visit_insn-requires-clause-built : goal.visit_insn-requires-clause-built
visit_insn-requires-clause-built g c = flow_ready c.args.code.now c.args.at c.insn_at.result c.in-Some.insn c.requires.built c.insn_at.ensures.value c.in-Some.is

pub returns-in_err-visit_insn-clause-keeps : goal.returns-in_err-visit_insn-clause-keeps
returns-in_err-visit_insn-clause-keeps g c = c.visit_insn.ensures.keeps c.args.all _ c.take.ensures.keeps

pub returns-clause-adds : goal.returns-clause-adds
returns-clause-adds g c = (taken_adds _ _ _ c.args.at c.in-Some.insn (box_value c.in-Some-2.state) c.requires.built (sym c.insn_at.ensures.value ∙ c.in-Some.is) (sym c.in_ok-state.ensures.value ∙ ap (option_map box_value) c.in-Some-2.is) c.requires.are (rw c.take.ensures.noted at c.in_ok-visit_insn.ensures.taken)).0

pub returns-clause-consistent : goal.returns-clause-consistent
returns-clause-consistent g c = (taken_adds _ _ _ c.args.at c.in-Some.insn (box_value c.in-Some-2.state) c.requires.built (sym c.insn_at.ensures.value ∙ c.in-Some.is) (sym c.in_ok-state.ensures.value ∙ ap (option_map box_value) c.in-Some-2.is) c.requires.are (rw c.take.ensures.noted at c.in_ok-visit_insn.ensures.taken)).1

pub returns-clause-flat : goal.returns-clause-flat
returns-clause-flat g c =
    let here = sym c.insn_at.ensures.value ∙ c.in-Some.is in
    let known = sym c.in_ok-state.ensures.value ∙ ap (option_map box_value) c.in-Some-2.is in
    let adds = (taken_adds _ _ _ c.args.at c.in-Some.insn (box_value c.in-Some-2.state) c.requires.built here known c.requires.are (rw c.take.ensures.noted at c.in_ok-visit_insn.ensures.taken)).0 in
    stands_still _ _ _ c.args.at c.flat_of-flat.result (Grows.same (Adds.grows adds) c.args.at (omega arith))
    (reached_stands _ _ c.args.at c.in-Some.insn (box_value c.in-Some-2.state) c.flat_of-flat.result here known c.flat_of-flat.ensures.insn (rw c.deref-2.ensures at c.flat_of-flat.ensures.address) (rw c.deref-2.ensures at c.flat_of-flat.ensures.region))

pub returns-clause-keeps : goal.returns-clause-keeps
returns-clause-keeps g c = c.visit_insn.ensures.keeps c.args.all _ c.take.ensures.keeps
