use Rattle.std.proofs.Common.{◌∙◌, None}
use Rattle.std.proofs.lemmas.List.{length-replicate}
use Rattle.std.specs.Prelude.{IsSome, replicate}
use Rattle.bpf_insn.specs.Code.{fetch}
use Rattle.bpf_verify.specs.Visits.{AreStates}
use Rattle.bpf_verify.proofs.Built.{start_config, some_begins}
use Rattle.bpf_verify.proofs.Growing.{are_none, are_set, begins_within, get_same}
use Rattle.bpf_verify.proofs.Keeping.{keeps_none}
use Rattle.bpf_verify.proofs.Tables.{none_at}
use Rattle.bpf_verify.proofs.visits.begin.Goals as goal

pub returns-clause-are : goal.returns-clause-are
returns-clause-are g c =
    let are : AreStates c.args.code.now c.in_ok-pass.pass.noted.states = rw c.in_ok-pass.ensures.noted (are_none _ _ (length-replicate c.units.result None ∙ c.units.ensures.value) (none_at c.units.result)) in
    let first : IsSome (fetch c.args.code.now 0) = some_begins c.args.code.now c.requires.some in
    rw c.add.ensures.joins.is (are_set _ _ 0 c.add.ensures.joins.both are first)

pub returns-clause-starts : goal.returns-clause-starts
returns-clause-starts g c = λ bytes argument env input.
    let are : AreStates c.args.code.now c.in_ok-pass.pass.noted.states = rw c.in_ok-pass.ensures.noted (are_none _ _ (length-replicate c.units.result None ∙ c.units.ensures.value) (none_at c.units.result)) in
    let first : IsSome (fetch c.args.code.now 0) = some_begins c.args.code.now c.requires.some in
    record {
      state = c.add.ensures.joins.both;
      stands = rw c.add.ensures.joins.is (get_same _ 0 c.add.ensures.joins.both (begins_within _ _ 0 are first));
      fits = c.add.ensures.joins.takes _ (rw c.in_ok-start.ensures.ok (c.at_start.ensures bytes argument env input));
      config = start_config bytes argument env input;
    }

pub returns-clause-keeps : goal.returns-clause-keeps
returns-clause-keeps g c = λ all. c.add.ensures.keeps all 0 (rw (c.in_ok-pass.ensures.noted, c.in_ok-pass.ensures.kept) (keeps_none all 0 (replicate c.units.result None)))
