use Rattle.std.proofs.Common.{◌∙◌, List, ℕ, Bool, true, false, IfSome, refl, sym, subst, arith}
use Rattle.std.proofs.lemmas.Result.{IfErr-weaker, IfOk-weaker}
use Rattle.dbm_dump.specs.declared.fault.DumpFault.{DumpFault}
use Rattle.dbm_dump.specs.declared.loading.Loading.{Loading}
use Rattle.dbm_dump.specs.Loading.{GivesLine, IsLoadFault}
use Rattle.dbm_script.specs.LineInput.{lines_left}
use Rattle.dbm_dump.proofs.MorePairs.{as_err, at_most_one}
use Rattle.dbm_dump.proofs.Progress.{all_begun, all_cut_off, all_line_fault, all_loaded, all_step_fault, all_taken}
use Rattle.dbm_dump.proofs.loading.load_pairs.Goals as goal

pub loop-number-init : goal.loop-number-init
loop-number-init g c =
    let loading : Loading = record { image = c.args.image; stage = c.args.start; count = 0 } in
    record {
      known = all_begun c.args.start c.args.mode c.args.image (g.R.Read.remaining c.args.reader.now) c.new-lines.result loading c.new-lines.ensures.rest c.new-lines.ensures.open refl refl refl;
      few = omega arith;
      kind = refl;
      size = refl;
    }

pub returns-in_err-next_line-clause-fault : goal.returns-in_err-next_line-clause-fault
returns-in_err-next_line-clause-fault g c =
    as_err (λ (f : DumpFault). IfSome (g.R.Read.remaining c.args.reader.now) (λ input. IsLoadFault c.args.start c.args.mode c.args.image input f)) _ c.from_residual.ensures.1
    (all_line_fault c.args.start c.args.mode c.args.image (g.R.Read.remaining c.args.reader.now) c.loop-number.number (lines_left c.loop-number.lines (g.R.Read.remaining c.loop-number.reader)) c.loop-number.loading _
    c.loop-number.invariant.known c.in_err-next_line.ensures.fault)

pub returns-then-not-branch-clause-ok : goal.returns-then-not-branch-clause-ok
returns-then-not-branch-clause-ok g c =
    let left = lines_left c.loop-number.lines (g.R.Read.remaining c.loop-number.reader) in
    let left' = lines_left c.next_line.new.lines (g.R.Read.remaining c.next_line.new.reader) in
    let gives : GivesLine c.loop-number.number left false c.next_line.new.line.items left' = subst (λ (b : Bool). GivesLine c.loop-number.number left b c.next_line.new.line.items left') c.if-not-branch.true c.in_ok-next_line.ensures.given in
    IfOk-weaker c.finish.result _ _
    (λ r h. all_loaded c.args.start c.args.mode c.args.image (g.R.Read.remaining c.args.reader.now) c.loop-number.number left c.loop-number.loading c.next_line.new.line.items left' r.image r.count
    c.loop-number.invariant.known gives h.0 h.1.0 h.1.1)
    c.finish.ensures.ok

pub returns-then-not-branch-clause-fault : goal.returns-then-not-branch-clause-fault
returns-then-not-branch-clause-fault g c =
    let left = lines_left c.loop-number.lines (g.R.Read.remaining c.loop-number.reader) in
    let left' = lines_left c.next_line.new.lines (g.R.Read.remaining c.next_line.new.reader) in
    let gives : GivesLine c.loop-number.number left false c.next_line.new.line.items left' = subst (λ (b : Bool). GivesLine c.loop-number.number left b c.next_line.new.line.items left') c.if-not-branch.true c.in_ok-next_line.ensures.given in
    IfErr-weaker c.finish.result _ _
    (λ f h. subst (λ (x : DumpFault). IfSome (g.R.Read.remaining c.args.reader.now) (λ input. IsLoadFault c.args.start c.args.mode c.args.image input x)) (sym h.1)
    (all_cut_off c.args.start c.args.mode c.args.image (g.R.Read.remaining c.args.reader.now) c.loop-number.number left c.loop-number.loading c.next_line.new.line.items left' c.loop-number.invariant.known gives h.0))
    c.finish.ensures.fault

pub returns-in_err-loading-clause-fault : goal.returns-in_err-loading-clause-fault
returns-in_err-loading-clause-fault g c =
    let left = lines_left c.loop-number.lines (g.R.Read.remaining c.loop-number.reader) in
    let left' = lines_left c.next_line.new.lines (g.R.Read.remaining c.next_line.new.reader) in
    let line = c.as_slice.result.now in
    let items : GivesLine c.loop-number.number left true c.next_line.new.line.items left' = subst (λ (b : Bool). GivesLine c.loop-number.number left b c.next_line.new.line.items left') c.if-not-branch.false c.in_ok-next_line.ensures.given in
    let gives : GivesLine c.loop-number.number left true line left' = subst (λ (l : List ℕ). GivesLine c.loop-number.number left true l left') (sym c.as_slice.ensures.value) items in
    as_err (λ (f : DumpFault). IfSome (g.R.Read.remaining c.args.reader.now) (λ input. IsLoadFault c.args.start c.args.mode c.args.image input f)) _ c.from_residual-in_err-loading.ensures.1
    (all_step_fault c.args.start c.args.mode c.args.image (g.R.Read.remaining c.args.reader.now) c.loop-number.number left c.loop-number.loading line left' _ c.loop-number.invariant.known gives
    c.loop-number.invariant.size c.in_err-loading.ensures.fault)

pub loop-number-preserved : goal.loop-number-preserved
loop-number-preserved g c =
    let before = c.loop-number.invariant in
    let left = lines_left c.loop-number.lines (g.R.Read.remaining c.loop-number.reader) in
    let left' = lines_left c.next_line.new.lines (g.R.Read.remaining c.next_line.new.reader) in
    let line = c.as_slice.result.now in
    let items : GivesLine c.loop-number.number left true c.next_line.new.line.items left' = subst (λ (b : Bool). GivesLine c.loop-number.number left b c.next_line.new.line.items left') c.if-not-branch.false c.in_ok-next_line.ensures.given in
    let gives : GivesLine c.loop-number.number left true line left' = subst (λ (l : List ℕ). GivesLine c.loop-number.number left true l left') (sym c.as_slice.ensures.value) items in
    let takes = c.in_ok-loading.ensures.ok in
    let one = at_most_one takes.next.pair in
    let counts = takes.count_is in
    record {
      known = all_taken c.args.start c.args.mode c.args.image (g.R.Read.remaining c.args.reader.now) c.loop-number.number left c.loop-number.loading line left' _ before.known gives takes;
      few = omega (arith, before.few);
      kind = takes.kind ∙ before.kind;
      size = takes.size ∙ before.size;
    }
