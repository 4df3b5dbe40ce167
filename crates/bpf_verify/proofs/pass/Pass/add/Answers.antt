use Rattle.std.proofs.Common.{◌∙◌, box_value}
use Rattle.bpf_verify.proofs.Keeping.{ready_put, keeps_put}
use Rattle.bpf_verify.proofs.pass.Pass.add.Goals as goal

pub returns-clause-joins : goal.returns-clause-joins
returns-clause-joins g c = record {
  both = box_value c.joined-both.result;
  is = rw c.deref.ensures at c.with.ensures;
  kept = λ s d e f. c.joined-both.ensures.kept s d (c.take.ensures.value ∙ c.requires.same ∙ e) f;
  takes = c.joined-both.ensures.new;
}

pub returns-clause-ready : goal.returns-clause-ready
returns-clause-ready g c = λ u r. rw (c.with.ensures, c.deref.ensures, c.put.ensures, c.take.ensures.gone) (ready_put _ _ c.args.to _ c.requires u r)

pub returns-clause-keeps : goal.returns-clause-keeps
returns-clause-keeps g c = λ all at k. rw (c.with.ensures, c.deref.ensures, c.put.ensures, c.take.ensures.gone) (keeps_put all at _ _ c.args.to _ c.requires k)
