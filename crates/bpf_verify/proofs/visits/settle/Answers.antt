use Rattle.std.proofs.Common.{refl}
use Rattle.bpf_verify.proofs.visits.settle.Goals as goal

pub returns-in-End-clause-settles : goal.returns-in-End-clause-settles
returns-in-End-clause-settles g c = λ t. rw c.in-End.is (record { between = c.args.pass.now.noted.states; first = refl; second = refl })

pub returns-in-Next-clause-settles : goal.returns-in-Next-clause-settles
returns-in-Next-clause-settles g c = λ t. rw c.in-Next.is (record { between = c.add.new.self.noted.states; first = c.add.ensures.joins; second = refl })

pub returns-in-Jump-clause-settles : goal.returns-in-Jump-clause-settles
returns-in-Jump-clause-settles g c = λ t. rw c.in-Jump.is (record { between = c.args.pass.now.noted.states; first = refl; second = c.add-in-Jump.ensures.joins })
