use Rattle.std.proofs.Common.{◌≡◌, rules, arith, length, true, Some, None}
use Rattle.bpf_flow.proofs.Jumping.{branch_sound, branch_flows}
use Rattle.bpf_flow.proofs.branches.flow_branch.Goals as goal

pub returns-then-not-follow_edge : goal.returns-then-not-follow_edge
returns-then-not-follow_edge c = λ offset forward.
    branch_flows c.args.test c.args.width c.args.dst c.args.src offset c.args.state.now (record { next = None; jump = Some c.follow_edge-jumps.new.state })
    (branch_sound c.args.test c.args.width c.args.dst c.args.src offset c.args.state.now (record { next = None; jump = Some c.follow_edge-jumps.new.state }) c.in-Some.a c.in-Some-number_of.b forward
    (λ d f. c.in-Some.ensures (length d.bytes) (length d.argument) _ f.bytes f.argument (rw c.kind-first.ensures (f.kinds c.args.dst (omega arith))))
    (λ d f. c.in-Some-number_of.ensures (length d.bytes) (length d.argument) _ f.bytes f.argument (c.tested_operand-second.ensures d f))
    (λ d f x y h. let t : c.follow_edge.result ≡ true = (c.follow_edge.ensures d f x y h).0 in let e : ⊥ = search rules in absurd e)
    (λ d f x y h. (c.follow_edge-jumps.ensures d (rw c.requires.same f) x y h).1))

pub returns-then-jumps : goal.returns-then-jumps
returns-then-jumps c = λ offset forward.
    branch_flows c.args.test c.args.width c.args.dst c.args.src offset c.args.state.now (record { next = Some c.follow_edge.new.state; jump = Some c.follow_edge-jumps.new.state })
    (branch_sound c.args.test c.args.width c.args.dst c.args.src offset c.args.state.now (record { next = Some c.follow_edge.new.state; jump = Some c.follow_edge-jumps.new.state }) c.in-Some.a c.in-Some-number_of.b forward
    (λ d f. c.in-Some.ensures (length d.bytes) (length d.argument) _ f.bytes f.argument (rw c.kind-first.ensures (f.kinds c.args.dst (omega arith))))
    (λ d f. c.in-Some-number_of.ensures (length d.bytes) (length d.argument) _ f.bytes f.argument (c.tested_operand-second.ensures d f))
    (λ d f x y h. (c.follow_edge.ensures d f x y h).1)
    (λ d f x y h. (c.follow_edge-jumps.ensures d (rw c.requires.same f) x y h).1))

pub returns : goal.returns
returns c = λ offset forward.
    branch_flows c.args.test c.args.width c.args.dst c.args.src offset c.args.state.now (record { next = Some c.follow_edge.new.state; jump = None })
    (branch_sound c.args.test c.args.width c.args.dst c.args.src offset c.args.state.now (record { next = Some c.follow_edge.new.state; jump = None }) c.in-Some.a c.in-Some-number_of.b forward
    (λ d f. c.in-Some.ensures (length d.bytes) (length d.argument) _ f.bytes f.argument (rw c.kind-first.ensures (f.kinds c.args.dst (omega arith))))
    (λ d f. c.in-Some-number_of.ensures (length d.bytes) (length d.argument) _ f.bytes f.argument (c.tested_operand-second.ensures d f))
    (λ d f x y h. (c.follow_edge.ensures d f x y h).1)
    (λ d f x y h. let t : c.follow_edge-jumps.result ≡ true = (c.follow_edge-jumps.ensures d (rw c.requires.same f) x y h).0 in let e : ⊥ = search rules in absurd e))
