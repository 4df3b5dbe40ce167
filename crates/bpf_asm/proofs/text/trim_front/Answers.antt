use Rattle.std.proofs.Common.{◌∙◌, ap, length, drop, sym, arith, rules}
use Rattle.std.proofs.lemmas.List.Sums.{prefix_len_is}
use Rattle.std.proofs.lemmas.Grind.{common_steps}
use Rattle.bpf_asm.specs.Text.{is_margin}
use Rattle.bpf_asm.proofs.Cuts.{rest_is}
use Rattle.bpf_asm.proofs.text.trim_front.Goals as goal

pub returns-then-not-margin : goal.returns-then-not-margin
returns-then-not-margin c =
    let e = prefix_len_is is_margin c.args.bytes.now c.loop-i.i 0 (omega arith) c.loop-i.invariant (λ h. search rules) in
    rest_is c.args.bytes.now c.loop-i.i ∙ ap (λ n. drop n c.args.bytes.now) (sym e)

pub returns : goal.returns
returns c =
    let e = prefix_len_is is_margin c.args.bytes.now (length c.args.bytes.now) 0 (omega arith) (λ k h. c.loop-i.invariant k (omega arith)) (λ h. absurd (omega arith)) in
    rw e (grind (arith, common_steps))
