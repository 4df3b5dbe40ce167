use Rattle.std.proofs.Common.{rules, ◌∙◌, ap, sym}
use Rattle.bpf_range.specs.declared.kinds.Kind.TheVariants.{Num}
use Rattle.bpf_verify.proofs.SameKinds.{same_known}
use Rattle.bpf_verify.proofs.kinds.is_same.Goals as goal

pub returns-in-Num-Num : goal.returns-in-Num-Num
returns-in-Num-Num c = λ e. c.in-Num-Num.is-0 ∙ ap Num (same_known c.in-Num-Num.one c.in-Num-Num.other (sym c.eq.ensures ∙ e)) ∙ sym c.in-Num-Num.is-1
