use Rattle.std.proofs.Common.{◌≡◌, ◌∙◌, ap, arith}
use Rattle.std.specs.Prelude.{replicate, None}
use Rattle.bpf_verify.proofs.Tables.{none_boxed}
use Rattle.bpf_verify.proofs.table.States.none.Goals as goal

pub returns : goal.returns
returns g c =
    let all : c.loop.counter ≡ c.args.units = omega arith in
    rw c.loop.invariant (none_boxed _ c.loop.counter) ∙ ap (λ n. replicate n None) all
