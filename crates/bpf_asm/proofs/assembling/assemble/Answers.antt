use Rattle.std.proofs.Common.{◌≡◌, ◌∙◌, ap, map, List, ℕ}
use Rattle.bpf_asm.specs.Denotes.{meanings}
use Rattle.bpf_asm.specs.Views.{view_line}
use Rattle.bpf_asm.specs.declared.line.Line.{Line}
use Rattle.bpf_asm.proofs.Yielding.{only_code}
use Rattle.bpf_asm.proofs.assembling.assemble.Goals as goal

pub returns-clause-only : goal.returns-clause-only
returns-clause-only g c =
    let said : map view_line c.deref-2.result.now ≡ meanings c.args.text.now =
    ap (λ (xs : List Line). map view_line xs) c.deref-2.ensures.value ∙ c.in_ok-lines.ensures.value ∙ ap (λ (text : List ℕ). meanings text) c.as_bytes.ensures.value in
    only_code c.args.text.now _ said c.emit.result c.emit.ensures.ok
