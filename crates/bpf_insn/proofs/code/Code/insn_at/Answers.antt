use Rattle.std.proofs.Common.{◌≡◌, ◌<◌, rules, sym, subst, Option, length, get_or}
use Rattle.std.specs.Prelude.{IfSome}
use Rattle.bpf_insn.specs.declared.insn.Insn.{Insn}
use Rattle.bpf_insn.specs.Spelling.{HasSpelling}
use Rattle.bpf_insn.specs.Stored.{insns_of}
use Rattle.bpf_insn.proofs.Codes.{fetch_has, fetch_slot}
use Rattle.bpf_insn.proofs.code.Code.insn_at.Goals as goal

pub returns-clause-has : goal.returns-clause-has
returns-clause-has g c =
    let slot : c.in_ok-get.field-0.now ≡ get_or c.self.inside.slots.items c.args.unit c.in_ok-get.field-0.now = search rules in
    let within : c.args.unit < length c.self.inside.slots.items = search rules in
    let value = fetch_slot (insns_of c.self.inside.slots.items) c.self.inside.slots.items c.args.unit c.in_ok-get.field-0.now c.self.invariant.whole within slot in
    subst (λ (o : Option Insn). IfSome o HasSpelling) (sym value) (fetch_has (insns_of c.self.inside.slots.items) c.args.unit c.self.invariant.is_code.each)
