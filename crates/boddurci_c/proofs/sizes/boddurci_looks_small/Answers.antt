use Rattle.std.proofs.Common.{subst}
use Rattle.sdbm_addr.specs.declared.KeyBytes.{KeyBytes}
use Rattle.boddurci_c.specs.Sizes.{IsLook}
use Rattle.boddurci_c.proofs.sizes.boddurci_looks_small.Goals as goal

pub returns : goal.returns
returns c = record {
  status = c.look.result;
  code_is = c.code.ensures;
  is = subst (λ (k : KeyBytes). IsLook k c.args.dir.now c.args.pag.now c.args.looks.now c.look.new.looks c.look.result) c.form_of-kind.ensures.kind c.look.ensures;
}
