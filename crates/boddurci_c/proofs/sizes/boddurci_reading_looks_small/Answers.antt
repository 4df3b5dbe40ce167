use Rattle.std.proofs.Common.{subst}
use Rattle.sdbm_addr.specs.declared.KeyBytes.{KeyBytes}
use Rattle.boddurci_handles.specs.Pieces.{bytes_read}
use Rattle.boddurci_c.specs.Sizes.{IsLook}
use Rattle.boddurci_c.proofs.sizes.boddurci_reading_looks_small.Goals as goal

pub returns-clause-look : goal.returns-clause-look
returns-clause-look c = record {
  status = c.look_at_reading.result;
  code_is = c.code.ensures;
  is = subst (λ (k : KeyBytes). IsLook k c.args.dir.now (bytes_read c.args.reading.now.read) c.args.looks.now c.look_at_reading.new.looks c.look_at_reading.result) c.form_of-kind.ensures.kind c.look_at_reading.ensures.look;
}
