use Rattle.boddurci_c.proofs.Looks.{look_is}
use Rattle.boddurci_c.proofs.sizes.look.Goals as goal

pub returns : goal.returns
returns c =
    look_is c.args.kind c.args.dir.now c.args.pag.now c.args.looks.now c.set_looks.new.looks c.set_looks.result c.bytes_look_small-found.result
    c.bytes_look_small-found.ensures.is c.bytes_look_small-found.ensures.none c.set_looks.ensures.ok c.set_looks.ensures.err
