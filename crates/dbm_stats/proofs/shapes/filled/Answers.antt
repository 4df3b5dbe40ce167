use Rattle.std.proofs.Common.{◌≡◌, ap, ◌∙◌, arith}
use Rattle.sdbm_addr.specs.Pairs.{page_bytes}
use Rattle.dbm_stats.proofs.shapes.filled.Goals as goal

pub returns : goal.returns
returns g c =
    let bytes : c.bytes.result ≡ page_bytes c.args.page.now.size = c.bytes.ensures ∙ ap page_bytes c.page_size.ensures in
    let free = c.free.ensures in
    omega (arith, bytes, free)
