use Rattle.std.proofs.Common.{◌∙◌, ap}
use Rattle.sdbm_addr.specs.Pairs.{page_bytes}
use Rattle.sdbm_files.specs.Reading.{PagRead}
use Rattle.sdbm_files.proofs.PagesInBytes.{block_of_page}
use Rattle.sdbm_files.proofs.reading.ReadPages.block.Goals as goal

pub returns : goal.returns
returns g c =
    let a = c.args.self.now in
    block_of_page a.size a.bytes c.page.result.now c.part.result.now c.args.index c.bytes-blocks.result (c.bytes-blocks.ensures ∙ ap (λ (r : PagRead). page_bytes r.size) c.self.view_is) c.page.ensures c.part.ensures.short
    c.part.ensures.reads
