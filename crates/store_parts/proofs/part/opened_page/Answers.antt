use Rattle.store_parts.proofs.Pages.{opened_as}
use Rattle.store_parts.proofs.part.opened_page.Goals as goal

pub returns : goal.returns
returns c =
    let ensures = c.in-Ok.ensures in
    opened_as c.args.part c.args.known.now.kind c.args.known.now.size _ ensures.directory ensures.kind ensures.size ensures.page ensures.others
