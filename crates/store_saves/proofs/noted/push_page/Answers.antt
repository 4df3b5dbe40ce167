use Rattle.std.proofs.Common.{◌≡◌, ◌+◌, ◌*◌, ◌<◌, ◌∙◌, ◌++◌, ℕ, List, length, take, get_or, ap, sym, subst, arith, rules}
use Rattle.std.proofs.lemmas.List.{take_rest}
use Rattle.sdbm_addr.specs.Pairs.{page_bytes}
use Rattle.store_saves.proofs.MarkedIn.{padded_page}
use Rattle.store_saves.proofs.noted.push_page.Goals as goal

pub returns-clause-page : goal.returns-clause-page
returns-clause-page c =
    let size = page_bytes c.args.size in
    padded_page c.args.bytes.now.items c.args.pag.now c.extend_from_slice.new.self.items c.resize.new.self.items (c.args.number * size) size c.min.result c.min-2.result (length c.args.bytes.now.items + size)
    (search rules) (search rules) (search rules) (c.in_ok-extend_from_slice.ensures.items ∙ ap (λ (l : List ℕ). c.args.bytes.now.items ++ take c.min-2.result l) (take_rest c.args.pag.now c.min.result)) (search rules)
