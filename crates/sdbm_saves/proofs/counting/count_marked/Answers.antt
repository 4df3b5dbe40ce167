use Rattle.std.proofs.Common.{◌≡◌, ◌/◌, ◌%◌, ◌≤◌, ℕ, ap, ◌∙◌, subst}
use Rattle.sdbm_addr.specs.Pairs.{page_bytes}
use Rattle.sdbm_saves.proofs.Counts.{counted_marked}
use Rattle.sdbm_saves.proofs.Parts.{whole_pages}
use Rattle.sdbm_saves.proofs.counting.count_marked.Goals as goal

pub returns-clause-count : goal.returns-clause-count
returns-clause-count g c = λ pag marked.
    let db = c.args.image.now in
    let size_is : c.bytes-size.result ≡ page_bytes db.size = c.bytes-size.ensures ∙ ap page_bytes c.page_size.ensures in
    let rest : c.args.old.len % page_bytes db.size ≡ 0 = subst (λ (z : ℕ). c.args.old.len % z ≡ 0) size_is c.if-old-size-ne0.false in
    let least : c.args.old.len / page_bytes db.size ≤ c.count_from.result = subst (λ (z : ℕ). c.args.old.len / z ≤ c.count_from.result) size_is c.count_from.ensures.least in
    counted_marked c.args.old db pag c.has_pairs.ensures.database marked (c.args.old.len / page_bytes db.size) c.count_from.result (whole_pages db.size c.args.old.len rest) least c.count_from.ensures.last c.count_from.ensures.past
