use Rattle.std.proofs.Common.{◌≡◌, ◌+◌, ◌%◌, ◌<◌, ◌++◌, length, refl, sym, subst}
use Rattle.sdbm_addr.specs.Pairs.{page_bytes}
use Rattle.sdbm_files.specs.Reading.{PagRead, IsReadAs, raw_under}
use Rattle.sdbm_files.proofs.ReadLemmas.{read_same, read_rest}
use Rattle.sdbm_files.proofs.reading.ReadPages.push_rest.Goals as goal

pub invariant_of-self : goal.invariant_of-self
invariant_of-self g c =
    let a = c.self.inside in
    read_same a.size a.len a.parsed.pages.entries (raw_under a.parsed.raw.entries) a.parsed.count a.parsed.bad a.rest.items c.extend_from_slice.new.self.items a.told.bytes c.in_err-extend_from_slice.ensures.items
    c.self.invariant

pub invariant_of-self-2 : goal.invariant_of-self-2
invariant_of-self-2 g c =
    let a = c.self.inside in
    let pag = a.told.bytes in
    let raw = raw_under a.parsed.raw.entries in
    let bytes = c.args.rest.now in
    let more = c.extend_from_slice.new.self.items in
    let whole = subst (λ (r : PagRead). length r.bytes % page_bytes r.size ≡ 0) (sym c.self.view_is) c.requires.whole in
    let short = subst (λ (r : PagRead). length bytes < page_bytes r.size) (sym c.self.view_is) c.requires.rest in
    let joined : more ≡ a.rest.items ++ bytes = c.in_ok-extend_from_slice.ensures.items in
    subst (IsReadAs a.size (a.len + length bytes) a.parsed.pages.entries raw a.parsed.count a.parsed.bad more) (sym c.more.ensures)
    (read_rest a.size a.len (a.len + length bytes) a.parsed.pages.entries raw a.parsed.count a.parsed.bad a.rest.items more pag bytes whole short refl joined c.self.invariant)
