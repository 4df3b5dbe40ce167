use Rattle.std.proofs.Common.{◌≡◌, ◌+◌, ◌/◌, ◌%◌, length, refl, sym, subst}
use Rattle.sdbm_addr.specs.Pairs.{page_bytes}
use Rattle.sdbm_files.specs.Reading.{PagRead, IsReadAs, raw_under}
use Rattle.sdbm_files.proofs.ReadLemmas.{number_is, read_still, read_page}
use Rattle.sdbm_files.proofs.reading.ReadPages.push_page.Goals as goal

pub invariant_of-self : goal.invariant_of-self
invariant_of-self g c =
    let a = c.self.inside in
    let old = a.parsed in
    let new = c.take.new.self in
    read_still a.size a.len (a.len / c.bytes.result) old.pages.entries new.pages.entries (raw_under old.raw.entries) (raw_under new.raw.entries) old.count new.count old.bad new.bad a.rest.items a.told.bytes
    (number_is a.size a.len c.bytes.result a.told.bytes c.self.invariant.long c.bytes.ensures) c.self.invariant (c.in_err-take.ensures.err a.told.bytes)

pub invariant_of-self-2 : goal.invariant_of-self-2
invariant_of-self-2 g c =
    let a = c.self.inside in
    let old = a.parsed in
    let new = c.take.new.self in
    let bytes = c.args.page.now in
    let whole = subst (λ (r : PagRead). length r.bytes % page_bytes r.size ≡ 0) (sym c.self.view_is) c.requires.whole in
    let page = subst (λ (r : PagRead). length bytes ≡ page_bytes r.size) (sym c.self.view_is) c.requires.page in
    subst (IsReadAs a.size (a.len + length bytes) new.pages.entries (raw_under new.raw.entries) new.count new.bad a.rest.items) (sym c.more.ensures)
    (read_page a.size a.len (a.len + length bytes) (a.len / c.bytes.result) old.pages.entries new.pages.entries (raw_under old.raw.entries) (raw_under new.raw.entries) old.count new.count old.bad new.bad a.rest.items
    a.told.bytes bytes whole page refl (number_is a.size a.len c.bytes.result a.told.bytes c.self.invariant.long c.bytes.ensures) c.self.invariant (c.in_ok-take.ensures.ok a.told.bytes))
