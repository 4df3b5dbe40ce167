use Rattle.std.proofs.Common.{◌≡◌, ◌<◌, List, Some, length, refl, sym, subst}
use Rattle.std.specs.Option.{IsSome}
use Rattle.sdbm_addr.specs.Pairs.{Pair, Content, value_at}
use Rattle.sdbm_files.proofs.InstallLemmas.{HasAt, pairs_found, pages_of-rewritten, pages_of-kept}
use Rattle.sdbm_files.proofs.pages.write_record.Goals as goal

pub write_record-requires-clause-inside : goal.write_record-requires-clause-inside
write_record-requires-clause-inside g c =
    subst (λ (ps : List Pair). c.args.i < length ps) (pairs_found c.args.pages.now.entries c.args.number c.in-Some.page.now (sym c.in-Some.ensures.value)) c.requires.inside

pub write_record-requires-clause-long : goal.write_record-requires-clause-long
write_record-requires-clause-long g c =
    subst (λ (ps : List Pair). length c.args.value.now ≡ length (value_at ps c.args.i)) (pairs_found c.args.pages.now.entries c.args.number c.in-Some.page.now (sym c.in-Some.ensures.value)) c.requires.long

-- the entries after the page is changed
has_page : (g : _) (c : goal.After-pages-in-Some-1 g) → (content : Content) → c.write_record.new.self ≡ content → HasAt c.args.pages.now.entries (c.get_mut.follows.lender c.write_record.new.self).entries c.args.number (Some content)
has_page g c content is = subst (λ (x : Content). HasAt c.args.pages.now.entries (c.get_mut.follows.lender c.write_record.new.self).entries c.args.number (Some x)) is ((c.get_mut.follows.holds c.write_record.new.self).3 (subst IsSome c.in-Some.ensures.value refl)).0

pub returns-in-Some-clause-written : goal.returns-in-Some-clause-written
returns-in-Some-clause-written g c = λ t.
    pages_of-rewritten c.args.pages.now.entries _ c.args.number c.args.i c.args.value.now c.in-Some.page.now (sym c.in-Some.ensures.value) c.requires.inside (has_page g c _ (c.write_record.ensures.written t))

pub returns-in-Some-clause-kept : goal.returns-in-Some-clause-kept
returns-in-Some-clause-kept g c = λ f.
    pages_of-kept c.args.pages.now.entries _ c.args.number c.in-Some.page.now (sym c.in-Some.ensures.value) (has_page g c _ (c.write_record.ensures.kept f))
