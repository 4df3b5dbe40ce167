use Rattle.std.proofs.Common.{◌≡◌, ◌<◌, ◌^◌, ◌*◌, ℕ, List, length, inl, inr, refl, sym, ◌∙◌, ap, subst, arith}
use Rattle.sdbm_saves.specs.declared.disk.DiskFile.TheVariants.{Pages, Directory}
use Rattle.sdbm_saves.specs.Disk.{resized}
use Rattle.sdbm_saves.specs.Redo.{replayed, renewed, IsPlan, Knows}
use Rattle.sdbm_saves.specs.OldPages.{bytes_in}
use Rattle.sdbm_saves.specs.Drafts.{plan_bytes}
use Rattle.sdbm_addr.specs.Pairs.{page_bytes}
use Rattle.sdbm_addr.specs.Files.{first_pages}
use Rattle.sdbm_files.proofs.WriteLemmas.{length-first_pages}
use Rattle.sdbm_saves.proofs.Drafts.{is_planned, knows_planned, renewed_planned}
use Rattle.sdbm_saves.proofs.PageDrafts.{are_files, resized_own}
use Rattle.sdbm_saves.proofs.Puts.{both_put}
use Rattle.sdbm_saves.proofs.reading.plan_pages.Goals as goal
use Rattle.sdbm_saves.proofs.reading.plan_pages.Goals.{then-pages-ge-LIMIT-via-then-pages-ge-LIMIT, then-pages-ge-LIMIT-via-else-pages-ge-LIMIT+then-directory-ge-LIMIT}

pub returns-then-pages-ge-LIMIT-clause-too_long : goal.returns-then-pages-ge-LIMIT-clause-too_long
returns-then-pages-ge-LIMIT-clause-too_long g c = λ is.
    let db = c.args.image.now in
    let count = c.page_count-count.result in
    let size_is : c.bytes.result ≡ page_bytes db.size = c.bytes.ensures ∙ ap page_bytes c.page_size.ensures in
    let long : length (first_pages db count) ≡ count * c.bytes.result = length-first_pages db c.page_count-count.ensures.database count ∙ ap (λ (z : ℕ). count * z) (sym size_is) in
    inl (record {
      pages = first_pages db count;
      directory = c.directory_bytes-directory.result.now;
      written = record {
        directory = c.directory_bytes-directory.ensures;
        pages = record { count = count; counted = c.page_count-count.ensures.count; is = refl };
      };
      long = elim c.then-pages-ge-LIMIT.branch [
        | then-pages-ge-LIMIT-via-then-pages-ge-LIMIT w ↦ inl (omega (arith, long, w.if-pages-ge-LIMIT.true))
        | then-pages-ge-LIMIT-via-else-pages-ge-LIMIT+then-directory-ge-LIMIT w ↦ inr (omega (arith, w.if-directory-ge-LIMIT.true))
      ];
    })

pub returns-then-are_long-clause-none : goal.returns-then-are_long-clause-none
returns-then-are_long-clause-none g c = λ is.
    let db = c.args.image.now in
    let count = c.page_count-count.result in
    let own = c.directory_bytes-directory.result.now in
    let new = first_pages db count in
    let draft = c.draft_pages.new.draft in
    let first = c.in_ok-draft_bytes.ensures in
    let second = c.in_ok-draft_pages.ensures in
    let both : List ℕ × List ℕ = (bytes_in c.args.old, c.args.old_directory.now) in
    let whole = both_put (count * c.bytes.result) (length own) both new own c.new.result.items _ _ _ _ draft.pages draft.directory draft.count draft.changes.items c.new.ensures.items first.pages first.directory second.pages second.directory
    (first.put both) (second.put both refl) in
    let new_long : length new ≡ count * c.bytes.result = length-first_pages db c.page_count-count.ensures.database count ∙ ap (λ z. count * z) (sym (c.bytes.ensures ∙ ap page_bytes c.page_size.ensures)) in
    let long = c.are_long.ensures.0 c.if-are_long.true in
    let none : 0 ≡ draft.count = sym c.if-draft-eq0.true in
    are_files db c.page_count-count.ensures.database count c.page_count-count.ensures.count both.0 both.1 own c.directory_bytes-directory.ensures
    (sym (resized_own (length new) both.0 (new_long ∙ long.0)) ∙ ap (λ (n : ℕ). replayed Pages n draft.changes.items (resized (length new) both.0)) none ∙ whole.put)
    (sym (resized_own (length own) both.1 long.1) ∙ ap (λ (n : ℕ). replayed Directory n draft.changes.items (resized (length own) both.1)) none ∙ whole.bits)

pub returns-clause-plan : goal.returns-clause-plan
returns-clause-plan g c =
    let db = c.args.image.now in
    let count = c.page_count-count.result in
    let own = c.directory_bytes-directory.result.now in
    let new = first_pages db count in
    let draft = c.draft_pages.new.draft in
    let first = c.in_ok-draft_bytes.ensures in
    let second = c.in_ok-draft_pages.ensures in
    let both : List ℕ × List ℕ = (bytes_in c.args.old, c.args.old_directory.now) in
    let whole = both_put (count * c.bytes.result) (length own) both new own c.new.result.items _ _ _ _ draft.pages draft.directory draft.count draft.changes.items c.new.ensures.items first.pages first.directory second.pages second.directory
    (first.put both) (second.put both refl) in
    let new_long : length new ≡ count * c.bytes.result = length-first_pages db c.page_count-count.ensures.database count ∙ ap (λ z. count * z) (sym (c.bytes.ensures ∙ ap page_bytes c.page_size.ensures)) in
    let pages_is : draft.pages ≡ length new = second.pages ∙ first.pages ∙ sym new_long in
    let directory_is : draft.directory ≡ length own = second.directory ∙ first.directory in
    let pages_small : draft.pages < 2 ^ 32 = omega (arith, second.pages, first.pages, c.if-pages-ge-LIMIT.false) in
    let directory_small : draft.directory < 2 ^ 32 = omega (arith, directory_is, c.if-directory-ge-LIMIT.false) in
    let few : draft.count < 2 ^ 32 = omega (arith, second.few, first.few, c.if-directory-ge-LIMIT.false) in
    let old_small : length both.0 < 2 ^ 32 = omega (arith, c.len.ensures, c.if-len-ge-LIMIT.false) in
    let old_directory_small : length both.1 < 2 ^ 32 = omega (arith, c.if-old_directory-ge-LIMIT.false) in
    let items = c.in_ok-assemble.ensures ∙ ap (λ n. plan_bytes draft.pages draft.directory n (length both.1) draft.count draft.changes.items) c.len-2.ensures in
    record {
      whole = subst (λ (l : List ℕ). IsPlan l) (sym items) (is_planned draft.pages draft.directory both draft.count draft.changes.items pages_small directory_small few old_small old_directory_small whole.changes);
      knows = subst (λ (l : List ℕ). Knows l both) (sym items) (knows_planned draft.pages draft.directory both draft.count draft.changes.items pages_small directory_small few old_small old_directory_small whole.changes);
      files = are_files db c.page_count-count.ensures.database count c.page_count-count.ensures.count _ _ own c.directory_bytes-directory.ensures
          (ap (λ (l : List ℕ). renewed Pages l both.0) items
          ∙ renewed_planned draft.pages draft.directory both draft.count draft.changes.items pages_small directory_small few old_small old_directory_small Pages (length new) both.0 pages_is
          ∙ whole.put)
          (ap (λ (l : List ℕ). renewed Directory l both.1) items
          ∙ renewed_planned draft.pages draft.directory both draft.count draft.changes.items pages_small directory_small few old_small old_directory_small Directory (length own) both.1 directory_is
          ∙ whole.bits);
    }
