use Rattle.std.proofs.Common.{◌≡◌, ◌<◌, ◌^◌, ◌*◌, ℕ, List, length, inl, inr, refl, sym, ◌∙◌, ap, subst, arith}
use Rattle.sdbm_saves.specs.declared.disk.DiskFile.TheVariants.{Pages, Directory}
use Rattle.sdbm_saves.specs.Disk.{resized}
use Rattle.sdbm_saves.specs.Redo.{replayed, renewed, IsPlan, Knows}
use Rattle.sdbm_saves.specs.Drafts.{plan_bytes}
use Rattle.sdbm_addr.specs.Pairs.{page_bytes}
use Rattle.sdbm_addr.specs.Files.{first_pages}
use Rattle.sdbm_files.proofs.WriteLemmas.{length-first_pages}
use Rattle.sdbm_saves.proofs.Drafts.{is_planned, knows_planned, renewed_planned}
use Rattle.sdbm_saves.proofs.PageDrafts.{are_files, resized_own}
use Rattle.sdbm_saves.proofs.Parts.{drafted, marked_made}
use Rattle.sdbm_saves.proofs.marked.plan_marked.Given as given
use Rattle.sdbm_saves.proofs.marked.plan_marked.Goals as goal
use Rattle.sdbm_saves.proofs.marked.plan_marked.Goals.{then-pages-ge-LIMIT-via-then-pages-ge-LIMIT, then-pages-ge-LIMIT-via-else-pages-ge-LIMIT+then-directory-ge-LIMIT}

pub returns-then-pages-ge-LIMIT-clause-too_long : goal.returns-then-pages-ge-LIMIT-clause-too_long
returns-then-pages-ge-LIMIT-clause-too_long g c = λ is. inr (λ pag marked.
    let db = c.args.image.now in
    let count = c.count_marked-count.result in
    let size_is : c.bytes.result ≡ page_bytes db.size = c.bytes.ensures ∙ ap page_bytes c.page_size.ensures in
    let long : length (first_pages db count) ≡ count * c.bytes.result = length-first_pages db c.count_marked-count.ensures.database count ∙ ap (λ (z : ℕ). count * z) (sym size_is) in
    inl (record {
      pages = first_pages db count;
      directory = c.directory_bytes-directory.result.now;
      written = record {
        directory = c.directory_bytes-directory.ensures;
        pages = record { count = count; counted = c.count_marked-count.ensures.count pag marked; is = refl };
      };
      long = elim c.then-pages-ge-LIMIT.branch [
        | then-pages-ge-LIMIT-via-then-pages-ge-LIMIT w ↦ inl (omega (arith, long, w.if-pages-ge-LIMIT.true))
        | then-pages-ge-LIMIT-via-else-pages-ge-LIMIT+then-directory-ge-LIMIT w ↦ inr (omega (arith, w.if-directory-ge-LIMIT.true))
      ];
    }))

pub returns-then-old-directory-clause-none : goal.returns-then-old-directory-clause-none
returns-then-old-directory-clause-none g c = λ is pag marked.
    let db = c.args.image.now in
    let count = c.count_marked-count.result in
    let own = c.directory_bytes-directory.result.now in
    let draft = c.draft_parts.new.draft in
    let first = c.in_ok-draft_bytes.ensures in
    let second = c.in_ok-draft_parts.ensures in
    let before : List ℕ × List ℕ = (pag, c.args.old.directory.now) in
    let whole_is : draft.pages ≡ count * page_bytes db.size = second.pages ∙ first.pages ∙ ap (λ z. count * z) (c.bytes.ensures ∙ ap page_bytes c.page_size.ensures) in
    let done = drafted db c.args.old.numbers.now own (count * c.bytes.result) (length own) before c.new.result.items _ _ _ _ draft.pages draft.directory draft.count draft.changes.items c.new.ensures.items first.pages first.directory second.pages second.directory
    (first.put before) (second.put before marked.reads) in
    let none : 0 ≡ draft.count = sym c.if-draft-eq0.true in
    let long : draft.pages ≡ length pag = second.pages ∙ first.pages ∙ sym c.if-old-pages.true ∙ sym marked.long in
    are_files db c.count_marked-count.ensures.database count (c.count_marked-count.ensures.count pag marked) pag c.args.old.directory.now own c.directory_bytes-directory.ensures
    (sym (resized_own draft.pages pag long) ∙ ap (λ (n : ℕ). replayed Pages n draft.changes.items (resized draft.pages pag)) none
    ∙ marked_made c.args.old db pag c.count_marked-count.ensures.database marked draft.pages count _ whole_is done.file)
    (sym (resized_own (length own) c.args.old.directory.now (sym c.if-old-directory.true))
    ∙ ap (λ (n : ℕ). replayed Directory n draft.changes.items (resized (length own) c.args.old.directory.now)) none
    ∙ done.bits)

-- the draft is small enough for a plan
module _ (g : given.Over) (c : goal.After-drop-draft-2 g) where
  pages_small : c.draft_parts.new.draft.pages < 2 ^ 32
  pages_small = omega (arith, c.in_ok-draft_parts.ensures.pages, c.in_ok-draft_bytes.ensures.pages, c.if-pages-ge-LIMIT.false)

  directory_is : c.draft_parts.new.draft.directory ≡ length c.directory_bytes-directory.result.now
  directory_is = c.in_ok-draft_parts.ensures.directory ∙ c.in_ok-draft_bytes.ensures.directory

  directory_small : c.draft_parts.new.draft.directory < 2 ^ 32
  directory_small = omega (arith, directory_is, c.if-directory-ge-LIMIT.false)

  few : c.draft_parts.new.draft.count < 2 ^ 32
  few = omega (arith, c.in_ok-draft_parts.ensures.few, c.in_ok-draft_bytes.ensures.few, c.if-old-gt-MOST.false, c.if-directory-ge-LIMIT.false)

pub returns-clause-plan : goal.returns-clause-plan
returns-clause-plan g c = λ pag marked.
    let db = c.args.image.now in
    let count = c.count_marked-count.result in
    let own = c.directory_bytes-directory.result.now in
    let draft = c.draft_parts.new.draft in
    let first = c.in_ok-draft_bytes.ensures in
    let second = c.in_ok-draft_parts.ensures in
    let before : List ℕ × List ℕ = (pag, c.args.old.directory.now) in
    let whole_is : draft.pages ≡ count * page_bytes db.size = second.pages ∙ first.pages ∙ ap (λ z. count * z) (c.bytes.ensures ∙ ap page_bytes c.page_size.ensures) in
    let done = drafted db c.args.old.numbers.now own (count * c.bytes.result) (length own) before c.new.result.items _ _ _ _ draft.pages draft.directory draft.count draft.changes.items c.new.ensures.items first.pages first.directory second.pages second.directory
    (first.put before) (second.put before marked.reads) in
    let items = c.in_ok-assemble.ensures ∙ ap (λ n. plan_bytes draft.pages draft.directory n (length c.args.old.directory.now) draft.count draft.changes.items) (sym marked.long) in
    let old_small : length pag < 2 ^ 32 = omega (arith, marked.long, c.if-old-ge-LIMIT.false) in
    let old_directory_small : length c.args.old.directory.now < 2 ^ 32 = omega (arith, c.if-old-ge-LIMIT-2.false) in
    record {
      whole = subst (λ (l : List ℕ). IsPlan l) (sym items) (is_planned draft.pages draft.directory before draft.count draft.changes.items (pages_small g c) (directory_small g c) (few g c) old_small old_directory_small done.changes);
      knows = subst (λ (l : List ℕ). Knows l before) (sym items) (knows_planned draft.pages draft.directory before draft.count draft.changes.items (pages_small g c) (directory_small g c) (few g c) old_small old_directory_small done.changes);
      files = are_files db c.count_marked-count.ensures.database count (c.count_marked-count.ensures.count pag marked) _ _ own c.directory_bytes-directory.ensures
          (ap (λ (l : List ℕ). renewed Pages l pag) items
          ∙ renewed_planned draft.pages draft.directory before draft.count draft.changes.items (pages_small g c) (directory_small g c) (few g c) old_small old_directory_small Pages draft.pages pag refl
          ∙ marked_made c.args.old db pag c.count_marked-count.ensures.database marked draft.pages count _ whole_is done.file)
          (ap (λ (l : List ℕ). renewed Directory l c.args.old.directory.now) items
          ∙ renewed_planned draft.pages draft.directory before draft.count draft.changes.items (pages_small g c) (directory_small g c) (few g c) old_small old_directory_small Directory (length own) c.args.old.directory.now (directory_is g c)
          ∙ done.bits);
    }
