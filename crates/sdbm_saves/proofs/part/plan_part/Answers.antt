use Rattle.std.proofs.Common.{◌≡◌, ◌<◌, ◌^◌, ◌*◌, max, ℕ, List, length, replicate, inl, inr, refl, sym, ◌∙◌, ap, subst, arith}
use Rattle.std.proofs.lemmas.List.{length-replicate}
use Rattle.sdbm_saves.specs.declared.disk.DiskFile.TheVariants.{Pages, Directory}
use Rattle.sdbm_saves.specs.Disk.{resized}
use Rattle.sdbm_saves.specs.Redo.{replayed, renewed, IsPlan, Knows}
use Rattle.sdbm_saves.specs.Drafts.{plan_bytes}
use Rattle.sdbm_saves.specs.Parts.{ReadsSo, ReadPages, IsReadSo}
use Rattle.sdbm_addr.specs.Pairs.{page_bytes}
use Rattle.sdbm_saves.proofs.Drafts.{is_planned_by, knows_planned, renewed_planned}
use Rattle.sdbm_saves.proofs.PageDrafts.{resized_own}
use Rattle.sdbm_saves.proofs.Parts.{IsDrafted, sample, sample_reads, were_read, drafted, part_files, part_long}
use Rattle.sdbm_saves.proofs.part.plan_part.Given as given
use Rattle.sdbm_saves.proofs.part.plan_part.Goals as goal
use Rattle.sdbm_saves.proofs.part.plan_part.Goals.{then-pages-ge-LIMIT-via-then-pages-ge-LIMIT, then-pages-ge-LIMIT-via-else-pages-ge-LIMIT+then-directory-ge-LIMIT, then-old-ge-LIMIT-via-then-old-ge-LIMIT, then-old-ge-LIMIT-via-else-old-ge-LIMIT+then-numbers-gt-MOST}

pub returns-then-pages-ge-LIMIT-clause-too_long : goal.returns-then-pages-ge-LIMIT-clause-too_long
returns-then-pages-ge-LIMIT-clause-too_long g c = λ is. inr (λ db pag part.
    let counted = c.pag_len.ensures.long in
    inl (part_long c.args.old c.args.numbers.now c.args.image.now db pag part counted.0 c.max-pages.result c.requires.covers counted.1.0 c.requires.whole (omega (arith, c.max-pages.ensures, counted.1.1))
    c.directory_bytes-directory.result.now c.directory_bytes-directory.ensures
    (elim c.then-pages-ge-LIMIT.branch [
      | then-pages-ge-LIMIT-via-then-pages-ge-LIMIT w ↦ inl w.if-pages-ge-LIMIT.true
      | then-pages-ge-LIMIT-via-else-pages-ge-LIMIT+then-directory-ge-LIMIT w ↦ inr w.if-directory-ge-LIMIT.true
    ])))

pub returns-then-old-ge-LIMIT-clause-too_long : goal.returns-then-old-ge-LIMIT-clause-too_long
returns-then-old-ge-LIMIT-clause-too_long g c = λ is. elim c.then-old-ge-LIMIT.branch [
  | then-old-ge-LIMIT-via-then-old-ge-LIMIT w ↦ inr (λ db pag part. inr (inr w.if-old-ge-LIMIT.true))
  | then-old-ge-LIMIT-via-else-old-ge-LIMIT+then-numbers-gt-MOST w ↦ inl w.if-numbers-gt-MOST.true
]

pub returns-then-is_long-clause-none : goal.returns-then-is_long-clause-none
returns-then-is_long-clause-none g c = λ is db pag part.
    let draft = c.draft_parts.new.draft in
    let known = c.args.image.now in
    let own = c.directory_bytes-directory.result.now in
    let before : List ℕ × List ℕ = (pag, c.args.old.directory.now) in
    let first = c.in_ok-draft_bytes.ensures in
    let second = c.in_ok-draft_parts.ensures in
    let were = c.in_ok-were.ensures in
    let counted = c.pag_len.ensures.long in
    let done = drafted known c.args.numbers.now own c.max-pages.result (length own) before c.new.result.items _ _ _ _ draft.pages draft.directory draft.count draft.changes.items c.new.ensures.items first.pages first.directory second.pages second.directory
    (first.put before) (second.put before (subst (λ (l : List ℕ). ReadPages known.size c.args.numbers.now l pag) (sym c.as_slice.ensures.value) (were_read c.args.old c.args.numbers.now known.size c.bytes.result c.in_ok-were.were.items pag (c.bytes.ensures ∙ ap page_bytes c.page_size.ensures) part.read.reads were.own were.others))) in
    let whole_is : draft.pages ≡ max c.args.old.len (counted.0 * page_bytes known.size) = omega (arith, first.pages, second.pages, c.max-pages.ensures, counted.1.1) in
    let long = c.is_long.ensures.0 c.if-is_long.true in
    let none : 0 ≡ draft.count = sym c.if-draft-eq0.true in
    part_files c.args.old c.args.numbers.now known db pag part counted.0 draft.pages c.requires.covers counted.1.0 c.requires.whole whole_is own c.directory_bytes-directory.ensures
    (replayed Pages draft.count draft.changes.items (resized draft.pages pag)) done.file pag c.args.old.directory.now
    (sym (resized_own draft.pages pag (second.pages ∙ first.pages ∙ long.0 ∙ sym part.read.long)) ∙ ap (λ (n : ℕ). replayed Pages n draft.changes.items (resized draft.pages pag)) none)
    (sym (resized_own (length own) c.args.old.directory.now long.1)
    ∙ ap (λ (n : ℕ). replayed Directory n draft.changes.items (resized (length own) c.args.old.directory.now)) none
    ∙ done.bits)

-- the draft is small enough for a plan, with old pages of the given length
module _ (g : given.Over) (c : goal.After-drop-draft-2 g) where
  pages_small : c.draft_parts.new.draft.pages < 2 ^ 32
  pages_small = omega (arith, c.in_ok-draft_parts.ensures.pages, c.in_ok-draft_bytes.ensures.pages, c.if-pages-ge-LIMIT.false)

  directory_is : c.draft_parts.new.draft.directory ≡ length c.directory_bytes-directory.result.now
  directory_is = c.in_ok-draft_parts.ensures.directory ∙ c.in_ok-draft_bytes.ensures.directory

  directory_small : c.draft_parts.new.draft.directory < 2 ^ 32
  directory_small = omega (arith, directory_is, c.if-directory-ge-LIMIT.false)

  few : c.draft_parts.new.draft.count < 2 ^ 32
  few = omega (arith, c.in_ok-draft_parts.ensures.few, c.in_ok-draft_bytes.ensures.few, c.if-numbers-gt-MOST.false, c.if-directory-ge-LIMIT.false)

  old_small : c.args.old.len < 2 ^ 32
  old_small = omega (arith, c.max-pages.ensures, c.if-pages-ge-LIMIT.false)

  old_directory_small : length c.args.old.directory.now < 2 ^ 32
  old_directory_small = omega (arith, c.if-old-ge-LIMIT.false)

  done : (pag : List ℕ) → ReadsSo c.args.old c.args.numbers.now c.args.image.now.size pag
      → IsDrafted c.args.image.now c.args.numbers.now c.directory_bytes-directory.result.now c.draft_parts.new.draft.pages c.draft_parts.new.draft.directory (pag, c.args.old.directory.now) c.draft_parts.new.draft.count c.draft_parts.new.draft.changes.items
  done pag so =
      let known = c.args.image.now in
      let own = c.directory_bytes-directory.result.now in
      let before : List ℕ × List ℕ = (pag, c.args.old.directory.now) in
      let first = c.in_ok-draft_bytes.ensures in
      let second = c.in_ok-draft_parts.ensures in
      let were = c.in_ok-were.ensures in
      drafted known c.args.numbers.now own c.max-pages.result (length own) before c.new.result.items _ _ _ _ c.draft_parts.new.draft.pages c.draft_parts.new.draft.directory _ _ c.new.ensures.items first.pages first.directory second.pages second.directory
      (first.put before) (second.put before (subst (λ (l : List ℕ). ReadPages known.size c.args.numbers.now l pag) (sym c.as_slice.ensures.value) (were_read c.args.old c.args.numbers.now known.size c.bytes.result c.in_ok-were.were.items pag (c.bytes.ensures ∙ ap page_bytes c.page_size.ensures) so were.own were.others)))

  plan_is : (pag : List ℕ) → length pag ≡ c.args.old.len → c.in_ok-assemble.field-0.items ≡ plan_bytes c.draft_parts.new.draft.pages c.draft_parts.new.draft.directory (length pag) (length c.args.old.directory.now) c.draft_parts.new.draft.count c.draft_parts.new.draft.changes.items
  plan_is pag long = c.in_ok-assemble.ensures ∙ ap (λ n. plan_bytes c.draft_parts.new.draft.pages c.draft_parts.new.draft.directory n (length c.args.old.directory.now) c.draft_parts.new.draft.count c.draft_parts.new.draft.changes.items) (sym long)

  is_plan : IsPlan c.in_ok-assemble.field-0.items
  is_plan =
      let draft = c.draft_parts.new.draft in
      let known = c.args.image.now in
      let pag : List ℕ = replicate c.args.old.len 0 in
      let long : length pag ≡ c.args.old.len = length-replicate {A = ℕ} c.args.old.len 0 in
      let some = sample c.args.old c.args.numbers.now known.size c.requires.page in
      let so = sample_reads c.args.old c.args.numbers.now known.size c.requires.page in
      subst (λ (l : List ℕ). IsPlan l) (sym (plan_is pag long))
      (is_planned_by draft.pages draft.directory (pag, c.args.old.directory.now) draft.count draft.changes.items pages_small directory_small few (omega (arith, long, old_small)) old_directory_small
      (some, c.args.old.directory.now) (done some so).changes)

  knows_so : (pag : List ℕ) → IsReadSo c.args.old c.args.numbers.now c.args.image.now.size pag → Knows c.in_ok-assemble.field-0.items (pag, c.args.old.directory.now)
  knows_so pag read =
      let draft = c.draft_parts.new.draft in
      let before : List ℕ × List ℕ = (pag, c.args.old.directory.now) in
      subst (λ (l : List ℕ). Knows l before) (sym (plan_is pag read.long))
      (knows_planned draft.pages draft.directory before draft.count draft.changes.items pages_small directory_small few (omega (arith, read.long, old_small)) old_directory_small
      (done pag read.reads).changes)

pub returns-clause-whole : goal.returns-clause-whole
returns-clause-whole g c = (is_plan g c, knows_so g c)

pub returns-clause-plan : goal.returns-clause-plan
returns-clause-plan g c = λ db pag part.
    let draft = c.draft_parts.new.draft in
    let known = c.args.image.now in
    let own = c.directory_bytes-directory.result.now in
    let counted = c.pag_len.ensures.long in
    let whole_is : draft.pages ≡ max c.args.old.len (counted.0 * page_bytes known.size) = omega (arith, c.in_ok-draft_bytes.ensures.pages, c.in_ok-draft_parts.ensures.pages, c.max-pages.ensures, counted.1.1) in
    let before : List ℕ × List ℕ = (pag, c.args.old.directory.now) in
    let items = plan_is g c pag part.read.long in
    let pag_small : length pag < 2 ^ 32 = omega (arith, part.read.long, old_small g c) in
    let made = done g c pag part.read.reads in
    record {
      whole = is_plan g c;
      knows = knows_so g c pag part.read;
      files = part_files c.args.old c.args.numbers.now known db pag part counted.0 draft.pages c.requires.covers counted.1.0 c.requires.whole whole_is own c.directory_bytes-directory.ensures
          (replayed Pages draft.count draft.changes.items (resized draft.pages pag)) made.file _ _
          (ap (λ (l : List ℕ). renewed Pages l pag) items
          ∙ renewed_planned draft.pages draft.directory before draft.count draft.changes.items (pages_small g c) (directory_small g c) (few g c) pag_small (old_directory_small g c) Pages draft.pages pag refl)
          (ap (λ (l : List ℕ). renewed Directory l c.args.old.directory.now) items
          ∙ renewed_planned draft.pages draft.directory before draft.count draft.changes.items (pages_small g c) (directory_small g c) (few g c) pag_small (old_directory_small g c) Directory (length own) c.args.old.directory.now (directory_is g c)
          ∙ made.bits);
    }
