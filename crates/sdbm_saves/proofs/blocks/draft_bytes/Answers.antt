use Rattle.std.proofs.Common.{◌≡◌, ◌≤◌, ◌<◌, ℕ, ◌+◌, ◌*◌, ◌-◌, min, List, ◌++◌, length, take, drop, get_or, refl, sym, ◌∙◌, ap, subst, arith}
use Rattle.std.proofs.Math.Seq.{take-add}
use Rattle.std.proofs.lemmas.List.{length-take, length-take-le, take_all}
use Rattle.sdbm_saves.specs.Redo.{data_in}
use Rattle.sdbm_saves.specs.Drafts.{AreChanges, HasPut}
use Rattle.sdbm_saves.proofs.Drafts.{length_part}
use Rattle.sdbm_saves.proofs.Puts.{put_none, put_more, part_known}
use Rattle.sdbm_saves.proofs.blocks.draft_bytes.Goals as goal

pub loop-index-init : goal.loop-index-init
loop-index-init g c = let draft = c.args.draft.now in record {
  put = λ both reads are. put_none draft.pages draft.directory both c.args.file c.args.from c.args.old.now _ draft.count draft.changes.items (omega (arith, length-take (min 0 (length c.args.new.now)) c.args.new.now)) are;
  few = omega arith;
  pages = refl;
  directory = refl;
}

pub loop-index-preserved : goal.loop-index-preserved
loop-index-preserved g c =
    let draft = c.args.draft.now in
    let old = c.args.old.now in
    let new = c.args.new.now in
    let at = c.loop-index.index * 1024 in
    let end = c.min-end.result in
    let kept = c.loop-index.invariant in
    let here = c.in_ok-draft_block.ensures in
    let before_end : at < length new = omega (arith, c.loop-index-test.true, c.div_ceil-blocks.ensures) in
    let inside : at + (end - at) ≤ length new = omega (arith, c.min-end.ensures, before_end) in
    let front = take (min at (length new)) new in
    let block = take (end - at) (drop at new) in
    let known = take (c.min-stop.result - c.min-start.result) (drop c.min-start.result old) in
    let at_is : min at (length new) ≡ at = omega (arith, before_end) in
    let front_long : length front ≡ at = ap (λ n. length (take n new)) at_is ∙ length-take-le at new (omega (arith, before_end)) in
    let long : length block ≡ end - at = length_part at (end - at) new inside in
    let reads : (i : ℕ) → i < length block → get_or known i 0 ≡ get_or old (at + i) 0 = λ i lt.
    part_known old at end c.min-start.result c.min-stop.result i c.min-start.ensures c.min-stop.ensures (omega (arith, lt, long)) in
    let whole : front ++ block ≡ take (min ((c.loop-index.index + 1) * 1024) (length new)) new =
    ap (λ n. take n new ++ block) at_is ∙ sym (take-add at (end - at) new)
    ∙ ap (λ n. take n new) (omega (arith, c.min-end.ensures, before_end)) in
    record {
      put = λ both so are.
          let first = kept.put both so are in
          let second = here.put both
          (λ i lt. reads i lt ∙ so (at + i) (omega (arith, lt, long, inside)) ∙ ap (λ n. get_or (data_in both c.args.file) n 0) (omega arith))
          (subst (λ p. AreChanges p c.loop-index.draft.directory both c.loop-index.draft.count c.loop-index.draft.changes.items) (sym kept.pages)
          (subst (λ d. AreChanges draft.pages d both c.loop-index.draft.count c.loop-index.draft.changes.items) (sym kept.directory) first.changes)) in
          subst (λ (l : List ℕ). HasPut draft.pages draft.directory both c.args.file c.args.from old l draft.count draft.changes.items c.draft_block.new.draft.count c.draft_block.new.draft.changes.items) whole
          (put_more draft.pages draft.directory both c.args.file c.args.from old front known block _ _ _ _ _ _
          (λ i lt. reads i lt ∙ ap (λ n. get_or old (n + i) 0) (sym front_long)) first
          (subst (λ n. HasPut draft.pages draft.directory both c.args.file (c.args.from + n) known block c.loop-index.draft.count c.loop-index.draft.changes.items c.draft_block.new.draft.count c.draft_block.new.draft.changes.items) (sym front_long)
          (subst (λ p. HasPut p draft.directory both c.args.file (c.args.from + at) known block c.loop-index.draft.count c.loop-index.draft.changes.items c.draft_block.new.draft.count c.draft_block.new.draft.changes.items) kept.pages
          (subst (λ d. HasPut c.loop-index.draft.pages d both c.args.file (c.args.from + at) known block c.loop-index.draft.count c.loop-index.draft.changes.items c.draft_block.new.draft.count c.draft_block.new.draft.changes.items) kept.directory second))));
      few = omega (arith, here.few, kept.few);
      pages = here.pages ∙ kept.pages;
      directory = here.directory ∙ kept.directory;
    }

pub returns-clause-put : goal.returns-clause-put
returns-clause-put g c = λ both so are.
    let draft = c.args.draft.now in
    let new = c.args.new.now in
    let all : take (min (c.loop-index.index * 1024) (length new)) new ≡ new = take_all _ new (omega (arith, c.loop-index-test.false, c.div_ceil-blocks.ensures)) in
    subst (λ (l : List ℕ). HasPut draft.pages draft.directory both c.args.file c.args.from c.args.old.now l draft.count draft.changes.items c.loop-index.draft.count c.loop-index.draft.changes.items) all
    (c.loop-index.invariant.put both so are)
