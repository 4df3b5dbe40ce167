use Rattle.std.proofs.Common.{◌≡◌, ℕ, List, ◌+◌, ◌-◌, ◌++◌, take, drop, get_or, sym, ◌∙◌, ap, subst, arith}
use Rattle.sdbm_saves.specs.Drafts.{change_bytes, part_of, HasPut}
use Rattle.sdbm_saves.proofs.Puts.{put_inside, put_same}
use Rattle.sdbm_saves.proofs.blocks.draft_block.Goals as goal

from_start : (xs : List ℕ) (i : ℕ) → get_or xs (0 + i) 0 ≡ get_or xs i 0
from_start xs i = let same : 0 + i ≡ i = omega arith in ap (λ k. get_or xs k 0) same

pub returns-then-reads_as-clause-put : goal.returns-then-reads_as-clause-put
returns-then-reads_as-clause-put g c = λ both reads are.
    let draft = c.args.draft.now in
    put_same draft.pages draft.directory both c.args.file c.args.at c.args.known.now c.args.block.now draft.count draft.changes.items (λ i lt. c.reads_as.ensures.0 c.if-reads_as.true i lt ∙ from_start c.args.known.now i) are

pub returns-clause-put : goal.returns-clause-put
returns-clause-put g c = λ both reads are.
    let draft = c.args.draft.now in
    let block = c.args.block.now in
    let known = c.args.known.now in
    let span = c.changed_span-span.result in
    let was = part_of known span.start (span.end - span.start) in
    let was_is : c.as_slice.result.now ≡ was = c.as_slice.ensures.value ∙ c.in_ok-was.ensures in
    let ensures = c.in_ok-push.ensures in
    let part = take (span.end - span.start) (drop span.start block) in
    let changes_are : c.push.new.draft.changes.items ≡ draft.changes.items ++ change_bytes c.args.file (c.args.at + span.start) part was =
    ensures.changes ∙ ap (λ (l : List ℕ). draft.changes.items ++ change_bytes c.args.file (c.args.at + span.start) part l) was_is in
    let outside = c.changed_span-span.ensures.outside in
    let put = put_inside draft.pages draft.directory both c.args.file c.args.at known block span.start span.end draft.count draft.changes.items c.changed_span-span.ensures.order outside.inside c.requires.near c.requires.data c.requires.fits
    reads outside.before (λ i le lt. outside.after i le lt lt) are in
    subst (λ n. HasPut draft.pages draft.directory both c.args.file c.args.at known block draft.count draft.changes.items n c.push.new.draft.changes.items) (sym ensures.count)
    (subst (λ (l : List ℕ). HasPut draft.pages draft.directory both c.args.file c.args.at known block draft.count draft.changes.items (draft.count + 1) l) (sym changes_are) put)
