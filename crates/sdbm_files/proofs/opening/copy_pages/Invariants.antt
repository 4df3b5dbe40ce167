use Rattle.std.proofs.Common.{◌≡◌, ◌≤◌, [], length}
use Rattle.std.specs.List.{All}
use Rattle.std.specs.HashMap.{spare}
use Rattle.sdbm_addr.specs.declared.PageSize.{PageSize}
use Rattle.sdbm_files.specs.Kept.{pages_of, AreSized}
use Rattle.sdbm_files.specs.Installed.{put_all}
use Rattle.sdbm_files.proofs.WideningLemmas.{IsFoundIn}
use Rattle.sdbm_files.proofs.opening.copy_pages.Given as goal

-- the pages copied and those left make up all pages
abbrev pub invariant-loop-number : goal.invariant-loop-number
invariant-loop-number g l =
    (goal.iterator-loop-number g).can_next l.number-iterator ×
    (goal.iterator-loop-number g).is_finite l.number-iterator ×
    (put_all (pages_of l.copy.entries) l.number-iterator ≡ put_all (pages_of []) l.pages.entries) ×
    (length l.number-iterator ≤ spare l.copy) ×
    ((size : PageSize) → AreSized size l.pages.entries → AreSized size l.copy.entries) ×
    All (IsFoundIn l.pages.entries) l.number-iterator
