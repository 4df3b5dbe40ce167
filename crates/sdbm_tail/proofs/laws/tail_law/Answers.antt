use Rattle.std.proofs.Common.{arith}
use Rattle.sdbm_tail.proofs.Tails.{tail_now, tail_left, share_does, tail_ready, append_does, append_killed, tail_next, sync_does, apply_does}
use Rattle.sdbm_tail.proofs.laws.tail_law.Goals as goal

pub returns-clause-read : goal.returns-clause-read
returns-clause-read g c = λ made synced unsynced end room count seen n tail. tail_now made synced unsynced end room count seen (g.C.Crashes.may_leave n) tail

pub returns-clause-left : goal.returns-clause-left
returns-clause-left g c = λ made synced unsynced end room count seen n tail image left. tail_left made synced unsynced end room count seen (g.C.Crashes.may_leave n) tail image left

pub returns-clause-shares : goal.returns-clause-shares
returns-clause-shares g c = λ end room count seen n ready. share_does end room count seen (g.C.Crashes.may_leave n) ready

pub returns-clause-begins : goal.returns-clause-begins
returns-clause-begins g c = λ made end room count seen n ready shared some same. tail_ready made end room count seen (g.C.Crashes.may_leave n) ready shared some same

pub returns-clause-appends : goal.returns-clause-appends
returns-clause-appends g c = λ made synced unsynced end room count plan seen n tail is_plan short growing fits few knows next.
    append_does plan is_plan short growing made synced unsynced end room count seen (g.C.Crashes.may_leave n) tail knows next (omega (arith, fits)) few

pub returns-clause-joins : goal.returns-clause-joins
returns-clause-joins g c = λ made synced unsynced end room count k plan q seen n tail is_plan short growing fits few knows next is.
    tail_next plan is_plan short growing made synced unsynced end room count seen (g.C.Crashes.may_leave n) tail knows next (omega (arith, fits)) few k q is

pub returns-clause-syncs : goal.returns-clause-syncs
returns-clause-syncs g c = λ made later synced unsynced end room count seen n tail same. sync_does made later synced unsynced end room count seen (g.C.Crashes.may_leave n) tail same

pub returns-clause-applies : goal.returns-clause-applies
returns-clause-applies g c = λ made synced end room count k q seen n tail some is. apply_does made synced end room count seen (g.C.Crashes.may_leave n) tail k q some is

pub returns-clause-kills : goal.returns-clause-kills
returns-clause-kills g c = λ made synced unsynced end room count plan seen n tail is_plan short growing fits few knows next image killed.
    append_killed plan is_plan short growing made synced unsynced end room count seen (g.C.Crashes.may_leave n) tail knows next (omega (arith, fits)) few image killed
