use Rattle.std.proofs.Common.{◌≤◌, ◌-◌, ◌++◌, ◌∷◌, [], length, nat_eq, ℕ, ap, ◌∙◌, arith}
use Rattle.lru.specs.LruCache.{LruCache, lru_cache, demoted}
use Rattle.hold_modes.specs.declared.modes.Hold.{Hold}
use Rattle.hold_modes.proofs.TakenLemmas.{put_last}
use Rattle.hold_modes.proofs.hold_queue.add.Goals as goal

pub returns-clause-ok : goal.returns-clause-ok
returns-clause-ok g c =
    let room : length c.args.holds.now.entries ≤ c.args.holds.now.cap - 1 = rw c.requires.unbounded (omega (arith, c.len-fits.ensures.len, c.len-fits.ensures.fits)) in
    c.demote.ensures.entries
    ∙ (ap (λ (h : LruCache ℕ (ℕ × Hold)). lru_cache (demoted (nat_eq c.args.ticket.0) h.entries) h.cap) c.in_ok-put.ensures.entries
    ∙ (ap (λ es. lru_cache es c.args.holds.now.cap) (put_last c.args.holds.now c.args.ticket.0 (c.args.page, c.args.mode) c.requires.absent room)
    ∙ ap (λ n. lru_cache (c.args.holds.now.entries ++ (c.args.ticket.0, (c.args.page, c.args.mode)) ∷ []) n) c.requires.unbounded))
