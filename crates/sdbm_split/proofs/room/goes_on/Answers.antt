use Rattle.std.proofs.Common.{◌≡◌, ◌+◌, ◌≤◌, remove, sym, ap, ◌∙◌, arith}
use Rattle.std.specs.List.{sum_by}
use Rattle.sdbm_addr.specs.Pairs.{footprint, without}
use Rattle.sdbm_split.specs.Room.{pairs_without}
use Rattle.sdbm_split.proofs.Without.{pairs_without-own, own_in_range}
use Rattle.sdbm_split.proofs.room.goes_on.Goals as goal

pub returns-in-None-clause-room : goal.returns-in-None-clause-room
returns-in-None-clause-room g c =
    let pairs = c.args.page.now.pairs in
    let same : sum_by footprint (without c.args.key.now pairs) ≡ sum_by footprint pairs = ap (sum_by footprint) (sym (pairs_without-own pairs c.args.key.now c.args.own c.requires.own c.requires.distinct) ∙ ap (λ o. pairs_without o pairs) c.in-None.is) in
    (λ t. let fits = c.fits.ensures.0 t in omega (arith, same, fits), λ room. c.fits.ensures.1 (omega (arith, same, room)))

pub returns-in-Some-clause-room : goal.returns-in-Some-clause-room
returns-in-Some-clause-room g c =
    let pairs = c.args.page.now.pairs in
    let same : sum_by footprint (without c.args.key.now pairs) ≡ sum_by footprint (remove pairs c.in-Some.i) = ap (sum_by footprint) (sym (pairs_without-own pairs c.args.key.now c.args.own c.requires.own c.requires.distinct) ∙ ap (λ o. pairs_without o pairs) c.in-Some.is) in
    (λ t. let fits = c.fits_instead.ensures.0 t in omega (arith, same, fits), λ room. c.fits_instead.ensures.1 (omega (arith, same, room)))
