use Rattle.std.proofs.Common.{arith, ◌≡◌, ◌⊎◌, inl, inr, ⊎_elim, ℕ, ◌*◌, ◌≤◌, List, [], get_or, ap, OnOk}
use Rattle.std.specs.Prelude.{Result, Ok, Err}
use Rattle.sdbm_saves.specs.Disk.{TornLength}
use Rattle.sdbm_saves.specs.Redo.{StaysUnmarked}
use Rattle.sdbm_saves.proofs.Moments.{one_call, joined}
use Rattle.sdbm_saves.proofs.Marks.{stays_self, stays_joins, stays_within}
use Rattle.sdbm_logged.proofs.room.try_blocks.Goals as goal

-- the steps of the calls
gone : (x y : List ℕ) → (y ≡ x) ⊎ (y ≡ []) → (get_or y 0 0 ≡ get_or x 0 0) ⊎ (get_or y 0 0 ≡ 0)
gone x y step = ⊎_elim (λ same. inl (ap (λ (l : List ℕ). get_or l 0 0) same)) (λ none. inr (ap (λ (l : List ℕ). get_or l 0 0) none)) step

longer : (blocks : ℕ) → 1 ≤ blocks → (x y : List ℕ) → TornLength (blocks * 4096) x y → (get_or y 0 0 ≡ get_or x 0 0) ⊎ (get_or y 0 0 ≡ 0)
longer blocks some x y torn = inl (torn.same 0 (omega (arith, some)))

map_ok : {T E : Type 0} (r : Result T E) (P Q : Type 0) → (P → Q) → OnOk r P → OnOk r Q
map_ok (Ok x) P Q f h = f h
map_ok (Err x) P Q f h = tt

pub returns-in_err-clear-clause-any_moment : goal.returns-in_err-clear-clause-any_moment
returns-in_err-clear-clause-any_moment g c =
    let zeroth = one_call g.D.Disk.moment g.D.Disk.left_since g.D.Disk.may_leave g.met.D.Disk.only_now StaysUnmarked c.args.disk.now c.clear.new.self stays_self
    (λ o now. let from = c.clear.ensures.crash o now in (from.0, from.1, stays_within _ gone from.0 o from.2)) c.clear.ensures.time in
    zeroth

pub returns-in_err-resize-clause-any_moment : goal.returns-in_err-resize-clause-any_moment
returns-in_err-resize-clause-any_moment g c =
    let zeroth = one_call g.D.Disk.moment g.D.Disk.left_since g.D.Disk.may_leave g.met.D.Disk.only_now StaysUnmarked c.args.disk.now c.clear.new.self stays_self
    (λ o now. let from = c.clear.ensures.crash o now in (from.0, from.1, stays_within _ gone from.0 o from.2)) c.clear.ensures.time in
    let some : 1 ≤ c.min-blocks.result = omega (arith, c.requires.some, c.min-blocks.ensures) in
    let first = one_call g.D.Disk.moment g.D.Disk.left_since g.D.Disk.may_leave g.met.D.Disk.only_now StaysUnmarked c.clear.new.self c.resize.new.self stays_self
    (λ o now. let from = c.resize.ensures.crash o now in (from.0, from.1, stays_within _ (longer c.min-blocks.result some) from.0 o from.2)) c.resize.ensures.time in
    let start = joined g.D.Disk.moment g.D.Disk.left_since g.D.Disk.may_leave StaysUnmarked c.args.disk.now c.clear.new.self c.resize.new.self stays_joins zeroth first in
    start

pub returns-in_err-fill-clause-any_moment : goal.returns-in_err-fill-clause-any_moment
returns-in_err-fill-clause-any_moment g c =
    let zeroth = one_call g.D.Disk.moment g.D.Disk.left_since g.D.Disk.may_leave g.met.D.Disk.only_now StaysUnmarked c.args.disk.now c.clear.new.self stays_self
    (λ o now. let from = c.clear.ensures.crash o now in (from.0, from.1, stays_within _ gone from.0 o from.2)) c.clear.ensures.time in
    let some : 1 ≤ c.min-blocks.result = omega (arith, c.requires.some, c.min-blocks.ensures) in
    let first = one_call g.D.Disk.moment g.D.Disk.left_since g.D.Disk.may_leave g.met.D.Disk.only_now StaysUnmarked c.clear.new.self c.resize.new.self stays_self
    (λ o now. let from = c.resize.ensures.crash o now in (from.0, from.1, stays_within _ (longer c.min-blocks.result some) from.0 o from.2)) c.resize.ensures.time in
    let start = joined g.D.Disk.moment g.D.Disk.left_since g.D.Disk.may_leave StaysUnmarked c.args.disk.now c.clear.new.self c.resize.new.self stays_joins zeroth first in
    let filled = joined g.D.Disk.moment g.D.Disk.left_since g.D.Disk.may_leave StaysUnmarked c.args.disk.now c.resize.new.self c.fill.new.disk stays_joins start c.fill.ensures.any_moment in
    filled

pub returns-clause-any_moment : goal.returns-clause-any_moment
returns-clause-any_moment g c =
    let zeroth = one_call g.D.Disk.moment g.D.Disk.left_since g.D.Disk.may_leave g.met.D.Disk.only_now StaysUnmarked c.args.disk.now c.clear.new.self stays_self
    (λ o now. let from = c.clear.ensures.crash o now in (from.0, from.1, stays_within _ gone from.0 o from.2)) c.clear.ensures.time in
    let some : 1 ≤ c.min-blocks.result = omega (arith, c.requires.some, c.min-blocks.ensures) in
    let first = one_call g.D.Disk.moment g.D.Disk.left_since g.D.Disk.may_leave g.met.D.Disk.only_now StaysUnmarked c.clear.new.self c.resize.new.self stays_self
    (λ o now. let from = c.resize.ensures.crash o now in (from.0, from.1, stays_within _ (longer c.min-blocks.result some) from.0 o from.2)) c.resize.ensures.time in
    let start = joined g.D.Disk.moment g.D.Disk.left_since g.D.Disk.may_leave StaysUnmarked c.args.disk.now c.clear.new.self c.resize.new.self stays_joins zeroth first in
    let filled = joined g.D.Disk.moment g.D.Disk.left_since g.D.Disk.may_leave StaysUnmarked c.args.disk.now c.resize.new.self c.fill.new.disk stays_joins start c.fill.ensures.any_moment in
    let last = one_call g.D.Disk.moment g.D.Disk.left_since g.D.Disk.may_leave g.met.D.Disk.only_now StaysUnmarked c.fill.new.disk c.clear-2.new.self stays_self
    (λ o now. let from = c.clear-2.ensures.crash o now in (from.0, from.1, stays_within _ gone from.0 o from.2)) c.clear-2.ensures.time in
    let all = joined g.D.Disk.moment g.D.Disk.left_since g.D.Disk.may_leave StaysUnmarked c.args.disk.now c.fill.new.disk c.clear-2.new.self stays_joins filled last in
    all
