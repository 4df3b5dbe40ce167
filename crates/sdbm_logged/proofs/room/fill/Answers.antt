use Rattle.std.proofs.Common.{◌≡◌, ◌⊎◌, inl, ℕ, zero, suc, ◌+◌, ◌*◌, ◌<◌, ◌≤◌, List, [], ◌∷◌, length, get_or, refl, ◌∙◌, ap, arith}
use Rattle.sdbm_saves.specs.Disk.{Image, Torn, put, written}
use Rattle.sdbm_saves.specs.declared.disk.DiskFile.TheVariants.{Redo}
use Rattle.sdbm_saves.specs.Redo.{files, StaysUnmarked}
use Rattle.sdbm_saves.proofs.Lists.{length-written}
use Rattle.sdbm_saves.proofs.Moments.{nothing_yet, one_call, joined}
use Rattle.sdbm_saves.proofs.Marks.{stays_self, stays_joins, stays_within}
use Rattle.sdbm_logged.proofs.room.fill.Goals as goal

-- writing a zero does not make the commit byte 1
zeroed : (at : ℕ) (x y : List ℕ) → Torn at (0 ∷ []) x y → (get_or y 0 0 ≡ get_or x 0 0) ⊎ (get_or y 0 0 ≡ 0)
zeroed zero x y torn = torn.within 0 (omega arith)
zeroed (suc n) x y torn = inl (torn.before 0 (omega arith))

inside : (index blocks n : ℕ) → index < blocks → n ≡ blocks * 4096 → index * 4096 + 1 ≤ n
inside index blocks n lt is = omega (arith, lt, is)

pub loop-index-init : goal.loop-index-init
loop-index-init g c = record {
  long = c.requires.long;
  same = refl;
  so_far = nothing_yet g.D.Disk.moment g.D.Disk.left_since g.D.Disk.may_leave g.met.D.Disk.only_now StaysUnmarked c.args.disk.now stays_self;
  failed = λ was. was;
}

pub returns-in_err-write_at-clause-any_moment : goal.returns-in_err-write_at-clause-any_moment
returns-in_err-write_at-clause-any_moment g c =
    joined g.D.Disk.moment g.D.Disk.left_since g.D.Disk.may_leave StaysUnmarked c.args.disk.now c.loop-index.disk c.write_at.new.self stays_joins c.loop-index.invariant.so_far
    (one_call g.D.Disk.moment g.D.Disk.left_since g.D.Disk.may_leave g.met.D.Disk.only_now StaysUnmarked c.loop-index.disk c.write_at.new.self stays_self
    (λ o now. let from = c.write_at.ensures.crash o now in (from.0, from.1, stays_within _ (zeroed (c.loop-index.index * 4096)) from.0 o from.2)) c.write_at.ensures.time)

pub loop-index-preserved : goal.loop-index-preserved
loop-index-preserved g c =
    let at = c.loop-index.index * 4096 in
    let old = g.D.Disk.seen c.loop-index.disk in
    let room : at + 1 ≤ length old.redo = inside c.loop-index.index c.args.blocks (length old.redo) (omega (arith, c.loop-index-test.true)) c.loop-index.invariant.long in
    let is : g.D.Disk.seen c.write_at.new.self ≡ put Redo (written at (0 ∷ []) old.redo) old = c.in_ok-write_at.ensures.written in
    record {
      long = ap (λ (o : Image). length o.redo) is ∙ length-written at (0 ∷ []) old.redo room ∙ c.loop-index.invariant.long;
      same = ap (λ (o : Image). files o) is ∙ c.loop-index.invariant.same;
      so_far = joined g.D.Disk.moment g.D.Disk.left_since g.D.Disk.may_leave StaysUnmarked c.args.disk.now c.loop-index.disk c.write_at.new.self stays_joins c.loop-index.invariant.so_far
          (one_call g.D.Disk.moment g.D.Disk.left_since g.D.Disk.may_leave g.met.D.Disk.only_now StaysUnmarked c.loop-index.disk c.write_at.new.self stays_self
          (λ o now. let from = c.write_at.ensures.crash o now in (from.0, from.1, stays_within _ (zeroed at) from.0 o from.2)) c.write_at.ensures.time);
      failed = λ was. c.write_at.ensures.cause.stays (c.loop-index.invariant.failed was);
    }
