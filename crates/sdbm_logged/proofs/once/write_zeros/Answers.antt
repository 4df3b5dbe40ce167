use Rattle.std.proofs.Common.{◌≡◌, ◌+◌, ◌≤◌, length, get_or, sym, ◌∙◌, ap, arith, OnOk}
use Rattle.std.specs.Prelude.{Result, Ok, Err}
use Rattle.sdbm_saves.specs.Disk.{Image, Through, written}
use Rattle.sdbm_saves.specs.Redo.{files, StaysUnmarked}
use Rattle.sdbm_saves.proofs.Lists.{length-resized, read_resized, written_before}
use Rattle.sdbm_saves.proofs.Marks.{stays_self, stays_joins}
use Rattle.sdbm_saves.proofs.Moments.{one_call, joined}
use Rattle.sdbm_log.proofs.Header.{stays_behind, stays_resized}
use Rattle.sdbm_logged.proofs.Rest.{stays_rests, stays_moments}
use Rattle.sdbm_logged.proofs.once.write_zeros.Goals as goal

map_ok : {T E : Type 0} (r : Result T E) (P Q : Type 0) → (P → Q) → OnOk r P → OnOk r Q
map_ok (Ok x) P Q f h = f h
map_ok (Err x) P Q f h = tt

pub returns-clause-rest : goal.returns-clause-rest
returns-clause-rest g c =
    let first : Through g.D.Disk.moment g.D.Disk.left_since g.D.Disk.may_leave StaysUnmarked c.args.disk.now c.resize.new.self =
    one_call g.D.Disk.moment g.D.Disk.left_since g.D.Disk.may_leave g.met.D.Disk.only_now StaysUnmarked c.args.disk.now c.resize.new.self stays_self
    (λ o now. let from = c.resize.ensures.crash o now in (from.0, from.1, stays_resized (4096 + c.args.room) (omega arith) from.0 o from.2)) c.resize.ensures.time in
    let next : Through g.D.Disk.moment g.D.Disk.left_since g.D.Disk.may_leave StaysUnmarked c.resize.new.self c.write_at.new.self =
    one_call g.D.Disk.moment g.D.Disk.left_since g.D.Disk.may_leave g.met.D.Disk.only_now StaysUnmarked c.resize.new.self c.write_at.new.self stays_self
    (λ o now. let from = c.write_at.ensures.crash o now in (from.0, from.1, stays_behind c.args.zeros.now from.0 o from.2)) c.write_at.ensures.time in
    let all = joined g.D.Disk.moment g.D.Disk.left_since g.D.Disk.may_leave StaysUnmarked c.args.disk.now c.resize.new.self c.write_at.new.self stays_joins first next in
    let old : Image = g.D.Disk.seen c.args.disk.now in
    let mid : Image = g.D.Disk.seen c.resize.new.self in
    let is = c.in_ok-resize.ensures.resized in
    let long : 4096 ≤ length mid.redo = omega (arith, ap (λ (o : Image). length o.redo) is, length-resized (4096 + c.args.room) old.redo) in
    let first_byte : get_or (written 4096 c.args.zeros.now mid.redo) 0 0 ≡ get_or old.redo 0 0 =
    written_before 4096 c.args.zeros.now mid.redo 0 long (omega arith)
    ∙ ap (λ (o : Image). get_or o.redo 0 0) is
    ∙ read_resized (4096 + c.args.room) old.redo 0 (omega arith) in
    map_ok c.write_at.result _ _
    (λ wrote. stays_rests old (g.D.Disk.seen c.write_at.new.self) (g.D.Disk.may_leave c.args.disk.now) (g.D.Disk.may_leave c.write_at.new.self) c.requires.rest
    (ap (λ (o : Image). files o) wrote ∙ ap (λ (o : Image). files o) is)
    (λ marked. c.requires.rest.unmarked (sym first_byte ∙ sym (ap (λ (o : Image). get_or o.redo 0 0) wrote) ∙ marked))
    all.crash)
    c.write_at.ensures.written

pub returns-clause-any_moment : goal.returns-clause-any_moment
returns-clause-any_moment g c =
    let first : Through g.D.Disk.moment g.D.Disk.left_since g.D.Disk.may_leave StaysUnmarked c.args.disk.now c.resize.new.self =
    one_call g.D.Disk.moment g.D.Disk.left_since g.D.Disk.may_leave g.met.D.Disk.only_now StaysUnmarked c.args.disk.now c.resize.new.self stays_self
    (λ o now. let from = c.resize.ensures.crash o now in (from.0, from.1, stays_resized (4096 + c.args.room) (omega arith) from.0 o from.2)) c.resize.ensures.time in
    let next : Through g.D.Disk.moment g.D.Disk.left_since g.D.Disk.may_leave StaysUnmarked c.resize.new.self c.write_at.new.self =
    one_call g.D.Disk.moment g.D.Disk.left_since g.D.Disk.may_leave g.met.D.Disk.only_now StaysUnmarked c.resize.new.self c.write_at.new.self stays_self
    (λ o now. let from = c.write_at.ensures.crash o now in (from.0, from.1, stays_behind c.args.zeros.now from.0 o from.2)) c.write_at.ensures.time in
    stays_moments g.D.Disk.moment g.D.Disk.left_since g.D.Disk.may_leave (g.D.Disk.seen c.args.disk.now) c.args.disk.now c.write_at.new.self c.requires.rest
    (joined g.D.Disk.moment g.D.Disk.left_since g.D.Disk.may_leave StaysUnmarked c.args.disk.now c.resize.new.self c.write_at.new.self stays_joins first next)
