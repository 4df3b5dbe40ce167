use Rattle.std.proofs.Common.{List, ℕ}
use Rattle.std.specs.Io.KnownBytes.{Appends}
use Rattle.sdbm_addr.specs.Database.{Database}
use Rattle.byte_text.specs.Writing.{WritesPart}
use Rattle.dbm_script.specs.Script.{IsScriptRun}
use Rattle.dbm_script.proofs.Runs.{known_read}
use Rattle.dbm_script.proofs.script.run_script.Goals as goal

pub returns-in_err-write_all-clause-part : goal.returns-in_err-write_all-clause-part
returns-in_err-write_all-clause-part g c = λ _.
    known_read _ c.as_slice.result.now
    (λ input. (x : List ℕ) × ((after : Database) × (IsScriptRun g.row.A.Denot c.args.notation.now c.args.image input x after × WritesPart (g.W.Write.contents c.args.writer.now) (g.W.Write.contents c.write_all.new.writer) x)))
    (rw c.as_slice.ensures.value c.in_ok-input.ensures.all)
    (c.as_slice-2.result.now, (c.in-Ok.after, (rw c.as_slice-2.ensures.value c.in-Ok.ensures.runs, c.in_err-write_all.ensures.part)))

pub returns-clause-ok : goal.returns-clause-ok
returns-clause-ok g c =
    known_read _ c.as_slice.result.now
    (λ input. (x : List ℕ) × (IsScriptRun g.row.A.Denot c.args.notation.now c.args.image input x c.in-Ok.after × Appends (g.W.Write.contents c.args.writer.now) (g.W.Write.contents c.write_all.new.writer) x))
    (rw c.as_slice.ensures.value c.in_ok-input.ensures.all)
    (c.as_slice-2.result.now, (rw c.as_slice-2.ensures.value c.in-Ok.ensures.runs, c.in_ok-write_all.ensures.ok))
