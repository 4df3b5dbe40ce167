use Rattle.std.proofs.Common.{◌+◌, ◌++◌, ℕ, Option, unwrap_or, sym, ap, ◌∙◌, subst}
use Rattle.sdbm_page.specs.declared.PageFault.{PageFault}
use Rattle.sdbm_files.specs.Reading.{AreTaken, bytes_in, raw_under}
use Rattle.sdbm_files.proofs.Parsing.{taken_more, taken_same, put_behind}
use Rattle.sdbm_files.proofs.SinkLemmas.{on_err}
use Rattle.sdbm_files.proofs.parsed.Parsed.keep.Goals as goal

pub returns-clause-ok : goal.returns-clause-ok
returns-clause-ok g c = λ pag all are.
    let size = c.args.size in
    let old = c.args.self.now in
    let entries = c.insert_page.new.pages.entries in
    let more = raw_under c.put_bytes.new.raw.entries in
    let number = c.args.number in
    let kept = bytes_in c.in_ok-copy.copy in
    let is = ap (unwrap_or kept) (sym c.own_bytes.ensures) ∙ c.in_ok-copy.ensures.copy in
    let has = put_behind (raw_under old.raw.entries) (raw_under c.copy_foreign.new.raw.entries) more number kept c.in_ok-copy.ensures.same c.put_bytes.ensures in
    subst (λ (bad : Option (ℕ × PageFault)). AreTaken size entries more (number + 1) bad (number + 1) (pag ++ c.args.bytes.now)) (sym c.requires.sound)
    (taken_more size old.pages.entries entries (raw_under old.raw.entries) more old.count number c.args.page kept c.args.bytes.now c.requires.long c.requires.read c.in_ok-insert_page.ensures.ok has is pag all
    (subst (λ (bad : Option (ℕ × PageFault)). AreTaken size old.pages.entries (raw_under old.raw.entries) old.count bad number pag) c.requires.sound are))

pub returns-in_err-insert_page-clause-err : goal.returns-in_err-insert_page-clause-err
returns-in_err-insert_page-clause-err g c =
    let old = c.args.self.now in
    on_err _ c.from_residual-in_err-insert_page.result
    (λ pag are. taken_same c.args.size old.pages.entries c.insert_page.new.pages.entries (raw_under old.raw.entries) (raw_under c.copy_foreign.new.raw.entries) old.count old.bad c.args.number pag c.in_err-insert_page.ensures.err
    c.in_ok-copy.ensures.same are)
