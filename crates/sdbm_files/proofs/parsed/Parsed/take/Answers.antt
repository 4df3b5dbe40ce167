use Rattle.std.proofs.Common.{◌≡◌, ◌≢◌, ℕ, Option, Result, Err, IfErr, refl, sym, ◌∙◌, subst}
use Rattle.std.proofs.lemmas.Result.{on_ok_weaker, on_err_weaker}
use Rattle.sdbm_page.specs.Faults.{IsPageFault}
use Rattle.sdbm_page.specs.declared.PageFault.{PageFault}
use Rattle.sdbm_page.specs.declared.PageFault.TheVariants.{NoMemory}
use Rattle.sdbm_files.specs.Reading.{AreTaken, raw_under}
use Rattle.sdbm_files.proofs.Parsing.{taken_past, taken_bad, taken_same, sound_is}
use Rattle.sdbm_files.proofs.parsed.Parsed.take.Goals as goal

pub returns-then-is_some-clause-ok : goal.returns-then-is_some-clause-ok
returns-then-is_some-clause-ok g c =
    let old = c.args.self.now in
    on_ok_weaker c.keep_bytes.result
    (λ k pag all are.
    taken_past c.args.size old.pages.entries (raw_under old.raw.entries) (raw_under c.keep_bytes.new.raw.entries) old.count c.args.number k.0 c.args.bytes.now c.requires.long k.1.0 k.1.1 old.bad pag (sym c.is_some.ensures ∙ c.if-is_some.true)
    all are)
    c.keep_bytes.ensures.ok

pub returns-then-is_some-clause-err : goal.returns-then-is_some-clause-err
returns-then-is_some-clause-err g c =
    let old = c.args.self.now in
    on_err_weaker c.keep_bytes.result
    (λ same pag are. taken_same c.args.size old.pages.entries old.pages.entries (raw_under old.raw.entries) (raw_under c.keep_bytes.new.raw.entries) old.count old.bad c.args.number pag refl same are) c.keep_bytes.ensures.err

-- a property of the fault of a result
of_error : {T : Type 0} (P : PageFault → Type 0) (r : Result T PageFault) (fault : PageFault) → r ≡ Err fault → IfErr r P → P fault
of_error {T} P r fault is h = subst (λ (x : Result T PageFault). IfErr x P) is h

pub returns-in_ok-keep_bytes-in-Err-clause-ok : goal.returns-in_ok-keep_bytes-in-Err-clause-ok
returns-in_ok-keep_bytes-in-Err-clause-ok g c = λ pag all are.
    let size = c.args.size in
    let old = c.args.self.now in
    let fault = c.in-Err.fault in
    let why = of_error (λ (f : PageFault). IsPageFault size c.args.bytes.now f × (f ≢ NoMemory)) c.in_ok-page.field-0 fault c.in-Err.is c.in_ok-page.ensures.fault in
    let none = sound_is old.bad (sym c.is_some.ensures ∙ c.if-is_some.false) in
    let k = c.in_ok-keep_bytes-in-Err.ensures.ok in
    taken_bad size old.pages.entries (raw_under old.raw.entries) (raw_under c.keep_bytes-in-Err.new.raw.entries) old.count c.args.number k.0 c.args.bytes.now c.requires.long k.1.0 k.1.1 fault pag why.0 why.1 all
    (subst (λ (bad : Option (ℕ × PageFault)). AreTaken size old.pages.entries (raw_under old.raw.entries) old.count bad c.args.number pag) none are)
