use Rattle.std.proofs.Common.{List, ℕ, Option, Result, Ok, Err, ◌≡◌, ◌≢◌, IfOk, IfErr, refl, subst}
use Rattle.sdbm_addr.specs.declared.PageSize.{PageSize}
use Rattle.sdbm_addr.specs.Pairs.{Content}
use Rattle.std.proofs.lemmas.Bool.{false≢true}
use Rattle.sdbm_page.specs.Faults.{IsPageFault}
use Rattle.sdbm_page.specs.declared.PageFault.{PageFault}
use Rattle.sdbm_page.specs.declared.PageFault.TheVariants.{NoMemory}
use Rattle.sdbm_files.specs.Opened.{IsRead}
use Rattle.sdbm_files.proofs.OnePage.{IsKept-one, Spells-there, pairs_elsewhere, IsDatabase-one, none_of_dir, none_of_page, none_of_keys}
use Rattle.sdbm_files.proofs.Image.reopen_page.Goals as goal

read_is : (size : PageSize) (bytes : List ℕ) (read : Result (Option Content) PageFault) (page : Option Content) → read ≡ Ok page → IfOk read (IsRead size bytes) → IsRead size bytes page
read_is size bytes read page is of = subst (λ (r : Result (Option Content) PageFault). IfOk r (IsRead size bytes)) is of

fault_is : (size : PageSize) (bytes : List ℕ) (read : Result (Option Content) PageFault) (fault : PageFault) → read ≡ Err fault → IfErr read (λ f. IsPageFault size bytes f × (f ≢ NoMemory))
    → IsPageFault size bytes fault × (fault ≢ NoMemory)
fault_is size bytes read fault is of = subst (λ (r : Result (Option Content) PageFault). IfErr r (λ f. IsPageFault size bytes f × (f ≢ NoMemory))) is of

pub returns-in-Err-Dir-clause-none : goal.returns-in-Err-Dir-clause-none
returns-in-Err-Dir-clause-none g c =
    rw (← c.self.view_is) (none_of_dir c.self.inside.kind c.self.inside.size c.args.dir.now c.args.page.now c.args.number c.in-Err-Dir.field-0 c.in-Err-Dir.field-0-0 c.in-Err-Dir.field-0-is c.in-Err-Dir.ensures.fault)

pub returns-in_default-clause-none : goal.returns-in_default-clause-none
returns-in_default-clause-none g c =
    rw (← c.self.view_is) (none_of_page c.self.inside.kind c.self.inside.size c.args.dir.now c.args.page.now c.args.number c.in_default.field-0
    (fault_is c.self.inside.size c.args.page.now c.in_ok-read.field-0 c.in_default.field-0 c.in_default.is c.in_ok-read.ensures.fault))

pub returns-then-not-leads_there-clause-none : goal.returns-then-not-leads_there-clause-none
returns-then-not-leads_there-clause-none g c =
    let read = read_is c.self.inside.size c.args.page.now c.in_ok-read.field-0 c.in-Ok-2.read c.in-Ok-2.is c.in_ok-read.ensures.page in
    rw (← c.self.view_is) (none_of_keys c.self.inside.kind c.self.inside.size c.args.dir.now c.args.page.now c.in-Ok.splits.splits c.args.number c.in-Ok-2.read c.in-Ok.ensures.dir read
    (λ lead. false≢true (c.if-not-leads_there.ensures.1 lead)))

pub invariant_of-result : goal.invariant_of-result
invariant_of-result g c =
    let read = read_is c.self.inside.size c.args.page.now c.in_ok-read.field-0 c.in-Ok-2.read c.in-Ok-2.is c.in_ok-read.ensures.page in
    IsKept-one c.self.inside.kind c.self.inside.size c.args.dir.now c.args.page.now c.in-Ok.splits.splits c.args.number c.in-Ok-2.read c.in_ok-pages.pages.entries
    c.in-Ok.ensures.dir read (c.if-not-leads_there.ensures.0 refl) c.in_ok-pages.ensures.pages (c.in_ok-pages.ensures.sizes c.self.inside.size read.sized)

pub returns-clause-page : goal.returns-clause-page
returns-clause-page g c =
    let read = read_is c.self.inside.size c.args.page.now c.in_ok-read.field-0 c.in-Ok-2.read c.in-Ok-2.is c.in_ok-read.ensures.page in
    rw (← c.self.view_is) (Spells-there c.self.inside.kind c.self.inside.size c.args.dir.now c.args.page.now c.in-Ok.splits.splits c.args.number c.in-Ok-2.read c.in_ok-pages.pages.entries
    c.in-Ok.ensures.dir read (c.if-not-leads_there.ensures.0 refl) c.in_ok-pages.ensures.pages)

pub returns-clause-others : goal.returns-clause-others
returns-clause-others g c =
    let read = read_is c.self.inside.size c.args.page.now c.in_ok-read.field-0 c.in-Ok-2.read c.in-Ok-2.is c.in_ok-read.ensures.page in
    pairs_elsewhere c.self.inside.kind c.self.inside.size c.args.dir.now c.args.page.now c.in-Ok.splits.splits c.args.number c.in-Ok-2.read c.in_ok-pages.pages.entries
    c.in-Ok.ensures.dir read (c.if-not-leads_there.ensures.0 refl) c.in_ok-pages.ensures.pages

pub returns-clause-database : goal.returns-clause-database
returns-clause-database g c =
    let read = read_is c.self.inside.size c.args.page.now c.in_ok-read.field-0 c.in-Ok-2.read c.in-Ok-2.is c.in_ok-read.ensures.page in
    IsDatabase-one c.self.inside.kind c.self.inside.size c.args.dir.now c.args.page.now c.in-Ok.splits.splits c.args.number c.in-Ok-2.read c.in_ok-pages.pages.entries
    c.in-Ok.ensures.dir read (c.if-not-leads_there.ensures.0 refl) c.in_ok-pages.ensures.pages
