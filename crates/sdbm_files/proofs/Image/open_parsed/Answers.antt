use Rattle.std.proofs.Common.{◌≡◌, ◌≢◌, ◌<◌, ◌%◌, ℕ, List, Option, None, length, sym, ap, ◌∙◌, subst}
use Rattle.sdbm_addr.specs.declared.KeyBytes.{KeyBytes}
use Rattle.sdbm_addr.specs.declared.PageSize.{PageSize}
use Rattle.sdbm_addr.specs.Directory.{Splits}
use Rattle.sdbm_addr.specs.Pairs.{Content, page_bytes}
use Rattle.sdbm_addr.specs.Files.{SpellsDatabase}
use Rattle.sdbm_page.specs.declared.PageFault.{PageFault}
use Rattle.sdbm_files.specs.Kept.{pairs_under, database_of}
use Rattle.sdbm_files.specs.Opened.{LeadTo, AreSpelled, IsMisplaced, SpellsNoDatabase}
use Rattle.sdbm_files.specs.declared.opening.OpenFault.TheVariants as faults
use Rattle.sdbm_files.specs.Reading.{PagRead, EndsAt, AreParsed}
use Rattle.sdbm_files.proofs.Keeping.{AreLow-parsed, IsKept-opened, SpellsDatabase-opened}
use Rattle.sdbm_files.proofs.OnlyDatabase.{SpellsDatabase-unique}
use Rattle.sdbm_files.proofs.Refusing.{no_database, of_dir, of_keys, all_spelled}
use Rattle.sdbm_files.proofs.Image.open_parsed.Given as given
use Rattle.sdbm_files.proofs.Image.open_parsed.Goals as goal

whole_of : (size : PageSize) (len b : ℕ) (pag : List ℕ) → length pag ≡ len → b ≡ page_bytes size → len % b ≡ 0 → length pag % page_bytes size ≡ 0
whole_of size len b pag long is none = ap (λ (k : ℕ). k % page_bytes size) long ∙ ap (λ (k : ℕ). len % k) (sym is) ∙ none

pub returns-in-Some-clause-none : goal.returns-in-Some-clause-none
returns-in-Some-clause-none g c =
    let a = c.pag.inside in
    let pag = a.told.bytes in
    let whole = whole_of a.size a.len c.bytes.result pag c.pag.invariant.long c.bytes.ensures c.if-pag-bytes-ne0.false in
    let bad = subst (EndsAt a.size pag (a.parsed.count)) c.in-Some.is c.pag.invariant.parsed.ends in
    subst (λ (r : PagRead). faults.Page c.in-Some.number c.in-Some.fault ≢ faults.NoMemory → SpellsNoDatabase c.args.kind r.size c.args.dir.now r.bytes) c.pag.view_is
    (no_database c.args.kind a.size c.args.dir.now pag (faults.Page c.in-Some.number c.in-Some.fault) (whole, bad))

pub returns-in-Err-clause-none : goal.returns-in-Err-clause-none
returns-in-Err-clause-none g c =
    let a = c.pag.inside in
    let pag = a.told.bytes in
    let entries = a.parsed.pages.entries in
    let count = a.parsed.count in
    let whole = whole_of a.size a.len c.bytes.result pag c.pag.invariant.long c.bytes.ensures c.if-pag-bytes-ne0.false in
    let are = subst (λ (bad : Option (ℕ × PageFault)). AreParsed a.size entries count bad pag) c.in_default.is c.pag.invariant.parsed in
    subst (λ (r : PagRead). c.in-Err.fault ≢ faults.NoMemory → SpellsNoDatabase c.args.kind r.size c.args.dir.now r.bytes) c.pag.view_is
    (no_database c.args.kind a.size c.args.dir.now pag c.in-Err.fault (of_dir c.args.kind a.size c.args.dir.now pag c.in-Err.fault (all_spelled a.size pag entries count whole are) c.in-Err.ensures.fault))

-- a key leads to another page
misled : (g : given.Over) (c : goal.After-drop-splits-inside g) → AreSpelled c.pag.inside.size c.pag.inside.told.bytes × IsMisplaced c.args.kind c.pag.inside.size c.args.dir.now c.pag.inside.told.bytes c.in-Some-misplaced.number
misled g c =
    let a = c.pag.inside in
    let pag = a.told.bytes in
    let entries = a.parsed.pages.entries in
    let count = a.parsed.count in
    let whole = whole_of a.size a.len c.bytes.result pag c.pag.invariant.long c.bytes.ensures c.if-pag-bytes-ne0.false in
    let are = subst (λ (bad : Option (ℕ × PageFault)). AreParsed a.size entries count bad pag) c.in_default.is c.pag.invariant.parsed in
    of_keys c.args.kind a.size c.args.dir.now pag c.in-Ok.splits.splits entries count c.in-Some-misplaced.number c.in-Ok.ensures.dir whole are
    c.in-Some-misplaced.ensures.some

pub returns-in-Some-misplaced-clause-fault : goal.returns-in-Some-misplaced-clause-fault
returns-in-Some-misplaced-clause-fault g c =
    subst (λ (r : PagRead). AreSpelled r.size r.bytes × IsMisplaced c.args.kind r.size c.args.dir.now r.bytes c.in-Some-misplaced.number) c.pag.view_is (misled g c)

pub returns-in-Some-misplaced-clause-none : goal.returns-in-Some-misplaced-clause-none
returns-in-Some-misplaced-clause-none g c =
    subst (λ (r : PagRead). faults.Misplaced c.in-Some-misplaced.number ≢ faults.NoMemory → SpellsNoDatabase c.args.kind r.size c.args.dir.now r.bytes) c.pag.view_is
    (no_database c.args.kind c.pag.inside.size c.args.dir.now c.pag.inside.told.bytes (faults.Misplaced c.in-Some-misplaced.number) (misled g c))

-- all pages are parsed, and all keys lead to their pages
record Sound (kind : KeyBytes) (size : PageSize) (d : Splits) (entries : List (ℕ × Content)) (count : ℕ) (pag : List ℕ) : Type 0 where
  whole : length pag % page_bytes size ≡ 0
  are : AreParsed size entries count None pag
  lead : (n : ℕ) → n < count → LeadTo kind d n (pairs_under entries n)

sound : (kind : KeyBytes) (size : PageSize) (d : Splits) (entries : List (ℕ × Content)) (count : ℕ) (bad : Option (ℕ × PageFault)) (pag : List ℕ) (len b : ℕ)
    → length pag ≡ len → AreParsed size entries count bad pag → b ≡ page_bytes size → len % b ≡ 0 → bad ≡ None → ((n : ℕ) → n < count → LeadTo kind d n (pairs_under entries n))
    → Sound kind size d entries count pag
sound kind size d entries count bad pag len b long are b_is none no_bad lead = record {
  whole = whole_of size len b pag long b_is none;
  are = subst (λ (f : Option (ℕ × PageFault)). AreParsed size entries count f pag) no_bad are;
  lead = lead;
}

pub copy_pages-requires : goal.copy_pages-requires
copy_pages-requires g c =
    let a = c.pag.inside in
    let s = sound c.args.kind a.size c.in-Ok.splits.splits a.parsed.pages.entries a.parsed.count a.parsed.bad a.told.bytes a.len c.bytes.result
    c.pag.invariant.long c.pag.invariant.parsed c.bytes.ensures c.if-pag-bytes-ne0.false c.in_default.is c.in_default-misplaced.ensures.none in
    AreLow-parsed c.args.kind a.size c.args.dir.now a.told.bytes c.in-Ok.splits.splits a.parsed.pages.entries a.parsed.count c.in-Ok.ensures.dir s.are s.lead

pub invariant_of-result : goal.invariant_of-result
invariant_of-result g c =
    let a = c.pag.inside in
    let s = sound c.args.kind a.size c.in-Ok.splits.splits a.parsed.pages.entries a.parsed.count a.parsed.bad a.told.bytes a.len c.bytes.result
    c.pag.invariant.long c.pag.invariant.parsed c.bytes.ensures c.if-pag-bytes-ne0.false c.in_default.is c.in_default-misplaced.ensures.none in
    IsKept-opened c.args.kind a.size c.args.dir.now a.told.bytes c.in-Ok.splits.splits a.parsed.pages.entries a.parsed.count c.in-Ok.ensures.dir s.are s.lead
    c.in-Ok-copy_pages.pages.entries c.in-Ok-copy_pages.ensures.pages (c.in-Ok-copy_pages.ensures.sizes a.size c.pag.invariant.parsed.sizes)

pub returns-clause-database : goal.returns-clause-database
returns-clause-database g c =
    let a = c.pag.inside in
    let s = sound c.args.kind a.size c.in-Ok.splits.splits a.parsed.pages.entries a.parsed.count a.parsed.bad a.told.bytes a.len c.bytes.result
    c.pag.invariant.long c.pag.invariant.parsed c.bytes.ensures c.if-pag-bytes-ne0.false c.in_default.is c.in_default-misplaced.ensures.none in
    subst (SpellsDatabase (database_of c.args.kind a.size c.in-Ok.splits.splits c.in-Ok-copy_pages.pages.entries) c.args.dir.now) (ap (λ (r : PagRead). r.bytes) c.pag.view_is)
    (SpellsDatabase-opened c.args.kind a.size c.args.dir.now a.told.bytes c.in-Ok.splits.splits a.parsed.pages.entries a.parsed.count c.in-Ok.ensures.dir s.are s.lead
    c.in-Ok-copy_pages.pages.entries c.in-Ok-copy_pages.ensures.pages s.whole)

pub returns-clause-only : goal.returns-clause-only
returns-clause-only g c = λ db kinds sizes spelled.
    SpellsDatabase-unique db _ c.args.dir.now c.args.pag.now.bytes kinds (sizes ∙ sym (ap (λ (r : PagRead). r.size) c.pag.view_is)) spelled (returns-clause-database g c)
