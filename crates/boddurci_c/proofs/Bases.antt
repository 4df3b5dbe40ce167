-- An open database: its base, and the pages that differ from it.
use Rattle.std.proofs.Common.{◌≡◌, ◌<◌, ◌≤◌, ◌+◌, ◌*◌, ◌/◌, ℕ, List, [], length, get_or, Bool, true, false, inl, inr, refl, sym, ap, ◌∙◌, subst, arith}
use Rattle.std.specs.Prelude.{slice_get, IfOk, OnOk, OnErr, Option, Some}
use Rattle.std.specs.List.{Contains}
use Rattle.std.specs.declared.result.Result.{Result}
use Rattle.std.specs.declared.result.Result.TheVariants.{Ok, Err}
use Rattle.std.proofs.lemmas.Bool.{cases_lt}
use Rattle.std.proofs.lemmas.List.{get_or_past, get_or-replicate}
use Rattle.sdbm_addr.specs.declared.PageSize.{PageSize}
use Rattle.sdbm_addr.specs.declared.PageSize.TheVariants.{Small, Wide}
use Rattle.sdbm_addr.specs.Pairs.{Pair, page_bytes}
use Rattle.sdbm_addr.specs.Layout.{bytes_of_page}
use Rattle.sdbm_addr.specs.Database.{Database, pairs_at}
use Rattle.sdbm_addr.specs.Files.{SpellsDatabase, SpellsPages}
use Rattle.sdbm_files.proofs.WriteLemmas.{empty_page}
use Rattle.sdbm_saves.specs.Parts.{ReadsPage}
use Rattle.std.specs.declared.alloc.Global.{Global}
use Rattle.bpf_verify.specs.Verified.{Accepted}
use Rattle.store_cmd.specs.declared.Command.{Command}
use Rattle.store_cmd.specs.declared.Command.TheVariants.{Run}
use Rattle.store_cmd.specs.declared.Reply.{Reply}
use Rattle.boddurci_handles.specs.declared.status.Status.{Status}
use Rattle.boddurci_c.specs.Calls.{DoesCommand, RunsBy, ReadsUnmarked}
use Rattle.boddurci_handles.specs.declared.opened.Db.{Db}
use Rattle.store_marks.specs.Marks.{DifferOn, DifferOn-prop}

abbrev with : (d : Db) (image : Database) (marks : List ℕ) → DifferOn marks d.base.database image → Db
with d image marks differ = record { image = image; registry = d.registry; marks = marks; limit = d.limit; base = d.base; differ = differ }

-- a database with the parts of another is equal to it
pub same_db : (d : Db) (image : Database) (marks : List ℕ) (differ : DifferOn marks d.base.database image) → image ≡ d.image → marks ≡ d.marks
    → with d image marks differ ≡ d
same_db d image marks differ same_image same_marks =
    subst (λ (i : Database). (h : DifferOn marks d.base.database i) → with d i marks h ≡ d) (sym same_image)
    (subst (λ (m : List ℕ). (h : DifferOn m d.base.database d.image) → with d d.image m h ≡ d) (sym same_marks) (λ h. ap (λ (k : DifferOn d.marks d.base.database d.image). with d d.image d.marks k) (DifferOn-prop d.marks d.base.database d.image h d.differ)))
    differ

-- ---- commands that leave the database unchanged

pub does_again : (result : Result (Reply Global) Status) (command command' : Command Global) (d d1 d' : Db) → d1 ≡ d → command' ≡ command → IfOk result (λ reply. DoesCommand d1 command' reply d') → IfOk result (λ reply. DoesCommand d command reply d')
does_again result command command' d d1 d' same is does =
    subst (λ (x : Db). IfOk result (λ reply. DoesCommand x command reply d')) same (subst (λ (x : Command Global). IfOk result (λ reply. DoesCommand d1 x reply d')) is does)

pub runs_again : (result : Result (Reply Global) Status) (number : ℕ) (key arg : List ℕ) (blank : Option ℕ) (now : ℕ) (d d' : Db) (program : Accepted) → slice_get d.registry.programs number ≡ Some program
    → IfOk result (λ reply. DoesCommand d (Run key program.code arg blank now) reply d') → IfOk result (λ reply. RunsBy number key arg blank now reply d d')
runs_again (Ok reply) number key arg blank now d d' program there does = record { program = program; there = there; does = does }
runs_again (Err status) number key arg blank now d d' program there does = tt

-- ---- the bytes of an unmarked page in the opened file

counted : (size : PageSize) (count : ℕ) → count * page_bytes size / page_bytes size ≡ count
counted Small count = omega arith
counted Wide count = omega arith

read_past : (size : PageSize) (pag : List ℕ) (count n i : ℕ) → length pag ≡ count * page_bytes size → count ≤ n → i < page_bytes size → get_or pag (n * page_bytes size + i) 0 ≡ get_or (bytes_of_page size []) i 0
read_past Small pag count n i long past low =
    get_or_past pag (n * 1024 + i) 0 (omega (arith, long, past)) ∙ sym (ap (λ (l : List ℕ). get_or l i 0) (empty_page Small) ∙ get_or-replicate 1024 i 0 0 low)
read_past Wide pag count n i long past low =
    get_or_past pag (n * 8192 + i) 0 (omega (arith, long, past)) ∙ sym (ap (λ (l : List ℕ). get_or l i 0) (empty_page Wide) ∙ get_or-replicate 8192 i 0 0 low)

pub reads_opened : (image : Database) (dir pag marks : List ℕ) → SpellsDatabase image dir pag → ReadsUnmarked image pag marks → (n : ℕ) → (Contains marks n → ⊥) → ReadsPage image.size pag n (bytes_of_page image.size (pairs_at image n))
reads_opened image dir pag marks spells reads n none i low =
    let pages : SpellsPages image pag spells.count = spells.pages in
    elim (cases_lt n spells.count) [
      | inl inside ↦ reads n (subst (λ (k : ℕ). n < k) (sym (ap (λ (m : ℕ). m / page_bytes image.size) pages.long ∙ counted image.size spells.count)) inside) none i low
      | inr past ↦ read_past image.size pag spells.count n i pages.long (omega (arith, past)) low ∙ sym (ap (λ (ps : List Pair). get_or (bytes_of_page image.size ps) i 0) (pages.past n (omega (arith, past))))
    ]
