-- The files of a database from which another one differs on some pages.
use Rattle.std.proofs.Common.{◌≡◌, ℕ, ◌+◌, ◌-◌, ◌*◌, ◌<◌, ◌≤◌, List, ◌++◌, length, take, drop, min, replicate, get_or, Option, Some, None, IfSome, inl, inr, refl, sym, ap, ◌∙◌, subst, arith, length-append, length-drop, length-take, length-take-le}
use Rattle.std.proofs.lemmas.Bool.{cases_lt}
use Rattle.std.proofs.lemmas.List.{get_or-take, get_or-drop, get_or_append_left, get_or-append_right, get_or_past, get_or-replicate, length-replicate}
use Rattle.sdbm_addr.specs.declared.PageSize.{PageSize}
use Rattle.sdbm_addr.specs.Pairs.{Pair, page_bytes}
use Rattle.sdbm_addr.specs.Layout.{bytes_of_page}
use Rattle.sdbm_addr.specs.Database.{Database, pairs_at}
use Rattle.sdbm_saves.specs.Saves.{AreFilesFor}
use Rattle.sdbm_saves.specs.Parts.{ReadsPage, ReadPages, IsMarkedIn}
use Rattle.sdbm_saves.specs.declared.marked.Marked.{Marked}
use Rattle.store_parts.proofs.PartOf.{own_reads}
use Rattle.store_marks.specs.Marks.{DifferOn}

pub marked_in : (old : Marked) (base db : Database) (pag dir : List ℕ) → AreFilesFor base pag dir → DifferOn old.numbers.now base db → length pag ≡ old.len → ReadPages db.size old.numbers.now old.pages.now pag → IsMarkedIn old db pag
marked_in old base db pag dir files differ long reads = record {
  long = long;
  reads = reads;
  rest = λ n none. subst (λ (z : PageSize). ReadsPage z pag n (bytes_of_page z (pairs_at db n))) (sym differ.size)
      (subst (λ (ps : List Pair). ReadsPage base.size pag n (bytes_of_page base.size ps)) (sym (differ.rest n none)) (own_reads base files.spelled.database pag files.written.pages n));
}

-- a page at the end of a list, with zeros for the bytes past the end of the file
module _ (old pag mid new : List ℕ) (at size k m whole : ℕ) (k_is : k ≡ min at (length pag)) (m_is : m ≡ min (length pag - k) size) (whole_is : whole ≡ length old + size)
    (mid_is : mid ≡ old ++ take m (drop k pag)) (new_is : new ≡ take whole mid ++ replicate (whole - length mid) 0) where
  rest_long : length (drop k pag) ≡ length pag - k
  rest_long = length-drop k pag

  part_long : length (take m (drop k pag)) ≡ m
  part_long = length-take-le m (drop k pag) (omega (arith, m_is, rest_long))

  mid_long : length mid ≡ length old + m
  mid_long = ap (λ (l : List ℕ). length l) mid_is ∙ (length-append old (take m (drop k pag)) ∙ ap (λ (n : ℕ). length old + n) part_long)

  first_long : length (take whole mid) ≡ length old + m
  first_long = length-take whole mid ∙ omega (arith, mid_long, whole_is, m_is)

  pub padded_page : (i : ℕ) → i < size → get_or new (length old + i) 0 ≡ get_or pag (at + i) 0
  padded_page i below = ap (λ (l : List ℕ). get_or l (length old + i) 0) new_is ∙ elim (cases_lt i m) [
    | inl low ↦
        get_or_append_left (take whole mid) (replicate (whole - length mid) 0) 0 (length old + i) (omega (arith, low, first_long)) ∙ (get_or-take whole mid (length old + i) 0 (omega (arith, low, whole_is, m_is))
        ∙ (ap (λ (l : List ℕ). get_or l (length old + i) 0) mid_is ∙ (get_or-append_right old (take m (drop k pag)) (length old) (length old + i) 0 refl (omega arith)
        ∙ (ap (λ (n : ℕ). get_or (take m (drop k pag)) n 0) (omega arith) ∙ (get_or-take m (drop k pag) i 0 low ∙ (get_or-drop k pag i 0
        ∙ ap (λ (n : ℕ). get_or pag (n + i) 0) (omega (arith, low, m_is, rest_long, k_is))))))))
    | inr high ↦
        get_or-append_right (take whole mid) (replicate (whole - length mid) 0) (length old + m) (length old + i) 0 first_long (omega (arith, high))
        ∙ (get_or-replicate (whole - length mid) (length old + i - (length old + m)) 0 0 (omega (arith, high, below, mid_long, whole_is))
        ∙ sym (get_or_past pag (at + i) 0 (omega (arith, high, below, m_is, rest_long, k_is))))
  ]

pub some_weaker : {T : Type 0} (o : Option T) (P Q : T → Type 0) → ((x : T) → P x → Q x) → IfSome o P → IfSome o Q
some_weaker None P Q step is = tt
some_weaker (Some x) P Q step is = step x is
