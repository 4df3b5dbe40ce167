-- Unmarked pages are unchanged.
use Rattle.std.proofs.Common.{◌≡◌, ◌≢◌, ℕ, suc, ◌<◌, List, [], ◌∷◌, ◌++◌, length, get_or, Bool, true, false, cond, Option, Some, None, IfSome, IfNone, Result, Ok, Err, OnOk, OnErr, unwrap_or, inl, inr, refl, sym, ap, ◌∙◌, subst, arith, eqb, append_assoc}
use Rattle.std.proofs.lemmas.Bool.{eqb-true}
use Rattle.std.proofs.lemmas.List.{append-nil, get_or_default}
use Rattle.std.proofs.lemmas.List.Elements.{Contains-append_left}
use Rattle.std.specs.List.{All, Contains}
use Rattle.std.specs.Ordering.{nat_cmp}
use Rattle.std.specs.FinMap as map
use Rattle.std.specs.FinMap.{FinMap}
use Rattle.sdbm_addr.specs.Pairs.{Pair, Content}
use Rattle.sdbm_addr.specs.Database.{Database, IsDatabase, pairs_at, put_page}
use Rattle.sdbm_dir.specs.declared.Place.{Place}
use Rattle.sdbm_split.specs.Planned.{PageChange}
use Rattle.sdbm_files.specs.Installed.{put_all}
use Rattle.sdbm_files.proofs.PutLemmas.{pairs-put_page}
use Rattle.store_cmd.specs.declared.Entry.{Entry}
use Rattle.store_moves.specs.Acts.{Acts}
use Rattle.store_moves.specs.Leads.{IsPlaceOf, FillsNone, changed_by}
use Rattle.store_moves.specs.Works.{key_of, HasKey}
use Rattle.store_moves.proofs.Parts.{IsAlikeAt, acts_alike, pairs_beside}
use Rattle.store_marks.specs.Marks.{HasMoreMarks, DifferOn, CoversChange}

pub still : (old new : List ℕ) → HasMoreMarks old new → (n : ℕ) → Contains old n → Contains new n
still old new more n there = subst (λ (l : List ℕ). Contains l n) (sym more.is) (Contains-append_left old more.more n there)

pub no_more : (marks : List ℕ) → HasMoreMarks marks marks
no_more marks = record { more = []; is = sym (append-nil marks) }

pub more_still : (old mid new : List ℕ) → HasMoreMarks old mid → HasMoreMarks mid new → HasMoreMarks old new
more_still old mid new first second = record { more = first.more ++ second.more; is = second.is ∙ (ap (λ (l : List ℕ). l ++ second.more) first.is ∙ append_assoc old first.more second.more) }

bare_before : (old more : List ℕ) → old ++ more ≡ [] → old ≡ []
bare_before [] more is = refl
bare_before (n ∷ old) more is = cc

nothing_in : (marks : List ℕ) (n : ℕ) → marks ≡ [] → Contains marks n → ⊥
nothing_in marks n bare there = let in_none : Contains [] n = subst (λ (l : List ℕ). Contains l n) bare there in omega (arith, in_none.1)

-- more pages may be marked
pub differ_more : (base db : Database) (old new : List ℕ) → HasMoreMarks old new → DifferOn old base db → DifferOn new base db
differ_more base db old new more differ = record {
  kind = differ.kind;
  size = differ.size;
  rest = λ n none. differ.rest n (λ there. none (still old new more n there));
  none = λ bare. differ.none (bare_before old more.more (sym more.is ∙ bare));
}

-- if each number of a list is marked, every member of it is marked
pub each_there : (numbers marks : List ℕ) → ((k : ℕ) → k < length numbers → Contains marks (get_or numbers k 0)) → (n : ℕ) → Contains numbers n → Contains marks n
each_there numbers marks each n there = subst (λ (m : ℕ). Contains marks m) (get_or_default numbers there.0 0 n there.1 ∙ there.2) (each there.0 there.1)

-- the pairs of a page that no twin replaces
twins_kept : (pages : FinMap nat_cmp (List Pair)) (es : List (ℕ × Content)) (n : ℕ) (old : List Pair) → unwrap_or (map.get pages n) [] ≡ old → All (λ (e : ℕ × Content). e.0 ≡ n → e.1.pairs ≡ old) es
    → unwrap_or (map.get (put_all pages es) n) [] ≡ old
twins_kept pages [] n old is all = is
twins_kept pages (e ∷ es) n old is all =
    twins_kept (put_page pages e.0 e.1.pairs) es n old (pairs-put_page pages e.0 e.1.pairs n ∙ at (eqb n e.0) refl) (λ k d low. all (suc k) d (omega (arith, low)))
  where
    at : (b : Bool) → eqb n e.0 ≡ b → cond b e.1.pairs (unwrap_or (map.get pages n) []) ≡ old
    at true t = all 0 e (omega arith) (sym (eqb-true n e.0 t))
    at false t = is

-- a page without a mark has the same pairs after a change
pub page_kept : (db : Database) (number : ℕ) (change : Option PageChange) (marks : List ℕ) → CoversChange db number change marks → (n : ℕ) → (Contains marks n → ⊥) → pairs_at (changed_by db number change) n ≡ pairs_at db n
page_kept db number None marks covers n none = refl
page_kept db number (Some change) marks covers n none =
    twins_kept (put_page db.pages number change.leaf.pairs) change.twins n (pairs_at db n) (pairs-put_page db.pages number change.leaf.pairs n ∙ at (eqb n number) refl) (λ k d low is. elim (covers.1 k d low) [
      | inl there ↦ absurd (none (subst (λ (m : ℕ). Contains marks m) is there))
      | inr same ↦ same ∙ ap (pairs_at db) is
    ])
  where
    at : (b : Bool) → eqb n number ≡ b → cond b change.leaf.pairs (pairs_at db n) ≡ pairs_at db n
    at true t = absurd (none (subst (λ (m : ℕ). Contains marks m) (sym (eqb-true n number t)) covers.0))
    at false t = refl

kind_kept : (db : Database) (number : ℕ) (change : Option PageChange) → (changed_by db number change).kind ≡ db.kind
kind_kept db number None = refl
kind_kept db number (Some change) = refl

size_kept : (db : Database) (number : ℕ) (change : Option PageChange) → (changed_by db number change).size ≡ db.size
size_kept db number None = refl
size_kept db number (Some change) = refl

unchanged : (db : Database) (number : ℕ) (change : Option PageChange) (marks : List ℕ) → CoversChange db number change marks → marks ≡ [] → changed_by db number change ≡ db
unchanged db number None marks covers bare = refl
unchanged db number (Some change) marks covers bare = absurd (nothing_in marks number bare covers.0)

module _ (db db' : Database) (old new : List ℕ) (more : HasMoreMarks old new) where
  -- the pages put in are marked
  pub differ_put : (number : ℕ) (change : Option PageChange) → db' ≡ changed_by db number change → CoversChange db number change new → (base : Database) → DifferOn old base db → DifferOn new base db'
  differ_put number change is covers base differ = record {
    kind = ap (λ (d : Database). d.kind) is ∙ (kind_kept db number change ∙ differ.kind);
    size = ap (λ (d : Database). d.size) is ∙ (size_kept db number change ∙ differ.size);
    rest = λ n none. ap (λ (d : Database). pairs_at d n) is ∙ (page_kept db number change new covers n none ∙ differ.rest n (λ there. none (still old new more n there)));
    none = λ bare. is ∙ (unchanged db number change new covers bare ∙ differ.none (bare_before old more.more (sym more.is ∙ bare)));
  }

  -- a command that changed one page, which is marked
  module _ {A : Type 0} (ok : IsDatabase db) (e : Entry A) (keyed : HasKey e.command) (place : Place) (leads : IsPlaceOf db (key_of e.command) place) (acts : Acts db e db') (fills : FillsNone db db') where
    alike : IsAlikeAt place.page db db
    alike = record { kind = refl; size = refl; splits = refl; here = refl }

    beside : (n : ℕ) → n ≢ place.page → pairs_at db' n ≡ pairs_at db n
    beside n other = at (pairs_at db n) refl
      where
        at : (pairs : List Pair) → pairs_at db n ≡ pairs → pairs_at db' n ≡ pairs_at db n
        at [] is = fills n is ∙ sym is
        at (p ∷ ps) is =
            let done = acts_alike db db ok place.page alike e db' keyed place leads refl acts in
            let changed = done.1.1 in
            let same : db' ≡ done.0 = changed.part_is ∙ sym changed.db_is in
            ap (λ (d : Database). pairs_at d n) same ∙ pairs_beside place.page db db db' done.0 ok alike changed n other p ps is

    pub differ_done : Contains new place.page → (base : Database) → DifferOn old base db → DifferOn new base db'
    differ_done there base differ = record {
      kind = acts.move.kind ∙ differ.kind;
      size = acts.move.size ∙ differ.size;
      rest = λ n none. beside n (λ same. none (subst (λ (m : ℕ). Contains new m) (sym same) there)) ∙ differ.rest n (λ here. none (still old new more n here));
      none = λ bare. absurd (nothing_in new place.page bare there);
    }

-- ---- a call that may be refused

module _ (base image image' : Database) (marks marks' : List ℕ) where
  pub differ_same : image' ≡ image → marks' ≡ marks → DifferOn marks base image → DifferOn marks' base image'
  differ_same same_image same_marks differ =
      subst (λ (i : Database). DifferOn marks' base i) (sym same_image) (subst (λ (m : List ℕ). DifferOn m base image) (sym same_marks) differ)

pub differ_either : {A B : Type 0} (r : Result A B) (base image image' : Database) (marks marks' : List ℕ) → OnOk r ((b : Database) → DifferOn marks b image → DifferOn marks' b image') → OnErr r (image' ≡ image) → OnErr r (marks' ≡ marks)
    → DifferOn marks base image → DifferOn marks' base image'
differ_either (Ok a) base image image' marks marks' ok err kept differ = ok base differ
differ_either (Err b) base image image' marks marks' ok err kept differ = differ_same base image image' marks marks' err kept differ

pub differ_unless : (done : Bool) (base image image' : Database) (marks marks' : List ℕ) → (done ≡ true → (b : Database) → DifferOn marks b image → DifferOn marks' b image') → (done ≡ false → image' ≡ image) → (done ≡ false → marks' ≡ marks)
    → DifferOn marks base image → DifferOn marks' base image'
differ_unless true base image image' marks marks' ok err kept differ = ok refl base differ
differ_unless false base image image' marks marks' ok err kept differ = differ_same base image image' marks marks' (err refl) (kept refl) differ

pub differ_if_some : {A : Type 0} (r : Option A) (base image image' : Database) (marks marks' : List ℕ) → IfSome r (λ _. (b : Database) → DifferOn marks b image → DifferOn marks' b image') → IfNone r (image' ≡ image) → IfNone r (marks' ≡ marks)
    → DifferOn marks base image → DifferOn marks' base image'
differ_if_some (Some a) base image image' marks marks' ok none kept differ = ok base differ
differ_if_some None base image image' marks marks' ok none kept differ = differ_same base image image' marks marks' none kept differ
