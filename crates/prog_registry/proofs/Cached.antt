-- The stored verdicts.
use Rattle.std.proofs.Common.{◌≡◌, ℕ, ◌-◌, List, [], ◌∷◌, take, Contains, Option, Some, None, Bool, true, false, refl, sym, ◌∙◌, ap, subst, ⊎_elim}
use Rattle.std.specs.Option.{option_map, option_map_or}
use Rattle.std.specs.Map.{lookup, lookup_entry, remove_entry}
use Rattle.std.specs.Prelude.{cond}
use Rattle.std.specs.Str.{bytes_eq}
use Rattle.std.specs.declared.vec.Vec.{Vec}
use Rattle.std.proofs.lemmas.List.{take-map}
use Rattle.std.proofs.lemmas.Slice.Eq.{bytes_eq-Decides}
use Rattle.lru.specs.LruCache.{LruCache, lru_cache, promoted, put_entries}
use Rattle.lru.proofs.CallerLemmas.{Contains-take, Contains-promoted, Contains-lookup}
use Rattle.lru.proofs.Splits.{Contains-cons}
use Rattle.bpf_verify.specs.declared.fault.VerifyFault.{VerifyFault}
use Rattle.prog_registry.specs.Judged.{IsJudged}
use Rattle.prog_registry.specs.Verdicts.{Verdict, verdict_on, AreVerdicts}
use Rattle.prog_registry.specs.Kept.{plain, AreKept}

-- ---- the verdicts

-- a stored verdict on an image is the verifier's verdict
pub found_judged : (verdicts : List Verdict) (image : List ℕ) (fault : VerifyFault) → AreVerdicts verdicts → verdict_on verdicts image ≡ Some fault → IsJudged image fault
found_judged verdicts image fault are e =
    let found = Contains-lookup (bytes_eq image) verdicts fault e in
    let same : found.0 ≡ image = sym ((bytes_eq-Decides image found.0).0 found.2) in
    subst (λ (b : List ℕ). IsJudged b fault) same (are (found.0, fault) found.1)

pub promoted_are : (verdicts : List Verdict) (image : List ℕ) → AreVerdicts verdicts → AreVerdicts (promoted (bytes_eq image) verdicts)
promoted_are verdicts image are v h = are v (Contains-promoted (bytes_eq image) verdicts v h)

pub added_are : (verdicts : List Verdict) (image : List ℕ) (fault : VerifyFault) → AreVerdicts verdicts → IsJudged image fault → AreVerdicts ((image, fault) ∷ take 63 verdicts)
added_are verdicts image fault are judged v h = ⊎_elim
    (λ (same : (image, fault) ≡ v). subst (λ (w : Verdict). IsJudged w.0 w.1) same judged)
    (λ (more : Contains (take 63 verdicts) v). are v (Contains-take 63 verdicts v more))
    (Contains-cons (image, fault) (take 63 verdicts) v h)

-- ---- their keys

module _ {Z : Type 0} where
  abbrev shown : Vec ℕ Z × VerifyFault → Verdict
  shown e = (e.0.items, e.1)

  abbrev has : List ℕ → Vec ℕ Z → Bool
  has image k = bytes_eq image k.items

  pub looked : (image : List ℕ) (es : List (Vec ℕ Z × VerifyFault)) → lookup (λ k. bytes_eq image k.items) es ≡ verdict_on (plain es) image
  looked image [] = refl
  looked image (e ∷ es) = ap (cond (bytes_eq image e.0.items) (Some e.1)) (looked image es)

  entry_found : (image : List ℕ) (es : List (Vec ℕ Z × VerifyFault)) → option_map shown (lookup_entry (has image) es) ≡ lookup_entry (bytes_eq image) (plain es)
  entry_found image [] = refl
  entry_found image (e ∷ es) = by_test (bytes_eq image e.0.items) (entry_found image es) where
    by_test : (b : Bool) → option_map shown (lookup_entry (has image) es) ≡ lookup_entry (bytes_eq image) (plain es)
        → option_map shown (cond b (Some e) (lookup_entry (has image) es)) ≡ cond b (Some (shown e)) (lookup_entry (bytes_eq image) (plain es))
    by_test true h = refl
    by_test false h = h

  removed : (image : List ℕ) (es : List (Vec ℕ Z × VerifyFault)) → plain (remove_entry (has image) es) ≡ remove_entry (bytes_eq image) (plain es)
  removed image [] = refl
  removed image (e ∷ es) = by_test (bytes_eq image e.0.items) (removed image es) where
    by_test : (b : Bool) → plain (remove_entry (has image) es) ≡ remove_entry (bytes_eq image) (plain es)
        → plain (cond b es (e ∷ remove_entry (has image) es)) ≡ cond b (plain es) (shown e ∷ remove_entry (bytes_eq image) (plain es))
    by_test true h = refl
    by_test false h = ap (λ (vs : List Verdict). shown e ∷ vs) h

  pub promoted_plain : (image : List ℕ) (es : List (Vec ℕ Z × VerifyFault)) → plain (promoted (λ k. bytes_eq image k.items) es) ≡ promoted (bytes_eq image) (plain es)
  promoted_plain image es = by_entry (lookup_entry (has image) es) ∙ ap (λ (o : Option Verdict). option_map_or (λ v. v ∷ remove_entry (bytes_eq image) (plain es)) o (plain es)) (entry_found image es) where
    by_entry : (o : Option (Vec ℕ Z × VerifyFault)) → plain (option_map_or (λ e. e ∷ remove_entry (has image) es) o es) ≡ option_map_or (λ v. v ∷ remove_entry (bytes_eq image) (plain es)) (option_map shown o) (plain es)
    by_entry None = refl
    by_entry (Some e) = ap (λ (vs : List Verdict). shown e ∷ vs) (removed image es)

  no_entry : (image : List ℕ) (es : List (Vec ℕ Z × VerifyFault)) → lookup (has image) es ≡ None → lookup_entry (has image) es ≡ None
  no_entry image [] h = refl
  no_entry image (e ∷ es) h = by_test (bytes_eq image e.0.items) h (no_entry image es) where
    by_test : (b : Bool) → cond b (Some e.1) (lookup (has image) es) ≡ None → (lookup (has image) es ≡ None → lookup_entry (has image) es ≡ None)
        → cond b (Some e) (lookup_entry (has image) es) ≡ None
    by_test true g k = let f : ⊥ = cc in absurd f
    by_test false g k = k g

  -- a verdict on a new image goes first
  pub put_plain : (cache : LruCache (Vec ℕ Z) VerifyFault) (key : Vec ℕ Z) (image : List ℕ) (fault : VerifyFault) → key.items ≡ image → cache.cap ≡ 64 → verdict_on (plain cache.entries) image ≡ None
      → plain (put_entries (λ x y. bytes_eq x.items y.items) cache key fault) ≡ (image, fault) ∷ take 63 (plain cache.entries)
  put_plain cache key image fault spelled limit fresh = by_entry (lookup_entry (has key.items) cache.entries) none where
    none : lookup_entry (has key.items) cache.entries ≡ None
    none = no_entry key.items cache.entries (looked key.items cache.entries ∙ (ap (verdict_on (plain cache.entries)) spelled ∙ fresh))

    by_entry : (o : Option (Vec ℕ Z × VerifyFault)) → o ≡ None
        → plain (option_map_or (λ e. (e.0, fault) ∷ remove_entry (has key.items) cache.entries) o ((key, fault) ∷ take (cache.cap - 1) cache.entries)) ≡ (image, fault) ∷ take 63 (plain cache.entries)
    by_entry None e = rw (limit, spelled) (ap (λ (vs : List Verdict). (image, fault) ∷ vs) (sym (take-map shown 63 cache.entries)))
    by_entry (Some x) e = let f : ⊥ = cc in absurd f

  -- ---- the steps

  pub kept_promoted : (old new : LruCache (Vec ℕ Z) VerifyFault) (image : List ℕ) → AreKept old → new ≡ lru_cache (promoted (λ k. bytes_eq image k.items) old.entries) old.cap
      → AreKept new × (plain new.entries ≡ promoted (bytes_eq image) (plain old.entries))
  kept_promoted old new image kept e = (record { limit = ap (λ (c : LruCache (Vec ℕ Z) VerifyFault). c.cap) e ∙ kept.limit; are = subst AreVerdicts (sym first) (promoted_are (plain old.entries) image kept.are) }, first) where
    first : plain new.entries ≡ promoted (bytes_eq image) (plain old.entries)
    first = ap (λ (c : LruCache (Vec ℕ Z) VerifyFault). plain c.entries) e ∙ promoted_plain image old.entries

  pub kept_put : (old new : LruCache (Vec ℕ Z) VerifyFault) (key : Vec ℕ Z) (image : List ℕ) (fault : VerifyFault) → AreKept old → key.items ≡ image → verdict_on (plain old.entries) image ≡ None
      → IsJudged image fault → new ≡ lru_cache (put_entries (λ x y. bytes_eq x.items y.items) old key fault) old.cap
      → AreKept new × (plain new.entries ≡ (image, fault) ∷ take 63 (plain old.entries))
  kept_put old new key image fault kept spelled fresh judged e = (record { limit = ap (λ (c : LruCache (Vec ℕ Z) VerifyFault). c.cap) e ∙ kept.limit; are = subst AreVerdicts (sym first) (added_are (plain old.entries) image fault kept.are judged) }, first) where
    first : plain new.entries ≡ (image, fault) ∷ take 63 (plain old.entries)
    first = ap (λ (c : LruCache (Vec ℕ Z) VerifyFault). plain c.entries) e ∙ put_plain old key image fault spelled kept.limit fresh
