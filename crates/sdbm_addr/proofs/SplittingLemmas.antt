-- Laws of splits: the directory stays valid, and the page of each hash after them.
use Rattle.std.proofs.Common.{◌≡◌, ℕ, zero, suc, ◌+◌, ◌%◌, ◌^◌, ◌≤◌, [], ◌∷◌, length, Bool, true, false, cond, refl, sym, ap, ◌∙◌, subst, arith, inl, inr}
use borrow.Author.Count.{below_more}
use Rattle.std.proofs.lemmas.Bool.{false_from_ne_true, or_cases, or_left, or_right, eqb-true, eqb-false}
use Rattle.std.specs.Ordering.{eq_by_cmp}
use Rattle.std.specs.Cmp.{eq_by_cmp_equiv}
use Rattle.std.specs.FinSet as set
use Rattle.sdbm_addr.specs.Hash.{agree}
use Rattle.sdbm_addr.specs.Directory.{Word, word_cmp, Splits, IsDirectory, hash_prefix, IsDepth, depth_of, page_of}
use Rattle.sdbm_addr.specs.Splitting.{split_along, page_along}
use Rattle.sdbm_addr.proofs.DirectoryLemmas.{words_total, eq_word, contains-insert, length-hash_prefix, unsplit_past, page_of_depth, depth_of-IsDepth, same_prefix, prefix_mod, fewer_bits}

contains-new : (d : Splits) (w : Word) → set.contains (set.insert d w) w ≡ true
contains-new d w = contains-insert d w w ∙ or_left _ _ ((eq_by_cmp_equiv words_total).refl w)

contains-old : (d : Splits) (w v : Word) → set.contains d v ≡ true → set.contains (set.insert d w) v ≡ true
contains-old d w v h = contains-insert d w v ∙ or_right _ _ h

-- a word other than the new one stays absent
absent_still : (d : Splits) (w v : Word) → (v ≡ w → ⊥) → set.contains d v ≡ false → set.contains (set.insert d w) v ≡ false
absent_still d w v n h = contains-insert d w v ∙ rw (false_from_ne_true (eq_by_cmp word_cmp v w) (λ t. n (eq_word v w t)), h) refl

lengths_differ : (g h a b : ℕ) → (g ≡ h → ⊥) → hash_prefix g a ≡ hash_prefix h b → ⊥
lengths_differ g h a b n e =
    let l : length (hash_prefix g a) ≡ length (hash_prefix h b) = ap length e in
    n (sym (length-hash_prefix g a) ∙ l ∙ length-hash_prefix h b)

-- splitting the shortest unsplit prefix keeps the directory valid
pub IsDirectory-insert : (d : Splits) (hash h : ℕ) → IsDirectory d → IsDepth d hash h → h ≤ 30 → IsDirectory (set.insert d (hash_prefix h hash))
IsDirectory-insert d hash h dir p l = record {
  closed = λ b w t. elim (or_cases (eq_by_cmp word_cmp (b ∷ w) (hash_prefix h hash)) (set.contains d (b ∷ w)) (sym (contains-insert d (hash_prefix h hash) (b ∷ w)) ∙ t)) as (λ _. set.contains (set.insert d (hash_prefix h hash)) w ≡ true) [
    | inl e ↦ contains-old d _ w (parent h b w (eq_word _ _ e) p)
    | inr old ↦ contains-old d _ w (dir.closed b w old)
  ];
  short = λ w t. elim (or_cases (eq_by_cmp word_cmp w (hash_prefix h hash)) (set.contains d w) (sym (contains-insert d (hash_prefix h hash) w) ∙ t)) as (λ _. length w ≤ 30) [
    | inl e ↦ let long : length w ≡ h = ap length (eq_word _ _ e) ∙ length-hash_prefix h hash in omega arith
    | inr old ↦ dir.short w old
  ];
}
  where
    tail : Word → Word
    tail [] = []
    tail (b ∷ w) = w

    parent : (h : ℕ) (b : Bool) (w : Word) → b ∷ w ≡ hash_prefix h hash → IsDepth d hash h → set.contains d w ≡ true
    parent zero b w e p = absurd (cc)
    parent (suc h) b w e p = let f : w ≡ hash_prefix h hash = ap tail e in rw f (p.above h (omega arith))

-- a hash with the same h lowest bits then has depth h + 1
pub IsDepth-insert : (d : Splits) (hash h e : ℕ) → IsDirectory d → IsDepth d hash h → IsDepth d e h → hash % 2 ^ h ≡ e % 2 ^ h
    → IsDepth (set.insert d (hash_prefix h hash)) e (h + 1)
IsDepth-insert d hash h e dir p q agrees = record {
  leaf = absent_still d _ _ (lengths_differ (h + 1) h e hash (λ (k : h + 1 ≡ h). omega arith)) (unsplit_past d dir h (h + 1) e (omega arith) q.leaf);
  above = below_more (λ k. set.contains (set.insert d (hash_prefix h hash)) (hash_prefix k e) ≡ true) h (λ k l. contains-old d _ _ (q.above k l))
      (subst (λ (w : Word). set.contains (set.insert d w) (hash_prefix h e) ≡ true) (sym (same_prefix h hash e agrees)) (contains-new d _));
}

-- a hash that differs from the path within its first m bits keeps its place
parted : (d : Splits) (hash h t m g e : ℕ) → m ≤ h → (hash % 2 ^ m ≡ e % 2 ^ m → ⊥) → IsDepth d e g → IsDepth (split_along d hash h t) e g
parted d hash h zero m g e l n p = p
parted d hash h (suc t) m g e l n p = parted (set.insert d (hash_prefix h hash)) hash (h + 1) t m g e (omega arith) n record {
  leaf = absent_still d _ _ (λ same. n (fewer_bits m h hash e l (other h same))) p.leaf;
  above = λ k i. contains-old d _ _ (p.above k i);
}
  where
    other : (h : ℕ) → hash_prefix g e ≡ hash_prefix h hash → hash % 2 ^ h ≡ e % 2 ^ h
    other h same =
        let s : g ≡ h = sym (length-hash_prefix g e) ∙ ap length same ∙ length-hash_prefix h hash in
        prefix_mod h hash e (sym same ∙ ap (λ k. hash_prefix k e) s)

pub IsDirectory-split_along : (d : Splits) (hash h t : ℕ) → IsDirectory d → IsDepth d hash h → h + t ≤ 31 → IsDirectory (split_along d hash h t)
IsDirectory-split_along d hash h zero dir p l = dir
IsDirectory-split_along d hash h (suc t) dir p l =
    IsDirectory-split_along (set.insert d (hash_prefix h hash)) hash (h + 1) t (IsDirectory-insert d hash h dir p (omega arith)) (IsDepth-insert d hash h hash dir p p refl) (omega arith)

-- the page of a hash after t splits
pub page_of-split_along : (d : Splits) (hash h t e : ℕ) → IsDirectory d → IsDepth d hash h → IsDepth d e h → h + t ≤ 31 → page_of (split_along d hash h t) e ≡ page_along hash h t e
page_of-split_along d hash h zero e dir p q l = page_of_depth d dir e h q
page_of-split_along d hash h (suc t) e dir p q l =
    elim (agree h hash e) as (λ b. agree h hash e ≡ b → page_of (split_along d hash h (suc t)) e ≡ cond b (page_along hash (h + 1) t e) (e % 2 ^ h)) [
      | true ↦ λ same.
          let agrees : hash % 2 ^ h ≡ e % 2 ^ h = eqb-true _ _ same in
          page_of-split_along (set.insert d (hash_prefix h hash)) hash (h + 1) t e (IsDirectory-insert d hash h dir p (omega arith)) (IsDepth-insert d hash h hash dir p p refl) (IsDepth-insert d hash h e dir p q agrees) (omega arith)
      | false ↦ λ differs.
          page_of_depth _ (IsDirectory-split_along d hash h (suc t) dir p l) e h (parted d hash h (suc t) h h e (omega arith) (eqb-false _ _ differs) q)
    ] refl

-- hashes with another prefix lead to the same page as before
pub page_of-elsewhere : (d : Splits) (hash h t e : ℕ) → IsDirectory d → IsDepth d hash h → h + t ≤ 31
    → (hash % 2 ^ h ≡ e % 2 ^ h → ⊥) → page_of (split_along d hash h t) e ≡ page_of d e
page_of-elsewhere d hash h t e dir p l n =
    let q : IsDepth d e (depth_of d e) = depth_of-IsDepth d dir e in
    page_of_depth _ (IsDirectory-split_along d hash h t dir p l) e (depth_of d e) (parted d hash h t h (depth_of d e) e (omega arith) n q) ∙ sym (page_of_depth d dir e (depth_of d e) q)
