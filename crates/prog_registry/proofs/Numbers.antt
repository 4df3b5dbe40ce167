-- The stored programs and the numbers of their images.
use Rattle.std.proofs.Common.{◌≡◌, ℕ, ◌<◌, ◌≤◌, ◌⊎◌, List, [], ◌∷◌, ◌++◌, length, Option, Some, None, IfSome, IfNone, Bool, true, false, refl, sym, ◌∙◌, ap, subst, ⊎_elim, arith, length-append}
use Rattle.std.specs.Prelude.{slice_get}
use Rattle.std.specs.Arc.{arc_value}
use Rattle.std.specs.Cmp.Lexicographic.{nat_list_eq_equiv}
use Rattle.std.specs.declared.sync.Arc.{Arc}
use Rattle.std.specs.declared.vec.Vec.{Vec}
use Rattle.std.specs.Map.{lookup, KeepsOthers}
use Rattle.std.specs.Str.{bytes_eq}
use Rattle.std.proofs.lemmas.List.{map-append, length-map}
use Rattle.std.proofs.lemmas.Option.{same_Some}
use Rattle.std.proofs.lemmas.Slice.Eq.{bytes_eq-Decides}
use Rattle.bpf_verify.specs.Verified.{Accepted, image_in}
use Rattle.prog_registry.specs.Judged.{IsProgram, IsProgramOf}
use Rattle.prog_registry.specs.Programs.{program_limit, images_of, StandsAt, IsNew}
use Rattle.prog_registry.specs.Kept.{values_of, number_of, IsKept}
use Rattle.prog_registry.proofs.Places.{still, last, stood}

-- ---- one more image

images_long : (programs : List Accepted) → length (images_of programs) ≡ length programs
images_long programs = simp length-map

stands_still : (programs : List Accepted) (p : Accepted) (image : List ℕ) (id : ℕ) → StandsAt programs image id → StandsAt (programs ++ p ∷ []) image id
stands_still programs p image id h = rw (map-append image_in programs (p ∷ [])) (still (images_of programs) (image_in p) id image h)

stands_last : (programs : List Accepted) (p : Accepted) → StandsAt (programs ++ p ∷ []) (image_in p) (length programs)
stands_last programs p = rw (map-append image_in programs (p ∷ [])) (subst (λ (n : ℕ). slice_get (images_of programs ++ image_in p ∷ []) n ≡ Some (image_in p)) (images_long programs) (last (images_of programs) (image_in p)))

stood_before : (programs : List Accepted) (p : Accepted) (image : List ℕ) (id : ℕ) → StandsAt (programs ++ p ∷ []) image id
    → StandsAt programs image id ⊎ ((id ≡ length programs) × (image_in p ≡ image))
stood_before programs p image id h = rw (images_long programs) at (stood (images_of programs) (image_in p) id image (rw (map-append image_in programs (p ∷ [])) at h))

-- ---- look-ups

some_none : {X : Type 0} (x : X) → Some x ≡ None → ⊥
some_none x e = cc

module _ {Z : Type 0} where
  pub found_at : (programs : List Accepted) (numbers : List (Vec ℕ Z × ℕ)) (image : List ℕ) (r : Option ℕ) → IsKept programs numbers → r ≡ number_of numbers image → IfSome r (StandsAt programs image)
  found_at programs numbers image None kept e = tt
  found_at programs numbers image (Some id) kept e = kept.found image id (sym e)

  pub found_nowhere : (programs : List Accepted) (numbers : List (Vec ℕ Z × ℕ)) (image : List ℕ) (r : Option ℕ) → IsKept programs numbers → r ≡ number_of numbers image → IfNone r (IsNew programs image)
  found_nowhere programs numbers image None kept e = λ id stands. some_none id (sym (kept.listed image id stands) ∙ sym e)
  found_nowhere programs numbers image (Some id) kept e = tt

  -- adding a pair changes no look-up of another image
  other_found : (key : Vec ℕ Z) (old new : List (Vec ℕ Z × ℕ)) (image : List ℕ) → KeepsOthers (λ x y. bytes_eq x.items y.items) (λ k. bytes_eq key.items k.items) old new
      → bytes_eq key.items image ≡ false → number_of new image ≡ number_of old image
  unfolding KeepsOthers
  other_found key old new image keeps differ = keeps (λ k. bytes_eq image k.items) (λ x y. nat_list_eq_equiv.congr image x.items y.items) apart where
    apart : (k : Vec ℕ Z) → bytes_eq key.items k.items ≡ true → bytes_eq image k.items ≡ false
    apart k same = by_test (bytes_eq image k.items) refl where
      by_test : (b : Bool) → bytes_eq image k.items ≡ b → b ≡ false
      by_test false e = refl
      by_test true e =
          let one : key.items ≡ k.items = (bytes_eq-Decides key.items k.items).0 same in
          let two : image ≡ k.items = (bytes_eq-Decides image k.items).0 e in
          let three = (bytes_eq-Decides key.items image).1 (one ∙ sym two) in
          let f : true ≡ false = sym three ∙ differ in
          f

  -- a new program's image has the next number
  pub kept_added : (programs : List Accepted) (p : Accepted) (image : List ℕ) (key : Vec ℕ Z) (old new : List (Vec ℕ Z × ℕ))
      → IsKept programs old → length programs < program_limit → IsNew programs image → IsProgramOf image p → key.items ≡ image
      → lookup (λ k. bytes_eq key.items k.items) new ≡ Some (length programs)
      → KeepsOthers (λ x y. bytes_eq x.items y.items) (λ k. bytes_eq key.items k.items) old new
      → IsKept (programs ++ p ∷ []) new
  kept_added programs p image key old new kept room fresh one spelled own keeps = record { are = record { few = few; distinct = distinct; each = each }; found = found; listed = listed } where
    here : number_of new image ≡ Some (length programs)
    here = rw spelled at own

    other : (b : List ℕ) → bytes_eq image b ≡ false → number_of new b ≡ number_of old b
    other b differ = other_found key old new b keeps (rw spelled differ)

    found : (b : List ℕ) (id : ℕ) → number_of new b ≡ Some id → StandsAt (programs ++ p ∷ []) b id
    found b id e = by_test (bytes_eq image b) refl where
      by_test : (t : Bool) → bytes_eq image b ≡ t → StandsAt (programs ++ p ∷ []) b id
      by_test false t = stands_still programs p b id (kept.found b id (sym (other b t) ∙ e))
      by_test true t =
          let same : image ≡ b = (bytes_eq-Decides image b).0 t in
          let next : length programs ≡ id = same_Some (length programs) id (sym here ∙ (ap (number_of new) same ∙ e)) in
          subst (λ (n : ℕ). StandsAt (programs ++ p ∷ []) b n) next (subst (λ (x : List ℕ). StandsAt (programs ++ p ∷ []) x (length programs)) (one.spelled ∙ same) (stands_last programs p))

    listed : (b : List ℕ) (id : ℕ) → StandsAt (programs ++ p ∷ []) b id → number_of new b ≡ Some id
    listed b id stands = ⊎_elim
        (λ (h : StandsAt programs b id). by_test h (bytes_eq image b) refl)
        (λ (h : (id ≡ length programs) × (image_in p ≡ b)). ap (number_of new) (sym h.1 ∙ one.spelled) ∙ (here ∙ ap (λ (n : ℕ). Some n) (sym h.0)))
        (stood_before programs p b id stands)
      where
        by_test : StandsAt programs b id → (t : Bool) → bytes_eq image b ≡ t → number_of new b ≡ Some id
        by_test h false t = other b t ∙ kept.listed b id h
        by_test h true t = absurd (fresh id (subst (λ (x : List ℕ). StandsAt programs x id) (sym ((bytes_eq-Decides image b).0 t)) h))

    few : length (programs ++ p ∷ []) ≤ program_limit
    few = simp length-append (omega arith)

    distinct : (b : List ℕ) (i j : ℕ) → StandsAt (programs ++ p ∷ []) b i → StandsAt (programs ++ p ∷ []) b j → i ≡ j
    distinct b i j a c = same_Some i j (sym (listed b i a) ∙ listed b j c)

    each : (id : ℕ) (q : Accepted) → slice_get (programs ++ p ∷ []) id ≡ Some q → IsProgram q
    each id q e = ⊎_elim
        (λ (h : slice_get programs id ≡ Some q). kept.are.each id q h)
        (λ (h : (id ≡ length programs) × (p ≡ q)). subst IsProgram h.1 one.is)
        (stood programs p id q e)

  -- the shared programs after adding one
  pub values_more : (old middle new : List (Arc Accepted Z)) (a : Arc Accepted Z) (p : Accepted) → new ≡ middle ++ a ∷ [] → middle ≡ old → arc_value a ≡ p → values_of new ≡ values_of old ++ p ∷ []
  values_more old middle new a p e same value = ap values_of (e ∙ ap (λ (xs : List (Arc Accepted Z)). xs ++ a ∷ []) same) ∙ (map-append arc_value old (a ∷ []) ∙ ap (λ (x : Accepted). values_of old ++ x ∷ []) value)
