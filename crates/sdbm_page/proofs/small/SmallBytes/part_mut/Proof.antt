-- Proof of the borrow of a part of a small page's bytes: the bytes are split in three, the middle is borrowed, and when the borrow ends
-- the three are joined into one array. The checker does not do this by itself for a part of an array.
use Rattle.std.proofs.Common.{◌≡◌, ℕ, zero, ◌+◌, ◌-◌, ◌^◌, ◌<◌, ◌≤◌, List, [], ◌∷◌, ◌++◌, length, take, drop as past, refl, sym, ap, ◌∙◌, subst, arith, length-append, length-drop, w8, w64}
use Rattle.std.proofs.lemmas.List.{take-append-drop, length-take-le}
use Rattle.std.proofs.raw_atomic.Walks.{proved}
use seplogic.Ra.Ura.{Ura}
use base.Fraction.{full_share}
use base.Fml.{Fml, Lft, GName, ftrue, fsep, feq, flft}
use base.Logic.{SProp, ent, sep}
use mir.Syntax.{ty_array, ty_int, ty_struct, named}
use prog.Memory.{align, up}
use types.Logic.{Logic, sem}
use types.SemTy.{Arr, cells}
use types.Mut.{open_ref}
use types.Part.{agg}
use types.Kit.{‵, raw, ◌⊛◌, some, later, ◌$◌, ◌∵◌, !, qed, by, move, keep, drop, split, join, fsplit, fsplit3, fjoin, feq_l, feq_i, use1, use2, use3, await, pick, rewrite, suffices, frame, group, done}
use types.Run.{enter, addr, fld, stop, bin, and_then, no_more, returns}
use types.ByLocal.{alloc_all, pass_all, free_all, look_at, get, through, sets}
use borrow.Table.Elements.{at, at_byte, cut_app, join_app}
use contract.Monad.{fact}
use denote.Array.{Array}
use denote.ArrayMemory.{Array-apart, Array-whole}
use denote.Builtin.{u8, usize}
use denote.Exit.{yes, no}
use denote.Follow.{follows}
use denote.FollowSlice.{lends_Elements}
use denote.Index.{row, whole_in, whole_out}
use denote.Memory.{mem, part_at}
use denote.Plain.{uint_vals, uint_Tells}
use denote.RattleType.{owns}
use denote.Ref.{MutRef, mut_vals, mut_Tells}
use denote.Signature.{plain, mut_ref_to}
use denote.Slice.{MutSlice, Room, slice_val}
use denote.Steps.{nothing, heard}
use denote.Struct.Declared.{shape}
use denote.Struct.Members.{Member, Lone, raw_tys}
use denote.Struct.Parts.{Struct-left, left_Struct}
use denote.Struct.Recorded.{Recorded-part}
use denote.Struct.Struct.{Struct}
use denote.Triple.Walked.{Stays, says, stay_dropped, walk_of, ends_at, Goes-dropped, Goes-spent_ref}
use Rattle.sdbm_page.specs.Small.{small_with}
use Rattle.sdbm_page.specs.declared.small.SmallBytes.{SmallBytes}
use Rattle.sdbm_page.specs.contracts.small.SmallBytes.{the_row as Small, the_type as small_type}
use Rattle.sdbm_page.specs.contracts.small.SmallBytes.part_mut as f
use Rattle.sdbm_page.proofs.Writing.{written_at}
use Rattle.sdbm_page.proofs.small.SmallBytes.part_mut.Statement.{statement}
use Rattle.sdbm_page.proofs.small.SmallBytes.part_mut.Code as code

-- the only field, and its offset in a struct at o
abbrev field : List Member
field = record { row = Array u8 1024; ty = ty_array (ty_int w8) 1024 } ∷ []

abbrev home : ℕ → ℕ
home o = o + up (align (ty_array (ty_int w8) 1024)) zero

abbrev run : List ℕ → ℕ → ℕ → Fml
run bytes b o = cells (mem u8) bytes b o

module _ {M : Type 1} {𝓤 : Ura M} (𝓛 : Logic 𝓤) where
  -- three adjacent runs, the second beginning at m, are one run
  cut_in_three : (x y z : List ℕ) (b o m : ℕ) → length x + o ≡ m
      → ent 𝓤 (sem 𝓛 (run (x ++ (y ++ z)) b o)) (sep 𝓤 (sem 𝓛 (run x b o)) (sep 𝓤 (sem 𝓛 (run y b m)) (sem 𝓛 (run z b (length y + m)))))
  cut_in_three x y z b o m here =
      qed 𝓛 (‵ (run (x ++ (y ++ z)) b o) ∷ []) ∵
      use1 𝓛 (‵ (run x b o) ⊛ ‵ (run (y ++ z) b (at o (mem u8).size (length x)))) (cut_app 𝓛 (mem u8) x (y ++ z) b o) $ split ! $ frame ! $
      rewrite ! 0 (λ (k : ℕ). ‵ (run (y ++ z) b k)) (at_byte o (length x) ∙ here) refl $
      use1 𝓛 (‵ (run y b m) ⊛ ‵ (run z b (at m (mem u8).size (length y)))) (cut_app 𝓛 (mem u8) y z b m) $ split ! $ frame ! $
      rewrite ! 0 (λ (k : ℕ). ‵ (run z b k)) (at_byte m (length y)) refl $ done !

  three_in_one : (x y z : List ℕ) (b o m : ℕ) → length x + o ≡ m
      → ent 𝓤 (sep 𝓤 (sem 𝓛 (run x b o)) (sep 𝓤 (sem 𝓛 (run y b m)) (sem 𝓛 (run z b (length y + m))))) (sem 𝓛 (run (x ++ (y ++ z)) b o))
  three_in_one x y z b o m here =
      qed 𝓛 (‵ (run x b o) ∷ ‵ (run y b m) ∷ ‵ (run z b (length y + m)) ∷ []) ∵
      rewrite ! 2 (λ (k : ℕ). ‵ (run z b k)) (sym (at_byte m (length y))) refl $ move ! (1 ∷ 2 ∷ 0 ∷ []) $
      use2 𝓛 (‵ (run (y ++ z) b m)) (join_app 𝓛 (mem u8) y z b m) $
      rewrite ! 0 (λ (k : ℕ). ‵ (run (y ++ z) b k)) (sym (at_byte o (length x) ∙ here)) refl $ move ! (1 ∷ 0 ∷ []) $
      by ! (join_app 𝓛 (mem u8) x (y ++ z) b o)

  -- the memory of a struct except its field
  abbrev shell : ℕ → ℕ → SProp 𝓤
  shell b o = 𝓛.H.left full_share (ty_struct [] (raw_tys field)) (raw_tys field) b o

  -- the struct in memory is its bytes in memory, and the shell
  opened : (small : SmallBytes) (b o : ℕ)
      → ent 𝓤 (sem 𝓛 ((mem Small).own_at small b o)) (sep 𝓤 (sem 𝓛 ((Arr (mem u8) 1024).own_at small.bytes b (home o))) (shell b o))
  opened small b o =
      qed 𝓛 (‵ (part_at Small full_share small b o) ∷ []) ∵
      rewrite ! 0 (λ (held : Fml). ‵ held) (Recorded-part (Struct (shape small_type)) small_type.D small_type.to small_type.to_one full_share small b o) refl $
      use1 𝓛 (‵ (fsep (part_at (Array u8 1024) full_share small.bytes b (home o)) ftrue) ⊛ raw (shell b o))
      (Struct-left 𝓛 full_share small_type.name field ((λ xs vs is. subst Lone (sym is.1.0.0) tt), tt) (small.bytes, tt) b o) $
      split ! $ fsplit ! $ use1 𝓛 (‵ (fsep (feq ℕ (length small.bytes) 1024) (row u8 full_share small.bytes b (home o))))
      (Array-apart 𝓛 u8 full_share tt 1024 small.bytes b (home o)) $
      fsplit ! $ move ! (1 ∷ []) $ use1 𝓛 (‵ (run small.bytes b (home o))) (whole_in 𝓛 u8 small.bytes b (home o)) $
      move ! (1 ∷ 0 ∷ []) $ fjoin ! $ frame ! $ drop ! $ done !

  shut : (small : SmallBytes) (b o : ℕ)
      → ent 𝓤 (sep 𝓤 (sem 𝓛 ((Arr (mem u8) 1024).own_at small.bytes b (home o))) (shell b o)) (sem 𝓛 ((mem Small).own_at small b o))
  shut small b o =
      qed 𝓛 (‵ (fsep (feq ℕ (length small.bytes) 1024) (run small.bytes b (home o))) ∷ raw (shell b o) ∷ []) ∵
      fsplit ! $ move ! (1 ∷ []) $ use1 𝓛 (‵ (row u8 full_share small.bytes b (home o))) (whole_out 𝓛 u8 small.bytes b (home o)) $ move ! (1 ∷ 0 ∷ []) $ fjoin ! $
      use1 𝓛 (‵ (part_at (Array u8 1024) full_share small.bytes b (home o))) (Array-whole 𝓛 u8 full_share 1024 small.bytes b (home o)) $
      nothing ! $ move ! (1 ∷ 0 ∷ []) $ fjoin ! $
      use2 𝓛 (‵ (part_at (Struct (shape small_type)) full_share (small.bytes, tt) b o)) (left_Struct 𝓛 full_share small_type.name field (small.bytes, tt) b o) $
      rewrite ! 0 (λ (held : Fml). ‵ held) (sym (Recorded-part (Struct (shape small_type)) small_type.D small_type.to small_type.to_one full_share small b o)) refl $ done !

-- the offset in memory of the byte at a place
abbrev byte_at : ℕ → ℕ → ℕ
byte_at place o = place + home o

module _ (small : SmallBytes) (start end : ℕ) where
  abbrev front : List ℕ
  front = take start small.bytes

  abbrev middle : List ℕ
  middle = take (end - start) (past start small.bytes)

  abbrev behind : List ℕ
  behind = past (end - start) (past start small.bytes)

  three : small.bytes ≡ front ++ (middle ++ behind)
  three = rw (take-append-drop (end - start) (past start small.bytes), take-append-drop start small.bytes) refl

  -- the middle as a slice at (b, o), borrowed under the name δ; the machine counts n bytes
  abbrev slice : Lft → GName → ℕ → ℕ → ℕ → Fml
  slice κ δ b o n = (MutSlice (named 0) κ u8).own_val (record { ref_ptr = (b, o); ghost_name = δ; now = middle }) (slice_val (b, o) n ∷ [])

  module _ (order : start ≤ end) (inside : end ≤ length small.bytes) where
    middle_long : length middle ≡ end - start
    middle_long = length-take-le (end - start) (past start small.bytes) (omega (arith, length-drop start small.bytes))

    middle_at : (o : ℕ) → length front + home o ≡ byte_at start o
    middle_at o = ap (λ (k : ℕ). k + home o) (length-take-le start small.bytes (omega arith))

    -- with another list of the same length in place of the middle
    with_is : (new : List ℕ) → length new ≡ length middle → (small_with small start new).bytes ≡ front ++ (new ++ behind)
    with_is new same = written_at (length small.bytes) start small.bytes front middle behind new three refl (sym (length-take-le start small.bytes (omega arith))) same

    with_long : (new : List ℕ) → length new ≡ length middle → length (small_with small start new).bytes ≡ length small.bytes
    with_long new same =
        omega (
          arith,
          ap length (with_is new same),
          ap length three,
          length-append front (new ++ behind),
          length-append new behind,
          length-append front (middle ++ behind),
          length-append middle behind,
          same,
        )

    module _ {M : Type 1} {𝓤 : Ura M} (𝓛 : Logic 𝓤) (b o : ℕ) where
      -- the part of the struct that remains while the middle is borrowed
      abbrev stays : SProp 𝓤
      stays = sep 𝓤 (sem 𝓛 (run front b (home o))) (sep 𝓤 (sem 𝓛 (run behind b (length middle + byte_at start o))) (shell 𝓛 b o))

      back : length small.bytes ≡ 1024 → (new : List ℕ) → length new ≡ length middle
          → ent 𝓤 (sep 𝓤 (sem 𝓛 (run new b (byte_at start o))) stays) (sem 𝓛 ((mem Small).own_at (small_with small start new) b o))
      back long new same =
          qed 𝓛 (‵ (run new b (byte_at start o)) ∷ ‵ (run front b (home o)) ∷ ‵ (run behind b (length middle + byte_at start o)) ∷ raw (shell 𝓛 b o) ∷ []) ∵
          rewrite ! 2 (λ (k : ℕ). ‵ (run behind b (k + byte_at start o))) (sym same) refl $ move ! (1 ∷ 0 ∷ 2 ∷ []) $
          use3 𝓛 (‵ (run (front ++ (new ++ behind)) b (home o))) (three_in_one 𝓛 front new behind b (home o) (byte_at start o) (middle_at o)) $
          rewrite ! 0 (λ (all : List ℕ). ‵ (run all b (home o))) (sym (with_is new same)) refl $
          feq_i ! ℕ (length (small_with small start new).bytes) 1024 (with_long new same ∙ long) $ fjoin ! $
          by ! (shut 𝓛 (small_with small start new) b o)

-- no parameter is returned
abbrev left : Stays f.ended.signature.params f.ended.kept
left = (stay_dropped (mut_ref_to (0 ∷ []) tt (plain (λ _. Small))) no, (stay_dropped (plain (λ _. usize)) yes, (stay_dropped (plain (λ _. usize)) yes, tt)))

pub part_mut_spec : {M : Type 1} → statement M
part_mut_spec 𝓤 𝓛 𝓜 𝓡 wired =
    let clauses = f.clauses 𝓛 𝓜.mem 𝓡.returns in
    let number = Goes-dropped 𝓛 1 (plain (λ _. usize)) yes (λ κs x w. refl) in
    proved 𝓛 f.ended left clauses 𝓜 𝓡 (Goes-spent_ref 𝓛 1 (0 ∷ []) tt (plain (λ _. Small)), (number, (number, tt)))
    f.Key.name code.function (code.unfolded 𝓤 𝓛.H 𝓜 𝓡 wired)
    (λ κs. (mut_vals, (uint_vals w64, (uint_vals w64, tt)))) (λ κs. (mut_Tells (named 0) κs.0 Small, (uint_Tells w64, (uint_Tells w64, tt))))
    (λ κs qs bounds args _ are.
    let κ = κs.0 in let q = qs.0 in let self = args.0 in let start = args.1.0 in let end = args.1.1.0 in
    let b = self.ref_ptr.0 in let o = self.ref_ptr.1 in
    let y : (walk_of 𝓛 f.ended left clauses).Ghost = ((κs, qs, bounds, args, (mut_vals self, (uint_vals w64 start, (uint_vals w64 end, tt)))), tt) in
    qed 𝓛 (((‵ (flft κ q) ⊛ ‵ ftrue) ⊛ ‵ (owns (MutRef (named 0) κ Small ∷ usize ∷ usize ∷ []) args (mut_vals self, (uint_vals w64 start, (uint_vals w64 end, tt))))) ∷ raw (fact 𝓤 ((start ≤ end) × (end ≤ length self.now.bytes))) ∷ []) ∵
    split ! $ move ! (2 ∷ []) $ heard ! _ (λ asked. split ! $ move ! (2 ∷ []) $ fsplit ! $ keep ! (0 ∷ 2 ∷ []) $
    enter ! _ _ _ _ _ $ alloc_all ! (λ l. pass_all ! refl ((tt, tt), ((tt, record { fits = are.1.0.1 }), ((tt, record { fits = are.1.1.0.1 }), tt))) $
    sets ! (addr ! (through ! refl (fld ! refl (stop !)))) refl (tt, tt) $
    sets ! (bin ! (get ! refl) (get ! refl) tt) refl (tt, tt) $
    let count : end - start < 2 ^ 64 = omega (arith, are.1.1.0.1) in
    sets ! (bin ! (get ! refl) (get ! refl) asked.0) refl (tt, record { fits = count }) $
    sets ! (addr ! (through ! refl (stop !))) refl (tt, tt) $
    sets ! (agg ! (and_then ! (get ! refl) (and_then ! (get ! refl) (no_more !)))) refl (tt, (tt, (record { fits = count }, tt))) $
    fsplit3 ! $ drop ! $ open_ref ! tt (mem Small) {b = b} {o = o} $
    use1 𝓛 (‵ ((Arr (mem u8) 1024).own_at self.now.bytes b (home o)) ⊛ raw (shell 𝓛 b o)) (opened 𝓛 self.now b o) $ split ! $ fsplit ! $ feq_l ! (λ long.
    rewrite ! 0 (λ (all : List ℕ). ‵ (run all b (home o))) (three self.now start end) refl $
    -- [the bytes; the shell; the open borrow; the two halves of its name; the locals]
    let part : List ℕ = middle self.now start end in
    let there : ℕ = byte_at start o in
    let long_part : length part ≡ end - start = middle_long self.now start end asked.0 asked.1 in
    let room : Room u8 (length part) = (omega arith, omega arith) in
    use1 𝓛 (‵ (run (front self.now start end) b (home o)) ⊛ ‵ (run part b there) ⊛ ‵ (run (behind self.now start end) b (length part + there)))
    (cut_in_three 𝓛 (front self.now start end) part (behind self.now start end) b (home o) there (middle_at self.now start end asked.0 asked.1 o)) $
    split ! $ move ! (1 ∷ []) $ split ! $ move ! (4 ∷ 5 ∷ 6 ∷ 0 ∷ 2 ∷ 1 ∷ 3 ∷ []) $ group ! 7 $
    use1 𝓛 (later (some (λ (δ : GName). ‵ (slice self.now start end κ δ b there (length part)) ⊛ ‵ (flft κ q) ⊛ ‵ (follows Small (Array u8 0) self.ghost_name δ (small_with self.now start)))))
    (lends_Elements 𝓛 Small u8 (small_with self.now start) (named 0) κ q b o b there self.ghost_name part room
    (stays self.now start end asked.0 asked.1 𝓛 b o) (back self.now start end asked.0 asked.1 𝓛 b o long) (Small.coded.code self.now) (Small.coded.code self.now)) $
    await ! tt $ pick ! (λ δ. returns ! (look_at ! 0 refl) $ free_all ! refl $ split ! $
    rewrite ! 0 (λ (n : ℕ). ‵ (slice self.now start end κ δ b there n)) long_part refl $
    suffices ! _ (ends_at 𝓛 f.ended left clauses y (slice_val (b, there) (end - start)) (record { ref_ptr = (b, there); ghost_name = δ; now = part }) (tt, (tt, (tt, tt))) (tt, (tt, (tt, tt)))) $
    nothing ! $ nothing ! $ nothing ! $ nothing ! $ group ! 4 $ join ! $ move ! (1 ∷ []) $ split ! $ nothing ! $ move ! (1 ∷ 0 ∷ 3 ∷ 2 ∷ []) $ join ! $ join ! $
    frame ! $ says ! refl $ done !)))))
