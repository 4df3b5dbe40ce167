-- The table of labels, line by line.
use Rattle.std.proofs.Common.{◌≡◌, ℕ, ◌+◌, ◌≤◌, ◌<◌, List, Option, Some, None, Bool, true, false, refl, sym, ◌∙◌, ap, arith, slice_get, MatchOption, nat_lt, unwrap_or, length, map, get_or}
use Rattle.std.specs.Option.{option_map}
use Rattle.std.proofs.lemmas.Option.{slice_get-map, slice_get-get_or, slice_get_within}
use Rattle.std.specs.Str.{bytes_eq}
use Rattle.std.specs.Map.{update}
use Rattle.std.proofs.lemmas.Bool.{ltb-true, ltb-false}
use Rattle.std.proofs.lemmas.Slice.Eq.{bytes_eq-Decides}
use Rattle.bpf_asm.specs.declared.labels.Definition.{Definition}
use Rattle.bpf_asm.specs.Lines.{Meaning, Blank, Mark, Plain, Aimed}
use Rattle.bpf_asm.specs.Denotes.{units_above, MarksAt}
use Rattle.bpf_asm.specs.Emitted.{Labels, definition_of, IsTableBelow, IsTableOf, Defines, Records}

-- the table's entry for a name stays correct after one more line that is not the label of this name
more_below : (ms : List (Option Meaning)) (n : ℕ) (name : List ℕ) (o : Option Definition) → (MarksAt ms name n → ⊥)
    → MatchOption o ((i : ℕ) → i < n → MarksAt ms name i → ⊥) (λ d. MarksAt ms name d.line × (d.unit ≡ units_above ms d.line))
    → MatchOption o ((i : ℕ) → i < n + 1 → MarksAt ms name i → ⊥) (λ d. MarksAt ms name d.line × (d.unit ≡ units_above ms d.line))
more_below ms n name (Some d) other h = h
more_below ms n name None other h = λ i below marks. by_test i marks (nat_lt i n) refl below where
  by_test : (i : ℕ) → MarksAt ms name i → (b : Bool) → nat_lt i n ≡ b → i < n + 1 → ⊥
  by_test i marks true e below = h i (ltb-true i n e) marks
  by_test i marks false e below = let same : i ≡ n = omega (arith, ltb-false i n e) in other (rw same at marks)

-- a line that is not a label changes nothing
keeps : (ms : List (Option Meaning)) (n : ℕ) (m : Option Meaning) (old new : Labels) → ((name : List ℕ) → m ≡ Some (Mark name) → ⊥) → slice_get ms n ≡ Some m → IsTableBelow ms n old → ((name : List ℕ) → definition_of new name ≡ definition_of old name) → IsTableBelow ms (n + 1) new
keeps ms n m old new other e table same name = rw (same name) (more_below ms n name (definition_of old name) (λ marks. other name (mark marks)) (table name)) where
  mark : MarksAt ms name n → m ≡ Some (Mark name)
  mark marks = cc

defines : (ms : List (Option Meaning)) (n : ℕ) (name : List ℕ) (old new : Labels) (d : Definition) → slice_get ms n ≡ Some (Some (Mark name)) → d.line ≡ n → d.unit ≡ units_above ms n → IsTableBelow ms n old → Defines old new name d → IsTableBelow ms (n + 1) new
defines ms n name old new d e line unit table def other = by_test (bytes_eq name other) refl where
  here : (o : Option Definition) → MatchOption o ((i : ℕ) → i < n → MarksAt ms name i → ⊥) (λ x. MarksAt ms name x.line × (x.unit ≡ units_above ms x.line)) → definition_of new name ≡ Some (unwrap_or o d)
      → MatchOption (definition_of new name) ((i : ℕ) → i < n + 1 → MarksAt ms name i → ⊥) (λ x. MarksAt ms name x.line × (x.unit ≡ units_above ms x.line))
  here (Some x) h f = rw f h
  here None h f = rw f (rw line e, rw line unit)

  by_test : (b : Bool) → bytes_eq name other ≡ b → MatchOption (definition_of new other) ((i : ℕ) → i < n + 1 → MarksAt ms other i → ⊥) (λ x. MarksAt ms other x.line × (x.unit ≡ units_above ms x.line))
  by_test true t = let same : other ≡ name = sym ((bytes_eq-Decides name other).0 t) in rw same (here (definition_of old name) (table name) def.own)
  by_test false t = rw (def.others other t) (more_below ms n other (definition_of old other) (λ marks. differ marks) (table other)) where
    differ : MarksAt ms other n → ⊥
    differ marks = let same : name ≡ other = cc in let u = (bytes_eq-Decides name other).1 same in cc

-- one more line
pub table_more : (ms : List (Option Meaning)) (n : ℕ) (m : Option Meaning) (old new : Labels) (d : Definition) → slice_get ms n ≡ Some m → d.line ≡ n → d.unit ≡ units_above ms n → IsTableBelow ms n old → Records old new m d → IsTableBelow ms (n + 1) new
table_more ms n None old new d e line unit table r = keeps ms n None old new (λ name h. cc) e table r
table_more ms n (Some Blank) old new d e line unit table r = keeps ms n (Some Blank) old new (λ name h. cc) e table r
table_more ms n (Some (Plain i)) old new d e line unit table r = keeps ms n (Some (Plain i)) old new (λ name h. cc) e table r
table_more ms n (Some (Aimed i x)) old new d e line unit table r = keeps ms n (Some (Aimed i x)) old new (λ name h. cc) e table r
table_more ms n (Some (Mark name)) old new d e line unit table r = defines ms n name old new d e line unit table r

-- the table below the last line is the whole table
pub table_whole : (ms : List (Option Meaning)) (n : ℕ) (labels : Labels) → length ms ≤ n → IsTableBelow ms n labels → IsTableOf ms labels
table_whole ms n labels end table name = whole (definition_of labels name) (table name) where
  whole : (o : Option Definition) → MatchOption o ((i : ℕ) → i < n → MarksAt ms name i → ⊥) (λ d. MarksAt ms name d.line × (d.unit ≡ units_above ms d.line))
      → MatchOption o ((i : ℕ) → MarksAt ms name i → ⊥) (λ d. MarksAt ms name d.line × (d.unit ≡ units_above ms d.line))
  whole (Some d) h = h
  whole None h = λ i marks. h i (let l = slice_get_within ms i (Some (Mark name)) marks in omega (arith, l)) marks

-- the view of a line
pub line_at : {X : Type 0} (view : X → Option Meaning) (xs : List X) (i : ℕ) (d : X) → i < length xs → slice_get (map view xs) i ≡ Some (view (get_or xs i d))
line_at view xs i d l = slice_get-map view xs i ∙ ap (option_map view) (slice_get-get_or xs i d l)

-- a new label was inserted
pub inserted : (old new : Labels) (name : List ℕ) (d : Definition) → definition_of old name ≡ None → ((other : List ℕ) → definition_of new other ≡ update bytes_eq (definition_of old) name (Some d) other) → Defines old new name d
inserted old new name d absent u = record {
  own = u name ∙ rw ((bytes_eq-Decides name name).1 refl) (rw absent refl);
  others = λ other e. u other ∙ rw e refl;
}

-- an existing label is unchanged
pub present : (old : Labels) (name : List ℕ) (d x : Definition) → definition_of old name ≡ Some x → Defines old old name d
present old name d x e = record { own = rw e refl; others = λ other h. refl }
