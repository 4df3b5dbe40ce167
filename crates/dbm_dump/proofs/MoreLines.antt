-- Reading lines in sequence.
use Rattle.std.proofs.Common.{◌≡◌, ℕ, List, [], ◌∷◌, ◌++◌, Option, Some, None, refl, sym, ap, ◌∙◌, append_assoc}
use Rattle.std.proofs.lemmas.List.{append-nil}
use Rattle.std.proofs.lemmas.Option.{same_Some, none-some}
use Rattle.sdbm_addr.specs.Pairs.{Pair}
use Rattle.dbm_dump.specs.declared.stage.Stage.{Stage}
use Rattle.dbm_dump.specs.declared.stage.Next.{Next}
use Rattle.dbm_dump.specs.Steps.{line_step}
use Rattle.dbm_dump.specs.Reading.{Read, before_read, pair_list, read, read_on, read_so}

-- reading the next line
one_line : (stage : Stage) (line : List ℕ) (r : Read) (n : Next) → read_so [] stage ≡ r → line_step r.stage line ≡ Some n
    → read stage (line ∷ []) ≡ Some (read_so (r.pairs ++ pair_list n.pair) n.stage)
one_line stage line r n is steps =
    let here : line_step stage line ≡ Some n = ap (λ (q : Read). line_step q.stage line) is ∙ steps in
    ap (λ (o : Option Next). read_on o (λ s. read s [])) here
    ∙ ap Some (ap (λ (es : List Pair). read_so es n.stage) (append-nil (pair_list n.pair) ∙ ap (λ (q : Read). q.pairs ++ pair_list n.pair) is))

behind_one : (pair : Option Pair) (mid : Stage) (o : Option Read) (lines : List (List ℕ)) (line : List ℕ) (r : Read) (n : Next) → read mid lines ≡ o → before_read pair o ≡ Some r
    → line_step r.stage line ≡ Some n
    → ((q : Read) → read mid lines ≡ Some q → line_step q.stage line ≡ Some n → read mid (lines ++ line ∷ []) ≡ Some (read_so (q.pairs ++ pair_list n.pair) n.stage))
    → before_read pair (read mid (lines ++ line ∷ [])) ≡ Some (read_so (r.pairs ++ pair_list n.pair) n.stage)
behind_one pair mid None lines line r n is gives steps more = absurd (none-some r gives)
behind_one pair mid (Some q) lines line r n is gives steps more =
    let same : read_so (pair_list pair ++ q.pairs) q.stage ≡ r = same_Some _ r gives in
    let next : line_step q.stage line ≡ Some n = ap (λ (x : Read). line_step x.stage line) same ∙ steps in
    ap (before_read pair) (more q is next)
    ∙ ap (λ (es : List Pair). Some (read_so es n.stage)) (sym (append_assoc (pair_list pair) q.pairs (pair_list n.pair)) ∙ ap (λ (x : Read). x.pairs ++ pair_list n.pair) same)

on_first : (o : Option Next) (lines : List (List ℕ)) (line : List ℕ) (r : Read) (n : Next) → read_on o (λ s. read s lines) ≡ Some r → line_step r.stage line ≡ Some n
    → ((mid : Stage) (q : Read) → read mid lines ≡ Some q → line_step q.stage line ≡ Some n → read mid (lines ++ line ∷ []) ≡ Some (read_so (q.pairs ++ pair_list n.pair) n.stage))
    → read_on o (λ s. read s (lines ++ line ∷ [])) ≡ Some (read_so (r.pairs ++ pair_list n.pair) n.stage)
on_first None lines line r n gives steps more = absurd (none-some r gives)
on_first (Some m) lines line r n gives steps more = behind_one m.pair m.stage (read m.stage lines) lines line r n refl gives steps (more m.stage)

-- reading one more line
pub read_more : (start : Stage) (done : List (List ℕ)) (line : List ℕ) (r : Read) (n : Next) → read start done ≡ Some r → line_step r.stage line ≡ Some n
    → read start (done ++ line ∷ []) ≡ Some (read_so (r.pairs ++ pair_list n.pair) n.stage)
read_more start [] line r n is steps = one_line start line r n (same_Some _ r is) steps
read_more start (l ∷ ls) line r n is steps = on_first (line_step start l) ls line r n is steps (λ mid q. read_more mid ls line q n)
