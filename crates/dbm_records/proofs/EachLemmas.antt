-- Runs of one program on the records of several keys.
use Rattle.std.proofs.Common.{◌≡◌, ℕ, ◌+◌, ◌<◌, nat_eq, List, [], ◌∷◌, ◌++◌, length, take, get_or, Bor, Bool, true, false, not, Option, Some, is_some, inl, inr, map as map_list, refl, sym, ap, subst, ◌∙◌}
use Rattle.std.proofs.lemmas.List.{map_more, map-append, take_more}
use Rattle.std.proofs.lemmas.List.Elements.{filter-append}
use Rattle.std.proofs.lemmas.Option.{same_Some}
use Rattle.std.specs.List.{filter, starts_with}
use Rattle.std.specs.Prelude.{slice_get}
use Rattle.sdbm_addr.specs.Database.{Database}
use Rattle.sdbm_addr.specs.Pairs.{Pair}
use Rattle.sdbm_files.specs.Lent.{pair_lent, pairs_lent}
use Rattle.bpf_verify.specs.Verified.{Accepted}
use Rattle.dbm_records.specs.declared.each_run.EachWords.{EachWords}
use Rattle.dbm_reports.specs.declared.report.Report.{Report}
use Rattle.dbm_records.specs.EachRuns.{RunsAll, RunsCode, RunsEach, RunsInTurn, RunsOne, keys_with, written_by}

-- the default past the end of a list of borrowed pairs
abbrev pub nothing_lent : Bor (List ℕ) × Bor (List ℕ)
nothing_lent = (record { ref_ptr = (0, 0); now = [] }, record { ref_ptr = (0, 0); now = [] })

keys_with-append : (prefix : List ℕ) (xs ys : List Pair) → keys_with prefix (xs ++ ys) ≡ keys_with prefix xs ++ keys_with prefix ys
keys_with-append prefix xs ys =
    ap (map_list (λ (e : Pair). e.0)) (filter-append (λ (e : Pair). starts_with nat_eq e.0 prefix) xs ys)
    ∙ map-append (λ (e : Pair). e.0) (filter (λ (e : Pair). starts_with nat_eq e.0 prefix) xs) (filter (λ (e : Pair). starts_with nat_eq e.0 prefix) ys)

-- the keys of one more pair
pub keys_more : (prefix : List ℕ) (lent : List (Bor (List ℕ) × Bor (List ℕ))) (i : ℕ) (d : Bor (List ℕ) × Bor (List ℕ)) → i < length lent
    → keys_with prefix (pairs_lent (take (i + 1) lent)) ≡ keys_with prefix (pairs_lent (take i lent)) ++ keys_with prefix (pair_lent (get_or lent i d) ∷ [])
keys_more prefix lent i d h =
    ap (keys_with prefix) (map_more pair_lent lent i d h) ∙ keys_with-append prefix (pairs_lent (take i lent)) (pair_lent (get_or lent i d) ∷ [])

RunsAll-append : (programs : List Accepted) (prog : ℕ) (words : EachWords) (db mid after : Database) (keys more : List (List ℕ)) → RunsAll programs prog words db keys mid → RunsAll programs prog words mid more after
    → RunsAll programs prog words db (keys ++ more) after
RunsAll-append programs prog words db mid after [] more p q = subst (λ (d : Database). RunsAll programs prog words d more after) p q
RunsAll-append programs prog words db mid after (key ∷ keys) more p q = (p.0, (p.1.0, RunsAll-append programs prog words p.0 mid after keys more p.1.1 q))

-- one more run
pub runs_more : (programs : List Accepted) (prog : ℕ) (words : EachWords) (db mid after : Database) (keys : List (List ℕ)) (i : ℕ) (d : List ℕ) → i < length keys
    → RunsAll programs prog words db (take i keys) mid → RunsOne programs prog words mid (get_or keys i d) after → RunsAll programs prog words db (take (i + 1) keys) after
runs_more programs prog words db mid after keys i d h all one =
    subst (λ (ks : List (List ℕ)). RunsAll programs prog words db ks after) (sym (take_more keys i d h))
    (RunsAll-append programs prog words db mid after (take i keys) (get_or keys i d ∷ []) all (after, (one, refl)))

-- all runs are of the program with that number
pub in_turn : (programs : List Accepted) (prog : ℕ) (p : Accepted) (words : EachWords) (db after : Database) (keys : List (List ℕ)) → slice_get programs prog ≡ Some p → RunsAll programs prog words db keys after
    → RunsInTurn p.code words db keys after
in_turn programs prog p words db after [] is all = all
in_turn programs prog p words db after (key ∷ keys) is all = (
  all.0,
  (
    subst (λ (q : Accepted). RunsCode q.code words db key all.0) (same_Some all.1.0.0 p (sym all.1.0.1.0 ∙ is)) all.1.0.1.1,
    in_turn programs prog p words all.0 after keys is all.1.1,
  ),
)

written_some : (is_dry : Bool) (db : Database) → is_some (written_by is_dry db) ≡ not is_dry
written_some true db = refl
written_some false db = refl

-- the files are written unless the run is dry
pub each_written : (before : Database) (words : EachWords) (image : List ℕ) (is_dry : Bool) (report : Report) → RunsEach before words image is_dry report → is_some report.database ≡ not is_dry
each_written before words image is_dry report (inl h) = ap (λ (db : Option Database). is_some db) h.written ∙ written_some is_dry h.after
each_written before words image is_dry report (inr h) = ap (λ (db : Option Database). is_some db) h.1.1.written ∙ written_some is_dry before
