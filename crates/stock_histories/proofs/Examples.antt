-- A history that meets the premises of the law on leases: two grants, the second at the time at which the first ended.
use Rattle.std.proofs.Common.{ℕ, ◌≡◌, inl, inr, ◌<◌, refl, List, [], ◌∷◌, ◌++◌, replicate, Some, None, true, false, zero, suc, arith, lit<}
use Rattle.std.specs.FinMap as map
use Rattle.std.specs.Cmp.Lexicographic.{nat_list_cmp_total}
use Rattle.sdbm_addr.specs.declared.KeyBytes.{KeyBytes}
use Rattle.sdbm_addr.specs.declared.PageSize.TheVariants.{Small}
use Rattle.sdbm_addr.specs.Pairs.{Map, key_cmp}
use Rattle.bpf_helpers.specs.Runs.{Ends, AreBytes}
use Rattle.store_cmd.specs.declared.Command.TheVariants.{Run}
use Rattle.store_cmd.specs.declared.Reply.TheVariants.{Ran}
use Rattle.store_cmd.specs.declared.Entry.{Entry}
use Rattle.store_cmd.specs.Answers.{env_of}
use Rattle.store_cmd.specs.History.{History}
use Rattle.stock_programs.specs.Lease.{lease}
use Rattle.stock_programs.proofs.Forward.{found}
use Rattle.stock_histories.proofs.Projected.{zeros}
use Rattle.stock_histories.specs.Turns.{turns_of, HaveWords, IsRecord, IsAlone, NeverFalls}

abbrev key : List ℕ
key = 7 ∷ []

abbrev eight : ℕ → List ℕ
eight n = n ∷ replicate 7 0

-- The first owner asks for 5 seconds, and the second for 3.
abbrev first_entry : Entry (Unit {0})
first_entry = record { session = 1; command = Run key lease (eight 1 ++ eight 5) (Some 16) 10; reply = Ran 1 15 }

abbrev second_entry : Entry (Unit {0})
second_entry = record { session = 2; command = Run key lease (eight 2 ++ eight 3) (Some 16) 15; reply = Ran 1 18 }

abbrev start_map : Map
start_map = map.empty

abbrev mid_map : Map
mid_map = map.insert start_map key (eight 1 ++ eight 15)

abbrev end_map : Map
end_map = map.insert mid_map key (eight 2 ++ eight 18)

first_runs : Ends lease (replicate 16 0) (eight 1 ++ eight 5) (env_of 10 false 1) (record { code = 1; word = 15; bytes = eight 1 ++ eight 15; steps = 18 })
first_runs = found 18 lease (replicate 16 0) (eight 1 ++ eight 5) (env_of 10 false 1) _ refl

second_runs : Ends lease (eight 1 ++ eight 15) (eight 2 ++ eight 3) (env_of 15 true 2) (record { code = 1; word = 18; bytes = eight 2 ++ eight 18; steps = 18 })
second_runs = found 18 lease (eight 1 ++ eight 15) (eight 2 ++ eight 3) (env_of 15 true 2) _ refl

absent : map.get start_map key ≡ None
absent = map.get-empty key_cmp key

there : map.get mid_map key ≡ Some (eight 1 ++ eight 15)
there = map.get-insert nat_list_cmp_total start_map key (eight 1 ++ eight 15) key

legal : (kind : KeyBytes) → History Small kind start_map (first_entry ∷ second_entry ∷ []) end_map
legal kind = (
  mid_map,
  (
    (
      (omega arith, omega arith),
      inr (record {
        outcome = _;
        runs = record { absent = absent; len = 16; blank_is = refl; ends = first_runs };
        code_is = refl;
        word_is = refl;
        map_is = refl;
      }),
    ),
    (
      end_map,
      (((omega arith, omega arith), inl (record { value = _; there = there; outcome = _; ends = second_runs; code_is = refl; word_is = refl; map_is = refl })), refl),
    ),
  ),
)

sound : IsRecord (map.get start_map key)
sound value is = let no : None ≡ Some value = rw absent at is in absurd cc

turns : turns_of key (first_entry ∷ second_entry ∷ []) ≡ record { session = 1; argument = eight 1 ++ eight 5; now = 10; code = 1; word = 15 } ∷ record { session = 2; argument = eight 2 ++ eight 3; now = 15; code = 1; word = 18 } ∷ []
turns = refl

times : NeverFalls 0 (turns_of key (first_entry ∷ second_entry ∷ []))
times = (omega arith, (omega arith, tt))

one_more : (x : ℕ) (xs : List ℕ) → x < 256 → AreBytes xs → AreBytes (x ∷ xs)
one_more x xs h rest zero = h
one_more x xs h rest (suc i) = rest i

more_zeros : (n : ℕ) (xs : List ℕ) → AreBytes xs → AreBytes (replicate n 0 ++ xs)
more_zeros zero xs rest = rest
more_zeros (suc n) xs rest = one_more 0 (replicate n 0 ++ xs) (lit< tt) (more_zeros n xs rest)

argument : (a b : ℕ) → a < 256 → b < 256 → AreBytes (eight a ++ eight b)
argument a b h k = one_more a (replicate 7 0 ++ eight b) h (more_zeros 7 (eight b) (one_more b (replicate 7 0) k (zeros 7)))

words : HaveWords (first_entry ∷ second_entry ∷ [])
words = ((argument 1 5 (lit< tt) (lit< tt), lit< tt), (lit< tt, ((argument 2 3 (lit< tt) (lit< tt), lit< tt), (lit< tt, tt))))

premises : (kind : KeyBytes) → IsAlone lease Small kind start_map (first_entry ∷ second_entry ∷ []) end_map key
premises kind = record { legal = legal kind; start = sound; words = words; alone = (λ same. refl, (λ same. refl, tt)) }
