use Rattle.std.proofs.Common.{List, ℕ, refl, ap, subst, ◌∙◌}
use Rattle.std.specs.FinMap as map
use Rattle.sdbm_addr.specs.Database.{map_of}
use Rattle.dbm_records.specs.EachRuns.{RunsAll, keys_with}
use Rattle.dbm_records.proofs.each_run.run_program.Goals as goal

pub returns : goal.returns
returns c = record {
  after = c.in_ok-after.after;
  runs = subst (λ (keys : List (List ℕ)). RunsAll c.args.registry.now.programs c.args.prog c.args.words c.args.database keys c.in_ok-after.after)
      (c.as_slice-2.ensures.value ∙ c.in_ok-keys.ensures ∙ ap (λ (prefix : List ℕ). keys_with prefix (map.entries (map_of c.args.database))) c.as_slice.ensures)
      c.in_ok-after.ensures;
  status_is = refl;
  written = c.written.ensures;
}
