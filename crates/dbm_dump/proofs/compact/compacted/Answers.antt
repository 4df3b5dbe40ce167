use Rattle.std.proofs.Common.{inl, refl, rules}
use Rattle.dbm_dump.proofs.compact.compacted.Goals as goal

pub returns-in_ok-show_ok-in-Some : goal.returns-in_ok-show_ok-in-Some
returns-in_ok-show_ok-in-Some c = inl (record {
  after = c.in-Some.new;
  stores = search rules;
  text_is = search rules;
  status_is = refl;
  written = refl;
})
