use Rattle.std.proofs.Common.{ℕ, List, [], ◌≡◌, ◌<◌, length, take, refl, sym, ap, ◌∙◌, subst, arith}
use Rattle.sdbm_addr.specs.Database.{Database}
use Rattle.sdbm_addr.specs.Pairs.{Pair}
use Rattle.sdbm_page.specs.Rewritten.{rewritten}
use Rattle.sdbm_files.specs.Installed.{content_at}
use Rattle.store_moves.specs.Leads.{FillsNone}
use Rattle.sdbm_files.proofs.Fitting.{fills_none}
use Rattle.store_moves.specs.Rewrites.{command_of}
use Rattle.store_moves.proofs.RunLemmas.{saves_is}
use Rattle.store_moves.proofs.Rewriting.{may_write, saved_so}
use Rattle.store_moves.proofs.in_place.run_input_in_place.Goals as goal

pub write_record-requires-clause-installable : goal.write_record-requires-clause-installable
write_record-requires-clause-installable g c =
    may_write c.args.image.now c.requires.database c.args.place (command_of c.args.input.now) c.args.input.now c.in-Some.copied c.run_copied.new.bytes refl c.requires.small c.requires.place c.in-Some.ensures
    (saves_is _ (sym c.in-Some.ensures.code_is ∙ c.if-copied-ne-SAVED.false))

pub returns-then-write_record-clause-done : goal.returns-then-write_record-clause-done
returns-then-write_record-clause-done g c =
    saved_so c.args.image.now c.requires.database c.args.place (command_of c.args.input.now) c.args.input.now c.in-Some.copied c.run_copied.new.bytes refl c.requires.small c.requires.place c.in-Some.ensures
    _ c.write_record.new.self (saves_is _ (sym c.in-Some.ensures.code_is ∙ c.if-copied-ne-SAVED.false)) refl (c.if-write_record.ensures.written refl)

-- a list with a valid index is not empty
has_some : (pairs : List Pair) (i : ℕ) → i < length pairs → pairs ≡ [] → ⊥
has_some pairs i inside none = let long : length pairs ≡ 0 = ap length none in omega arith

pub returns-then-write_record-clause-fills : goal.returns-then-write_record-clause-fills
returns-then-write_record-clause-fills g c =
    subst (λ (db : Database). FillsNone c.args.image.now db) (sym (c.if-write_record.ensures.written refl))
    (fills_none c.args.image.now c.args.place.page (rewritten (content_at c.args.image.now c.args.place.page) c.in-Some.copied.i (take c.in-Some.copied.len c.run_copied.new.bytes)) (has_some _ c.in-Some.copied.i c.in-Some.ensures.place.in_range))
