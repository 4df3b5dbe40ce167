use Rattle.std.proofs.Common.{◌≡◌, ◌∷◌, ◌++◌, [], map, ap, sym, ◌∙◌, refl, rules}
use Rattle.prog_registry.specs.Registry.{Registered}
use Rattle.dbm_script.specs.Pieces.{pieces_of, pieces_left}
use Rattle.dbm_script.specs.Script.{RunsLines, RunsScript, stage}
use Rattle.dbm_script.specs.Shorthand.{spelled_text, spelled_line}
use Rattle.dbm_script.specs.declared.shorthand.LineKind.TheVariants.{OfScript}
use Rattle.dbm_script.proofs.LinesStay.{lines_stay, spelled_first}
use Rattle.dbm_script.proofs.Runs.{IsScriptRun-from, next_done, one_more}
use Rattle.dbm_script.proofs.script.run_spelled.Goals as goal

pub loop-rest-init : goal.loop-rest-init
loop-rest-init g c = record {
  done = [];
  lines = sym (lines_stay OfScript c.args.time c.args.input.now);
  told = [];
  ran = (c.new-text.ensures.items, ap (λ (r : Registered). stage c.args.image r.programs) c.in_ok-registry.ensures);
  short = search rules;
  kind = refl;
  size = refl;
}

pub loop-rest-preserved : goal.loop-rest-preserved
loop-rest-preserved g c =
    let before = c.loop-rest.invariant in
    let f = spelled_line OfScript c.args.time in
    let line = c.as_slice.result.now in
    let is : f c.first_piece.result.0.now ≡ line = search rules in
    let next = spelled_first f c.loop-rest.rest c.first_piece.result.1 _ _ line c.in-Some.is c.first_piece.ensures is in
    let kept = c.in_ok-is_command.ensures.kept in
    let adds = c.in_ok-is_command.ensures.answer in
    record {
      done = before.done ++ line ∷ [];
      lines = next_done before.done line _ _ _ before.lines next;
      told = before.told ++ adds.holds.0;
      ran = one_more g.row.A.Denot c.args.notation.now (stage c.args.image []) _ _ before.done line before.told _ _ before.ran adds;
      short = search rules;
      kind = kept.0 ∙ before.kind;
      size = kept.1 ∙ before.size;
    }

pub returns-then-len-most-clause-long : goal.returns-then-len-most-clause-long
returns-then-len-most-clause-long g c = λ _.
    let before = c.loop-rest.invariant in
    let f = spelled_line OfScript c.args.time in
    let line = c.as_slice.result.now in
    let is : f c.first_piece.result.0.now ≡ line = search rules in
    let next = spelled_first f c.loop-rest.rest c.first_piece.result.1 _ _ line c.in-Some.is c.first_piece.ensures is in
    let adds = c.in_ok-is_command.ensures.answer in
    record {
      first = before.done ++ line ∷ [];
      others = map f (pieces_left 10 c.first_piece.result.1);
      lines = next_done before.done line _ _ _ before.lines next;
      told = before.told ++ adds.holds.0;
      text = c.answer_line.new.text.items;
      after = stage c.answer_line.new.image c.answer_line.new.registry.programs;
      ran = one_more g.row.A.Denot c.args.notation.now (stage c.args.image []) _ _ before.done line before.told _ _ before.ran adds;
      long = search rules;
    }

pub returns-clause-runs : goal.returns-clause-runs
returns-clause-runs g c =
    let before = c.loop-rest.invariant in
    let input = spelled_text OfScript c.args.time c.args.input.now in
    let all : RunsLines g.row.A.Denot c.args.notation.now (stage c.args.image []) (pieces_of 10 input) before.told c.loop-rest.text.items (stage c.loop-rest.image c.loop-rest.registry.programs) = search rules in
    let runs : RunsScript g.row.A.Denot c.args.notation.now c.args.image input before.told c.loop-rest.text.items c.loop-rest.image = (c.loop-rest.registry.programs, all) in
    IsScriptRun-from g.row.A.Denot c.args.notation.now c.args.image input before.told c.loop-rest.text.items c.loop-rest.image runs
