use Rattle.std.proofs.Common.{◌≡◌, ◌∙◌, ◌++◌, ◌∷◌, [], List, ℕ, ◌+◌, ◌<◌, ◌^◌, length, length-append, append_assoc, Bool, ap, sym, subst, rules, arith}
use Rattle.dbm_script.specs.Pieces.{pieces_left}
use Rattle.dbm_script.specs.Tasks.{AddsTask, AskTasks}
use Rattle.dbm_script.specs.declared.run_words.RunWords.{RunWords}
use Rattle.dbm_script.proofs.TaskLines.{AskTasks-append, lines_before}
use Rattle.dbm_script.proofs.tasks.read_tasks.Goals as goal

pub overflow_add-number : goal.overflow_add-number
overflow_add-number g c =
    let before = c.loop-rest.invariant in
    let left : pieces_left 10 c.loop-rest.rest ≡ _ = ap (pieces_left 10) c.in-Some.is ∙ c.first_piece.ensures in
    let most = lines_before c.args.input.now c.first_piece.result.0.now before.done (pieces_left 10 c.first_piece.result.1) (ap (λ (lines : List (List ℕ)). before.done ++ lines) (sym left) ∙ before.lines) in
    let counted = before.counted in
    let small : length c.args.input.now < 2 ^ 63 = search rules in
    omega arith

pub loop-rest-preserved : goal.loop-rest-preserved
loop-rest-preserved g c =
    let before = c.loop-rest.invariant in
    let line = c.first_piece.result.0.now in
    let after = c.first_piece.result.1 in
    let left : pieces_left 10 c.loop-rest.rest ≡ line ∷ pieces_left 10 after = ap (pieces_left 10) c.in-Some.is ∙ c.first_piece.ensures in
    let adds = subst (λ (good : Bool). AddsTask g.row.A.Denot c.args.notation.now line good c.loop-rest.tasks.items c.add_task.new.tasks.items) c.if-not-branch.false c.in_ok-add_task.ensures in
    record {
      done = before.done ++ line ∷ [];
      lines = append_assoc before.done (line ∷ []) (pieces_left 10 after) ∙ ap (λ (lines : List (List ℕ)). before.done ++ lines) (sym left) ∙ before.lines;
      counted = ap (λ (n : ℕ). n + 1) before.counted ∙ sym (length-append before.done (line ∷ []));
      asked = subst (λ (tasks : List (RunWords g.row.A.Denot)). AskTasks g.row.A.Denot c.args.notation.now (before.done ++ line ∷ []) tasks) (sym adds.1.1)
          (AskTasks-append g.row.A.Denot c.args.notation.now before.done (line ∷ []) c.loop-rest.tasks.items adds.0 before.asked adds.1.0);
    }
