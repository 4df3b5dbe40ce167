use Rattle.std.proofs.Common.{◌≡◌, [], inl, inr, refl, sym, subst, true, nat_eq, codes, List, ℕ}
use Rattle.std.specs.List.{starts_with}
use Rattle.dbm_session.specs.Sessions.{IsOwnProgram}
use Rattle.dbm_session.proofs.Turns.{Logs-from, Logs-same}
use Rattle.dbm_session.proofs.running.answer_own.Goals as goal

pub returns-in-Shown-clause-answers : goal.returns-in-Shown-clause-answers
returns-in-Shown-clause-answers g c = record { calls = []; answers = inl (refl, refl); kept = Logs-same _ _ c.in_ok-answer_own.ensures.same }

pub returns-in_ok-answer_scripted-in-Line-clause-answers : goal.returns-in_ok-answer_scripted-in-Line-clause-answers
returns-in_ok-answer_scripted-in-Line-clause-answers g c =
    let program : starts_with nat_eq c.in-Line.line.items (codes "program ") ≡ true = subst IsOwnProgram c.in-Line.is c.in_ok-answer_own.ensures.line in
    let one = c.in_ok-answer_scripted-in-Line.ensures.answers in
    record {
      calls = one.calls;
      answers = inr (record {
        line = c.as_slice.result.now;
        is_program = subst (λ (l : List ℕ). starts_with nat_eq l (codes "program ") ≡ true) (sym c.as_slice.ensures.value) program;
        answers = one.answers;
      });
      kept = Logs-from (g.H.Host.log c.args.host.now) _ _ one.calls c.in_ok-answer_own.ensures.same one.kept;
    }
