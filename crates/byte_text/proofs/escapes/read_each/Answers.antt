use Rattle.std.proofs.Common.{◌≡◌, ◌∙◌, ◌++◌, ◌∷◌, [], ℕ, List, Some, ap, sym, subst, append_assoc, append-nil, drop, ◌+◌, rules}
use Rattle.byte_text.specs.Escapes.{IsReading, bytes_left}
use Rattle.byte_text.specs.Text.{joined}
use Rattle.byte_text.specs.declared.escapes.Reading.{Reading}
use Rattle.byte_text.proofs.Steps.{gives_byte, goes_on, joined_start, puts_none, stops_here}
use Rattle.byte_text.proofs.escapes.read_each.Goals as goal
use Rattle.byte_text.proofs.escapes.read_each.Goals.{in-Goes, in-Byte+in_ok-push-in-Byte}

pub loop-c-init : goal.loop-c-init
loop-c-init g c = record { added = []; items = sym (append-nil c.args.bytes.now.items); left = joined_start _; small = tt }

pub returns-in-Refused : goal.returns-in-Refused
returns-in-Refused g c =
    let before = c.loop-c.invariant in
    puts_none _ c.args.bytes.now.items c.loop-c.bytes.items
    (stops_here c.args.text.now c.loop-c.c-index c.loop-c.reading before.added c.loop-c-test.true before.left c.in-Refused.ensures.value)

pub loop-c-preserved : goal.loop-c-preserved
loop-c-preserved g c =
    let before = c.loop-c.invariant in
    let text = c.args.text.now in
    let i = c.loop-c.c-index in
    elim c.match-step_at.branch [
      | in-Goes w ↦ record {
        added = before.added;
        items = ap (λ v. v.items) w.bytes-is ∙ before.items;
        left = goes_on text i c.loop-c.reading w.in-Goes.next before.added c.loop-c-test.true before.left w.in-Goes.ensures.value
            ∙ ap (λ (r : Reading). joined (Some before.added) (bytes_left r (drop (i + 1) text))) (sym w.reading-is);
        small = subst IsReading (sym w.reading-is) w.in-Goes.ensures.small;
      }
      | in-Byte+in_ok-push-in-Byte w ↦
          let pushed : c.match-step_at.bytes.items ≡ c.loop-c.bytes.items ++ (w.in-Byte.byte ∷ []) = search rules in
          record {
            added = before.added ++ w.in-Byte.byte ∷ [];
            items = pushed ∙ ap (λ (xs : List ℕ). xs ++ w.in-Byte.byte ∷ []) before.items ∙ append_assoc c.args.bytes.now.items before.added (w.in-Byte.byte ∷ []);
            left = gives_byte text i c.loop-c.reading w.in-Byte.byte before.added c.loop-c-test.true before.left w.in-Byte.ensures.value
                ∙ ap (λ (r : Reading). joined (Some (before.added ++ w.in-Byte.byte ∷ [])) (bytes_left r (drop (i + 1) text))) (sym w.reading-is);
            small = subst IsReading (sym w.reading-is) tt;
          }
    ]
