use Rattle.std.proofs.Common.{List, ℕ, subst, inl}
use Rattle.boddurci_c.specs.Calls.{IsCopied}
use Rattle.boddurci_c.proofs.page.plan_page.Goals as goal

pub returns : goal.returns
returns c =
    inl (record {
      numbers = c.in-Some.written.items;
      plan = c.in-Some.plan;
      is = c.in-Some.ensures;
      first = c.copy_out-first.result;
      second = c.copy_out.result;
      numbers_are = subst (λ (l : List ℕ). IsCopied l c.args.numbers.now c.copy_out-first.new.room c.copy_out-first.new.len c.copy_out-first.result) c.as_slice.ensures.value c.copy_out-first.ensures;
      plan_is = subst (λ (l : List ℕ). IsCopied l c.args.room.now c.copy_out.new.room c.copy_out.new.len c.copy_out.result) c.bytes_in.ensures c.copy_out.ensures;
      done = c.both_done.ensures.done;
      says = c.both_done.ensures.says;
    })
