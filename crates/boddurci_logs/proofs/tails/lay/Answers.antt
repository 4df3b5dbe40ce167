use Rattle.std.proofs.Common.{◌≡◌, List, ℕ, refl, sym, subst, arith, inl}
use Rattle.boddurci_handles.specs.declared.status.Status.TheVariants.{Done, BadFiles, TooLong}
use Rattle.sdbm_saves.specs.Disk.{resized}
use Rattle.sdbm_saves.specs.Redo.{new_length, renewed}
use Rattle.sdbm_tail.specs.Tail.{IsPartFrom}
use Rattle.boddurci_logs.proofs.tails.lay.Goals as goal

pub returns-then-lay_part : goal.returns-then-lay_part
returns-then-lay_part c =
    let plan : List ℕ = c.args.plan.now in
    let which = c.data_file-which.ensures.is in
    record {
      done = λ is. (
        c.if-not-is_plan.ensures.0 refl,
        λ old part. subst (λ f. IsPartFrom c.args.from c.lay_part.new.part (renewed f plan old)) which
            (c.lay_part.ensures.laid old (subst (λ f. IsPartFrom c.args.from c.args.part.now (resized (new_length f plan) old)) (sym which) part)),
      );
      long = c.lay_part.ensures.same_length;
      same = λ none. absurd (omega (arith, none));
      untouched = λ isnt. absurd (isnt refl);
      refused = λ is. absurd (let wrong : Done ≡ BadFiles = is in cc);
      too_long = λ is. absurd (let wrong : Done ≡ TooLong = is in cc);
      only = inl refl;
    }

pub returns-else-lay_part : goal.returns-else-lay_part
returns-else-lay_part c =
    let plan : List ℕ = c.args.plan.now in
    let which = c.data_file-which.ensures.is in
    record {
      done = λ is. (
        c.if-not-is_plan.ensures.0 refl,
        λ old part. subst (λ f. IsPartFrom c.args.from c.lay_part.new.part (renewed f plan old)) which
            (c.lay_part.ensures.laid old (subst (λ f. IsPartFrom c.args.from c.args.part.now (resized (new_length f plan) old)) (sym which) part)),
      );
      long = c.lay_part.ensures.same_length;
      same = λ none. c.lay_part.ensures.untouched c.if-lay_part.false;
      untouched = λ isnt. absurd (isnt refl);
      refused = λ is. absurd (let wrong : Done ≡ BadFiles = is in cc);
      too_long = λ is. absurd (let wrong : Done ≡ TooLong = is in cc);
      only = inl refl;
    }
