use Rattle.std.proofs.Common.{⊎_elim, ◌+◌, ℕ, List, get_or, sym, subst}
use Rattle.sdbm_saves.specs.Redo.{file_of, offset_of, HasByte}
use Rattle.sdbm_saves.proofs.Knowing.{own_byte}
use Rattle.sdbm_log.proofs.Places.{none_in, all_gone}
use Rattle.sdbm_log.proofs.knowing.knows_file.Goals as goal

pub returns : goal.returns
returns c =
    let plan : List ℕ = c.args.plan.now in
    let bytes : List ℕ = c.args.bytes.now in
    let file = c.args.file in (
      λ empty change one touches i below.
          let at = offset_of change + i in
          ⊎_elim
          (λ lacks. ⊎_elim
          (λ left. absurd (none_in c.strike.new.places at (c.is_empty.ensures.0 empty) left))
          (λ has. subst (λ f. HasByte plan f at (get_or bytes at 0)) (sym touches) has)
          (c.strike.ensures.rest at lacks))
          (λ own. own_byte plan change one i below (get_or bytes at 0) own)
          (c.in_ok-places.ensures.all change one touches i below),
      λ knows. c.is_empty.ensures.1 (all_gone c.strike.new.places (λ at left.
          let gone = c.strike.ensures.only at left in
          let covers = c.in_ok-places.ensures.only at gone.0 in
          let has : HasByte plan (file_of covers.change) (offset_of covers.change + covers.inside.index) (get_or bytes (offset_of covers.change + covers.inside.index) 0) = knows covers.change covers.one covers.touches covers.inside.index covers.inside.covered in
          gone.1 (subst (λ p. HasByte plan file p (get_or bytes p 0)) covers.inside.place (subst (λ f. HasByte plan f (offset_of covers.change + covers.inside.index) (get_or bytes (offset_of covers.change + covers.inside.index) 0)) covers.touches has)))),
    )
