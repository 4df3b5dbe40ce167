use Rattle.std.proofs.Common.{ℕ, List, subst}
use Rattle.store_moves.specs.Leads.{IsPlaceOf}
use Rattle.store_moves.specs.Works.{key_of}
use Rattle.store_moves.proofs.Acting.{workable}
use Rattle.boddurci_handles.proofs.job.Job.ask.Goals as goal

pub invariant_of-result : goal.invariant_of-result
invariant_of-result c =
    let p = c.place-place.ensures in
    let leads : IsPlaceOf c.args.image.now (key_of c.args.command) c.place-place.result = subst (λ (key : List ℕ). IsPlaceOf c.args.image.now key c.place-place.result) c.key_in.ensures (record { depth = p.depth; shallow = p.shallow; low_bits = p.low_bits; bit = p.bit }) in
    record {
      workable = workable c.args.image.now p.database c.place-place.result c.key_bytes-kind.result c.in_ok-page.page.size c.in_ok-page.page.pairs c.args.command c.requires.keyed c.requires.small c.key_bytes-kind.ensures leads
          c.in_ok-page.ensures.size c.in_ok-page.ensures.pairs;
      done = tt;
    }
