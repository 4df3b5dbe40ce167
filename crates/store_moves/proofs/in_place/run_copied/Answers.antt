use Rattle.std.proofs.Common.{List, refl, length, sym, ap, ◌∙◌, subst}
use Rattle.std.proofs.lemmas.List.{take_at}
use Rattle.sdbm_addr.specs.Pairs.{Pair, IsPlace, value_at}
use Rattle.sdbm_addr.specs.Database.{pairs_at}
use Rattle.bpf_helpers.specs.Runs.{Outcome}
use Rattle.store_moves.specs.Works.{pairs_lent}
use Rattle.store_moves.proofs.Rewriting.{copied_so}
use Rattle.store_moves.proofs.in_place.run_copied.Goals as goal

pub returns : goal.returns
returns g c =
    let o : Outcome = record { code = c.run-ended.result.code; word = c.run-ended.result.word; bytes = c.run-ended.new.bytes; steps = c.run-ended.result.steps } in
    let same = sym (ap pairs_lent c.in-Some.ensures.page) ∙ c.page_at.ensures.pairs in
    let value = c.record-value.ensures ∙ ap (λ (ps : List Pair). value_at ps c.in-Some.i) same in
    let place = subst (λ (ps : List Pair). IsPlace ps c.args.input.now.key.now c.in-Some.i) same c.in-Some.ensures.place in
    copied_so (pairs_at c.args.image.now c.args.number) c.args.input.now _ _ _ c.env_of-env.result o place (ap length value) refl refl
    (take_at c.copy_from_slice.new.self _ (length c.record-value.result.now) (ap length c.copy_from_slice.ensures.after) ∙ c.copy_from_slice.ensures.after ∙ value) c.env_of-env.ensures c.run-ended.ensures.meaning c.run-ended.ensures.bound
