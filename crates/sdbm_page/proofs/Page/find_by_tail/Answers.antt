use Rattle.std.proofs.Common.{◌≡◌, ◌<◌, ◌+◌, ◌*◌, ℕ, get_or, [], length, slice_range, arith, sym, ap, ◌∙◌}
use Rattle.std.proofs.lemmas.List.{get_or_default}
use Rattle.sdbm_addr.proofs.PairLemmas.{found_at, passed_at}
use Rattle.sdbm_page.specs.Fields.{number_at}
use Rattle.sdbm_page.proofs.Reading.{holds}
use Rattle.sdbm_page.proofs.Parts.{end_at-later}
use Rattle.sdbm_page.proofs.Tailed.{lent_inside, lent_key}
use Rattle.sdbm_page.proofs.Page.find_by_tail.Goals as goal

pub key_start-requires : goal.key_start-requires
key_start-requires g c =
    let index = (lent_inside _ _ _ c.loop-i.i (holds _ _ _ c.self.view_is c.self.invariant) (omega arith) c.as_slice-bytes.ensures.value).index in
    omega arith

pub is_key-requires-clause-typed : goal.is_key-requires-clause-typed
is_key-requires-clause-typed g c = λ k. omega (arith, c.type_inv.key k)

pub is_key-requires-clause-order : goal.is_key-requires-clause-order
is_key-requires-clause-order g c =
    rw (c.key_start.ensures, c.loop-i.invariant.1) (lent_inside _ _ _ c.loop-i.i (holds _ _ _ c.self.view_is c.self.invariant) (omega arith) c.as_slice-bytes.ensures.value).key_fits

pub is_key-requires-clause-inside : goal.is_key-requires-clause-inside
is_key-requires-clause-inside g c =
    rw c.loop-i.invariant.1 (lent_inside _ _ _ c.loop-i.i (holds _ _ _ c.self.view_is c.self.invariant) (omega arith) c.as_slice-bytes.ensures.value).below_end

pub returns-then-is_key-clause-found : goal.returns-then-is_key-clause-found
returns-then-is_key-clause-found g c =
    let pairs = c.args.self.now.pairs in
    let below : c.loop-i.i < length c.args.self.now.pairs = omega arith in
    let key = lent_key _ _ _ c.loop-i.i c.key_start.result c.loop-i.end (holds _ _ _ c.self.view_is c.self.invariant) below c.as_slice-bytes.ensures.value c.key_start.ensures c.loop-i.invariant.1 in
    found_at pairs c.args.key.now c.loop-i.i (get_or pairs c.loop-i.i ([], [])) (slice_range c.as_slice-bytes.result.now c.key_start.result c.loop-i.end) below
    (get_or_default pairs c.loop-i.i ([], []) (get_or pairs c.loop-i.i ([], [])) below) key (sym c.is_key.ensures ∙ c.if-is_key.true) c.loop-i.invariant.0

pub value_start-end-requires : goal.value_start-end-requires
value_start-end-requires g c = (lent_inside _ _ _ c.loop-i.i (holds _ _ _ c.self.view_is c.self.invariant) (omega arith) c.as_slice-bytes.ensures.value).index

pub loop-i-preserved : goal.loop-i-preserved
loop-i-preserved g c =
    let pairs = c.args.self.now.pairs in
    let below : c.loop-i.i < length c.args.self.now.pairs = omega arith in
    let key = lent_key _ _ _ c.loop-i.i c.key_start.result c.loop-i.end (holds _ _ _ c.self.view_is c.self.invariant) below c.as_slice-bytes.ensures.value c.key_start.ensures c.loop-i.invariant.1 in
    let next : 4 * c.loop-i.i + 4 ≡ 4 * (c.loop-i.i + 1) = omega arith in (
      passed_at pairs c.args.key.now c.loop-i.i (get_or pairs c.loop-i.i ([], [])) (slice_range c.as_slice-bytes.result.now c.key_start.result c.loop-i.end) below
          (get_or_default pairs c.loop-i.i ([], []) (get_or pairs c.loop-i.i ([], [])) below) key (sym c.is_key.ensures ∙ c.if-is_key.false) c.loop-i.invariant.0,
      c.value_start-end.ensures ∙ ap (λ (n : ℕ). number_at c.as_slice-bytes.result.now n) next ∙ sym (end_at-later c.as_slice-bytes.result.now (c.loop-i.i + 1) (omega arith)),
    )
