use Rattle.std.proofs.Common.{◌≡◌, ◌∙◌, ◌<◌, ◌≤◌, List, ℕ, Ok, length, map, sym, ap, subst, arith}
use Rattle.std.specs.Simd.Lanes.{Each1, chunk}
use Rattle.std.proofs.lemmas.List.{length-map, take_all}
use Rattle.std.proofs.lemmas.Simd.{Each1-from_get_or, put_chunk_whole}
use Rattle.dbm_script.specs.Digits.{joined_digits, lane_value}
use Rattle.dbm_script.proofs.HexPairs.{decode_lanes, lanes_unread}
use Rattle.dbm_script.proofs.Vectors.{length-joined, mask_by_small, small_by_mask}
use Rattle.dbm_script.proofs.digits.decode_eight.Goals as goal

pub returns-then-digits-ne0-clause-none : goal.returns-then-digits-ne0-clause-none
returns-then-digits-ne0-clause-none c = λ _.
    let text = c.args.text.now in
    let digits = c.values-digits.result in
    let whole : chunk 0 16 text ≡ text = take_all 16 text (omega (arith, c.requires.text)) in
    let is : digits ≡ map lane_value text = c.values-digits.ensures ∙ ap (map lane_value) whole in
    let long : length digits ≡ 16 = ap length is ∙ length-map text lane_value ∙ c.requires.text in
    let fits : Each1 (λ (b : ℕ). b < 256) text = Each1-from_get_or (λ (b : ℕ). b < 256) text 0 (λ i l. omega (arith, c.type_inv.text i)) in
    lanes_unread text fits (λ small. c.if-digits-ne0.true (mask_by_small digits long (subst (λ (v : List ℕ). Each1 (λ (x : ℕ). x ≤ 15) v) (sym is) small)))

pub returns-clause-bytes : goal.returns-clause-bytes
returns-clause-bytes c = λ _.
    let text = c.args.text.now in
    let digits = c.values-digits.result in
    let whole : chunk 0 16 text ≡ text = take_all 16 text (omega (arith, c.requires.text)) in
    let is : digits ≡ map lane_value text = c.values-digits.ensures ∙ ap (map lane_value) whole in
    let long : length digits ≡ 16 = ap length is ∙ length-map text lane_value ∙ c.requires.text in
    let fits : Each1 (λ (b : ℕ). b < 256) text = Each1-from_get_or (λ (b : ℕ). b < 256) text 0 (λ i l. omega (arith, c.type_inv.text i)) in
    let small : Each1 (λ (x : ℕ). x ≤ 15) (map lane_value text) = subst (λ (v : List ℕ). Each1 (λ (x : ℕ). x ≤ 15) v) is (small_by_mask digits long c.if-digits-ne0.false) in
    let eight : length c.pairs.result ≡ 8 = ap length c.pairs.ensures ∙ length-joined digits long in
    decode_lanes 0 8 text c.requires.text fits small
    ∙ ap (λ (v : List ℕ). Ok (joined_digits v)) (sym is)
    ∙ ap Ok (sym c.pairs.ensures ∙ sym (put_chunk_whole c.args.out.now c.pairs.result (c.requires.out ∙ sym eight)))
