use Rattle.std.proofs.Common.{◌≡◌, ◌≤◌, ◌^◌, length, take, arith, sym, ◌∙◌}
use Rattle.std.proofs.lemmas.Bool.{true≢false}
use Rattle.std.proofs.lemmas.List.{length-take-le}
use Rattle.sdbm_dir.proofs.FileLemmas.{end_shallow, take_end, IsBitmap-same, SpellsDirectory-same, SpellsDirectory-unique, no_directory}
use Rattle.sdbm_dir.specs.declared.DirFault.TheVariants.{TooDeep, DirOrphan}
use Rattle.sdbm_dir.proofs.Dir.from_bytes.Goals as goal

pub returns-then-has_deep_bit-clause-none : goal.returns-then-has_deep_bit-clause-none
returns-then-has_deep_bit-clause-none g c = no_directory c.args.bytes.now TooDeep (c.has_deep_bit.ensures.0 c.if-has_deep_bit.true)

pub returns-then-has_orphan_bit-clause-none : goal.returns-then-has_orphan_bit-clause-none
returns-then-has_orphan_bit-clause-none g c =
    no_directory c.args.bytes.now DirOrphan (λ d. true≢false (sym (c.has_deep_bit.ensures.1 d) ∙ c.if-has_deep_bit.false), c.has_orphan_bit.ensures.0 c.if-has_orphan_bit.true)

pub has_orphan_bit-requires-clause-short : goal.has_orphan_bit-requires-clause-short
has_orphan_bit-requires-clause-short g c =
    end_shallow c.args.bytes.now c.end_of-end.result (λ k. omega (arith, c.type_inv.bytes k)) c.end_of-end.ensures (λ d. true≢false (sym (c.has_deep_bit.ensures.1 d) ∙ c.if-has_deep_bit.false))

pub whole_blocks-requires : goal.whole_blocks-requires
whole_blocks-requires g c =
    let short : c.end_of-end.result ≤ 2 ^ 28
    = end_shallow c.args.bytes.now c.end_of-end.result (λ k. omega (arith, c.type_inv.bytes k)) c.end_of-end.ensures (λ d. true≢false (sym (c.has_deep_bit.ensures.1 d) ∙ c.if-has_deep_bit.false)) in
    let long : length (take c.end_of-end.result c.args.bytes.now) ≡ c.end_of-end.result = length-take-le c.end_of-end.result c.args.bytes.now c.end_of-end.ensures.within in
    omega arith

pub invariant_of-result : goal.invariant_of-result
invariant_of-result g c =
    IsBitmap-same c.args.bytes.now c.in-Ok.bits.items record {
      shallow = λ d. true≢false (sym (c.has_deep_bit.ensures.1 d) ∙ c.if-has_deep_bit.false);
      closed = λ o. true≢false (sym (c.has_orphan_bit.ensures.1 o) ∙ c.if-has_orphan_bit.false);
    } (λ k. c.in-Ok.ensures.same k ∙ take_end c.args.bytes.now c.end_of-end.result c.end_of-end.ensures k) c.in-Ok.ensures.short c.in-Ok.ensures.blocks

pub returns-in-Ok-clause-ok : goal.returns-in-Ok-clause-ok
returns-in-Ok-clause-ok g c =
    SpellsDirectory-same c.args.bytes.now c.in-Ok.bits.items (λ k. c.in-Ok.ensures.same k ∙ take_end c.args.bytes.now c.end_of-end.result c.end_of-end.ensures k) (invariant_of-result g c)

pub returns-in-Ok-clause-only : goal.returns-in-Ok-clause-only
returns-in-Ok-clause-only g c = λ d p. SpellsDirectory-unique c.args.bytes.now d _ p (returns-in-Ok-clause-ok g c)
