use Rattle.std.proofs.Common.{◌≡◌, ◌<◌, ◌≤◌, ◌+◌, ◌%◌, ◌^◌, ◌∙◌, inl, inr, ℕ, Bool, true, false, sym, ap, subst, arith, bit_and}
use Rattle.std.proofs.lemmas.Nat.{and_mask}
use borrow.Author.Count.{below_more}
use Rattle.sdbm_addr.specs.Directory.{page_of, word_number, hash_prefix}
use Rattle.sdbm_addr.specs.DirectoryFile.{bit_of}
use Rattle.sdbm_addr.proofs.DirectoryLemmas.{child_fits, child_number}
use Rattle.store_parts.proofs.Places.{leads}
use Rattle.store_parts.proofs.place.page_of.Goals as goal

pub returns-then-not-is_set : goal.returns-then-not-is_set
returns-then-not-is_set c = λ splits spells.
    let hash : ℕ = c.hash-hash.result in
    let depth : ℕ = c.loop-depth.depth in
    let unset : bit_of c.args.directory.now (word_number (hash_prefix depth hash)) ≡ false =
    ap (bit_of c.args.directory.now) (sym c.loop-depth.invariant.number) ∙ sym c.is_set.ensures ∙ c.if-not-is_set.true in
    leads c.args.directory.now splits hash depth (bit_and hash c.mask.result) spells c.loop-depth.invariant.above (inl unset) (ap (bit_and hash) c.mask.ensures ∙ and_mask hash depth)
    ∙ ap (page_of splits) c.hash-hash.ensures

pub child-bit-requires : goal.child-bit-requires
child-bit-requires c =
    let below : c.loop-depth.depth < 31 = c.loop-depth-test.true in
    child_fits c.loop-depth.depth c.hash-hash.result c.loop-depth.bit (omega arith) c.loop-depth.invariant.number

pub loop-depth-preserved : goal.loop-depth-preserved
loop-depth-preserved c =
    let hash : ℕ = c.hash-hash.result in
    let depth : ℕ = c.loop-depth.depth in
    let here : bit_of c.args.directory.now (word_number (hash_prefix depth hash)) ≡ true =
    ap (bit_of c.args.directory.now) (sym c.loop-depth.invariant.number) ∙ sym c.is_set.ensures ∙ c.if-not-is_set.false in
    record {
      number = child_number depth hash c.loop-depth.bit c.child-bit.result c.loop-depth.invariant.number c.child-bit.ensures;
      above = below_more (λ k. bit_of c.args.directory.now (word_number (hash_prefix k hash)) ≡ true) depth c.loop-depth.invariant.above here;
    }

pub returns : goal.returns
returns c = λ splits spells.
    let hash : ℕ = c.hash-hash.result in
    leads c.args.directory.now splits hash 31 (bit_and hash c.mask-2.result) spells (λ k below. c.loop-depth.invariant.above k (omega arith)) (inr (omega arith)) (ap (bit_and hash) c.mask-2.ensures ∙ and_mask hash 31)
    ∙ ap (page_of splits) c.hash-hash.ensures
