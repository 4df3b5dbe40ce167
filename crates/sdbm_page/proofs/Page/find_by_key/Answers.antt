use Rattle.std.proofs.Common.{◌<◌, get_or, [], length, arith, sym, ◌∙◌}
use Rattle.std.proofs.lemmas.List.{get_or_default}
use Rattle.sdbm_addr.proofs.PairLemmas.{found_at, passed_at}
use Rattle.sdbm_page.proofs.Page.find_by_key.Goals as goal

pub returns-then-eq-clause-found : goal.returns-then-eq-clause-found
returns-then-eq-clause-found g c =
    let pairs = c.args.self.now.pairs in
    let below : c.loop-i.i < length c.args.self.now.pairs = omega arith in
    found_at pairs c.args.key.now c.loop-i.i (get_or pairs c.loop-i.i ([], [])) c.key.result.now below
    (get_or_default pairs c.loop-i.i ([], []) (get_or pairs c.loop-i.i ([], [])) below) c.key.ensures (sym c.eq.ensures ∙ c.if-eq.true) c.loop-i.invariant

pub loop-i-preserved : goal.loop-i-preserved
loop-i-preserved g c =
    let pairs = c.args.self.now.pairs in
    let below : c.loop-i.i < length c.args.self.now.pairs = omega arith in
    passed_at pairs c.args.key.now c.loop-i.i (get_or pairs c.loop-i.i ([], [])) c.key.result.now below
    (get_or_default pairs c.loop-i.i ([], []) (get_or pairs c.loop-i.i ([], [])) below) c.key.ensures (sym c.eq.ensures ∙ c.if-eq.false) c.loop-i.invariant
