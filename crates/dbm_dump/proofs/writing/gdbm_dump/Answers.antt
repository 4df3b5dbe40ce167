use Rattle.std.proofs.Common.{◌≤◌, ◌<◌, ◌^◌, ap, ◌∙◌, length, rules}
use Rattle.dbm_dump.specs.Reading.{IsGood, pairs_in_dump}
use Rattle.dbm_dump.specs.Texts.{gdbm_header, gdbm_pair}
use Rattle.dbm_dump.specs.declared.stage.Stage.TheVariants.{First}
use Rattle.dbm_dump.proofs.GdbmBack.{gdbm_reads}
use Rattle.dbm_dump.proofs.MoreTexts.{gdbm_whole, good_all, good_more, written_more}
use Rattle.dbm_dump.proofs.writing.gdbm_dump.Goals as goal

pub loop-pair-preserved : goal.loop-pair-preserved
loop-pair-preserved c = record {
  written = written_more gdbm_pair gdbm_header c.args.pairs.now c.loop-pair.pair-index c.pair-item.result c.as_slice.result.now c.as_slice-in-loop-pair.result.now _ _ c.loop-pair-test.true
      c.pair-item.is c.as_slice.ensures c.as_slice-in-loop-pair.ensures c.loop-pair.invariant.written c.in_ok-show_data.ensures.text;
  good = good_more IsGood c.args.pairs.now c.loop-pair.pair-index c.pair-item.result c.as_slice.result.now c.as_slice-in-loop-pair.result.now c.loop-pair-test.true c.pair-item.is
      c.as_slice.ensures c.as_slice-in-loop-pair.ensures c.loop-pair.invariant.good c.in_ok-show_data.ensures.good;
}

pub returns-clause-text : goal.returns-clause-text
returns-clause-text c =
    let all : length c.args.pairs.now ≤ c.loop-pair.pair-index = search rules in
    gdbm_whole c.args.pairs.now c.loop-pair.pair-index c.loop-pair.text.items _ _ c.extend_from_slice-3.new.self.items all c.loop-pair.invariant.written c.in_ok-extend_from_slice-2.ensures.items
    c.in_ok-show_number.ensures c.in_ok-extend_from_slice-3.ensures.items

pub returns-clause-reads : goal.returns-clause-reads
returns-clause-reads c =
    let all : length c.args.pairs.now ≤ c.loop-pair.pair-index = search rules in
    let short : length c.args.pairs.now < 2 ^ 64 = search rules in
    ap (pairs_in_dump First)
    (gdbm_whole c.args.pairs.now c.loop-pair.pair-index c.loop-pair.text.items _ _ c.extend_from_slice-3.new.self.items all c.loop-pair.invariant.written c.in_ok-extend_from_slice-2.ensures.items
    c.in_ok-show_number.ensures c.in_ok-extend_from_slice-3.ensures.items)
    ∙ gdbm_reads c.args.pairs.now short (good_all IsGood c.args.pairs.now c.loop-pair.pair-index all c.loop-pair.invariant.good)
