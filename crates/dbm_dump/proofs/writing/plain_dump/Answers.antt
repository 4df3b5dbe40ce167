use Rattle.std.proofs.Common.{◌≤◌, ◌<◌, ◌^◌, ap, sym, ◌∙◌, length, rules}
use Rattle.std.proofs.lemmas.List.{append-nil}
use Rattle.std.proofs.lemmas.List.Elements.{All-nil}
use Rattle.dbm_dump.specs.Reading.{AreBytePair, pairs_in_dump}
use Rattle.dbm_dump.specs.Texts.{dump_pair_line, plain_header}
use Rattle.dbm_dump.specs.declared.stage.Stage.TheVariants.{First}
use Rattle.dbm_dump.proofs.PlainBack.{plain_reads}
use Rattle.dbm_dump.proofs.MoreTexts.{good_all, good_more, plain_whole, written_more}
use Rattle.dbm_dump.proofs.writing.plain_dump.Goals as goal

pub loop-pair-init : goal.loop-pair-init
loop-pair-init c = record {
  written = c.in_ok-text.ensures ∙ sym (append-nil (plain_header c.args.kind c.args.size (length c.args.pairs.now)));
  good = All-nil AreBytePair;
}

pub loop-pair-preserved : goal.loop-pair-preserved
loop-pair-preserved c = record {
  written = written_more dump_pair_line (plain_header c.args.kind c.args.size (length c.args.pairs.now)) c.args.pairs.now c.loop-pair.pair-index c.pair-item.result c.as_slice.result.now
      c.as_slice-in-loop-pair.result.now _ _ c.loop-pair-test.true c.pair-item.is c.as_slice.ensures c.as_slice-in-loop-pair.ensures c.loop-pair.invariant.written c.in_ok-show_pair.ensures.text;
  good = good_more AreBytePair c.args.pairs.now c.loop-pair.pair-index c.pair-item.result c.as_slice.result.now c.as_slice-in-loop-pair.result.now c.loop-pair-test.true c.pair-item.is
      c.as_slice.ensures c.as_slice-in-loop-pair.ensures c.loop-pair.invariant.good c.in_ok-show_pair.ensures.bytes;
}

pub returns-clause-text : goal.returns-clause-text
returns-clause-text c =
    let all : length c.args.pairs.now ≤ c.loop-pair.pair-index = search rules in
    plain_whole c.args.kind c.args.size c.args.pairs.now c.loop-pair.pair-index c.loop-pair.text.items c.extend_from_slice.new.self.items all c.loop-pair.invariant.written c.in_ok-extend_from_slice.ensures.items

pub returns-clause-reads : goal.returns-clause-reads
returns-clause-reads c =
    let all : length c.args.pairs.now ≤ c.loop-pair.pair-index = search rules in
    let short : length c.args.pairs.now < 2 ^ 64 = search rules in
    ap (pairs_in_dump First) (plain_whole c.args.kind c.args.size c.args.pairs.now c.loop-pair.pair-index c.loop-pair.text.items c.extend_from_slice.new.self.items all c.loop-pair.invariant.written c.in_ok-extend_from_slice.ensures.items)
    ∙ plain_reads c.args.kind c.args.size c.args.pairs.now short (good_all AreBytePair c.args.pairs.now c.loop-pair.pair-index all c.loop-pair.invariant.good)
