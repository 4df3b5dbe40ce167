use Rattle.std.proofs.Common.{◌≡◌, ◌+◌, ◌∷◌, [], ◌++◌, List, ℕ, Option, drop, get_or, subst, sym, take, ap, ◌∙◌}
use Rattle.std.proofs.lemmas.List.{take_all}
use Rattle.std.specs.Borrow.{Bor}
use Rattle.std.proofs.KnownBytes.{Keeps-trans}
use Rattle.sdbm_files.specs.Lent.{pair_lent, pairs_lent}
use Rattle.dbm_reports.specs.Reports.{Prints}
use Rattle.dbm_reports.specs.Served.{IsUnserved}
use Rattle.dbm_reports.specs.declared.fault.ReportFault.{ReportFault}
use Rattle.dbm_reports.specs.declared.fault.ReportFault.TheVariants.{NoMemory}
use Rattle.dbm_reports.specs.declared.serving.Unserved.{Unserved}
use Rattle.dbm_databases.specs.Rows.{rows}
use Rattle.byte_text.specs.Writing.{WritesPart}
use Rattle.dbm_databases.proofs.PairLines.{nothing_lent, rows_around, rows_more}
use Rattle.dbm_databases.proofs.Streams.{cut_short, part_behind, part_of_step, part_of_want, split_more, wanting}
use Rattle.dbm_databases.proofs.streamed.write_rows.Goals as goal

pub returns-in_default-clause-fault : goal.returns-in_default-clause-fault
returns-in_default-clause-fault g c =
    let n = c.args.notation.now in
    let begin = c.args.prefix.now in
    let lent = c.args.pairs.now in
    let i = c.loop-pair.pair-index in
    let all : List ℕ = rows n c.args.listing begin (pairs_lent lent) in
    let old : Option (List ℕ) = g.W.Write.contents c.args.writer.now in
    let mid : Option (List ℕ) = g.W.Write.contents c.loop-pair.writer in
    let first : List ℕ = rows n c.args.listing begin (pairs_lent (take i lent)) in
    let row : List ℕ = rows n c.args.listing begin (pair_lent (get_or lent i nothing_lent) ∷ []) in
    let rest : List ℕ = rows n c.args.listing begin (pairs_lent (drop (i + 1) lent)) in
    let part : WritesPart old mid all =
    part_of_want old mid c.loop-pair.room.items row first rest all c.loop-pair.invariant.split
    (rows_around n c.args.listing begin lent i nothing_lent c.loop-pair-test.true) c.in_default.ensures.some in
    subst (λ (fault : Unserved ReportFault). IsUnserved (Prints all) (λ (f : ReportFault). f ≡ NoMemory) old mid fault) (sym c.want_of_memory.ensures)
    (wanting all old mid c.loop-pair.is_written c.loop-pair.invariant.kept (cut_short c.args.room.now all old mid c.requires.small part))

pub returns-in_default-write_full-clause-fault : goal.returns-in_default-write_full-clause-fault
returns-in_default-write_full-clause-fault g c =
    let n = c.args.notation.now in
    let begin = c.args.prefix.now in
    let lent = c.args.pairs.now in
    let i = c.loop-pair.pair-index in
    let all : List ℕ = rows n c.args.listing begin (pairs_lent lent) in
    let first : List ℕ = rows n c.args.listing begin (pairs_lent (take i lent)) in
    let row : List ℕ = rows n c.args.listing begin (pair_lent (get_or lent i nothing_lent) ∷ []) in
    let rest : List ℕ = rows n c.args.listing begin (pairs_lent (drop (i + 1) lent)) in
    cut_short c.args.room.now all _ _ c.requires.small
    (part_of_step _ _ _ c.loop-pair.room.items row c.show_chosen.new.text.items first rest all c.loop-pair.invariant.split c.in-Ok.ensures.row
    (rows_around n c.args.listing begin lent i nothing_lent c.loop-pair-test.true) c.in_default-write_full.ensures.part)

pub loop-pair-preserved : goal.loop-pair-preserved
loop-pair-preserved g c =
    let n = c.args.notation.now in
    let begin = c.args.prefix.now in
    let lent = c.args.pairs.now in
    let i = c.loop-pair.pair-index in
    let first : List ℕ = rows n c.args.listing begin (pairs_lent (take i lent)) in
    let row : List ℕ = rows n c.args.listing begin (pair_lent (get_or lent i nothing_lent) ∷ []) in
    let further : List ℕ = rows n c.args.listing begin (pairs_lent (take (i + 1) lent)) in
    record {
      split = split_more _ _ _ c.loop-pair.room.items row c.show_chosen.new.text.items c.write_full.new.room.items first further c.loop-pair.invariant.split c.in-Ok.ensures.row
          (rows_more n c.args.listing begin lent i nothing_lent c.loop-pair-test.true) c.in-Ok-write_full.ensures.ok;
      kept = λ h. let both = c.in-Ok-write_full.ensures.kept h in Keeps-trans _ _ _ (c.loop-pair.invariant.kept both.0) both.1;
    }

pub returns-in_default-write_all-clause-fault : goal.returns-in_default-write_all-clause-fault
returns-in_default-write_all-clause-fault g c =
    let n = c.args.notation.now in
    let begin = c.args.prefix.now in
    let lent = c.args.pairs.now in
    let all : List ℕ = rows n c.args.listing begin (pairs_lent lent) in
    let made : List ℕ = rows n c.args.listing begin (pairs_lent (take c.loop-pair.pair-index lent)) in
    let whole : made ≡ all =
    ap (λ (xs : List (Bor (List ℕ) × Bor (List ℕ))). rows n c.args.listing begin (pairs_lent xs)) (take_all c.loop-pair.pair-index lent c.loop-pair-test.false) in
    let split = c.loop-pair.invariant.split in
    cut_short c.args.room.now all _ _ c.requires.small
    (part_behind _ _ _ split.written c.as_slice.result.now all split.appends c.in_default-write_all.ensures.part
    (sym whole ∙ split.together ∙ ap (λ (xs : List ℕ). split.written ++ xs) (sym c.as_slice.ensures.value)))
