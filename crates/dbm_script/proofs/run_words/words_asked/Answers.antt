use Rattle.std.proofs.Common.{subst}
use Rattle.dbm_script.specs.Tasks.{IsWordFault}
use Rattle.dbm_script.specs.declared.run_words.WordFault.{WordFault}
use Rattle.dbm_script.proofs.RunsAsked.{no_bytes_asked, no_number_asked}
use Rattle.dbm_script.proofs.run_words.words_asked.Goals as goal

pub returns-in-Err-BadText : goal.returns-in-Err-BadText
returns-in-Err-BadText g c =
    let n = c.args.notation.now in
    let bad = subst (λ (fault : WordFault). IsWordFault n c.args.key.now c.args.arg.now c.args.blank.now c.args.now.now fault) c.in-Err-BadText.field-0-is c.in-Err-BadText.ensures.fault in
    no_bytes_asked n c.args.key.now c.args.arg.now c.args.blank.now c.args.now.now bad.1

pub returns-in-Err-BadNumber : goal.returns-in-Err-BadNumber
returns-in-Err-BadNumber g c =
    let n = c.args.notation.now in
    no_number_asked n c.args.key.now c.args.arg.now c.args.blank.now c.args.now.now
    (subst (λ (fault : WordFault). IsWordFault n c.args.key.now c.args.arg.now c.args.blank.now c.args.now.now fault) c.in-Err-BadNumber.field-0-is c.in-Err-BadNumber.ensures.fault)
