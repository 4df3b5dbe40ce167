use Rattle.std.proofs.Common.{◌≡◌, Some, None, rules}
use Rattle.dbm_script.specs.Notation.{bytes_of_word}
use Rattle.dbm_script.specs.Numbers.{blank_of, number_of}
use Rattle.dbm_script.specs.Tasks.{run_words_of}
use Rattle.dbm_script.proofs.RunsAsked.{no_prog, no_run, some_run}
use Rattle.dbm_script.proofs.lines.read_run.Goals as goal

pub returns-in_default : goal.returns-in_default
returns-in_default g c =
    let n = c.args.notation.now in
    let none : None ≡ number_of 4294967295 c.args.prog.now = search rules in
    no_prog (bytes_of_word n c.args.key.now) (number_of 4294967295 c.args.prog.now) (bytes_of_word n c.args.arg.now) (blank_of c.args.blank.now) (number_of 18446744073709551615 c.args.now.now) none

pub returns-in_default-2 : goal.returns-in_default-2
returns-in_default-2 g c =
    let n = c.args.notation.now in
    let none : None ≡ run_words_of n c.args.key.now c.args.arg.now c.args.blank.now c.args.now.now = search rules in
    no_run (bytes_of_word n c.args.key.now) (number_of 4294967295 c.args.prog.now) (bytes_of_word n c.args.arg.now) (blank_of c.args.blank.now) (number_of 18446744073709551615 c.args.now.now) none

pub returns : goal.returns
returns g c =
    let n = c.args.notation.now in
    let prog : Some c.in-Some.prog ≡ number_of 4294967295 c.args.prog.now = search rules in
    let words : Some c.in-Some-2.words ≡ run_words_of n c.args.key.now c.args.arg.now c.args.blank.now c.args.now.now = search rules in
    some_run (bytes_of_word n c.args.key.now) (number_of 4294967295 c.args.prog.now) (bytes_of_word n c.args.arg.now) (blank_of c.args.blank.now) (number_of 18446744073709551615 c.args.now.now) c.in-Some.prog c.in-Some-2.words prog words
