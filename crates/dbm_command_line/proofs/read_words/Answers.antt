use Rattle.std.proofs.Common.{rules, refl, ◌≡◌, ◌∙◌, List, Bor, Some, map, true, ap, sym, subst, option_map}
use Rattle.clap.specs.Words.{HasKind, Row, Text, app_of, fault_of, found_of, is_simple, is_simple_and_free, rows_of, subcommand_name_of, subcommand_of, subcommand_rows_of}
use Rattle.dbm_command_line.specs.Tool.{tool}
use Rattle.dbm_command_line.specs.Wishes.{IsAccessGiven, IsRequestAsked, lacks_word}
use Rattle.dbm_command_line.proofs.Matches.{met, refused_for, tool_is_free, tool_is_simple}
use Rattle.dbm_command_line.proofs.read_words.Goals as goal

pub returns-in_err-matches-clause-refused : goal.returns-in_err-matches-clause-refused
returns-in_err-matches-clause-refused c =
    let texts : List Text = map (λ (s : Bor Text). s.now) c.args.words.now in
    let is_tool : app_of c.in_ok-command.command ≡ tool = search rules in
    let error = c.in_err-matches.field-0.0 in
    let has : HasKind (fault_of tool texts) error = subst (λ a. HasKind (fault_of a texts) error) is_tool (c.in_err-matches.ensures.kinds (ap is_simple_and_free is_tool ∙ tool_is_free)) in
    refused_for c.from_residual-in_err-matches.result error (fault_of tool texts) has c.from_residual-in_err-matches.ensures.1

pub returns-in-Some-asked-clause-wish : goal.returns-in-Some-asked-clause-wish
returns-in-Some-asked-clause-wish c =
    let texts : List Text = map (λ (s : Bor Text). s.now) c.args.words.now in
    let m = c.in_ok-matches.matches in
    let rows : List Row = rows_of (found_of c.in-Some.inner.now) in
    let is_tool : app_of c.in_ok-command.command ≡ tool = search rules in
    let named : Some c.in-Some.name.now ≡ subcommand_name_of m = search rules in
    let found : Some rows ≡ option_map (λ (p : Text × List Row). p.1) (subcommand_rows_of m) = search rules in
    let given : subcommand_rows_of m ≡ subcommand_of tool texts = (c.in_ok-matches.ensures.matches (ap is_simple is_tool ∙ tool_is_simple)).1 ∙ ap (λ a. subcommand_of a texts) is_tool in
    let asks : IsRequestAsked (Some (c.in-Some.name.now, rows)) c.in-Some-asked.ask = c.in-Some-asked.ensures.some in
    subst (λ p. IsRequestAsked p c.in-Some-asked.ask) (sym (met m c.in-Some.name.now rows named found) ∙ given) asks

pub returns-in-Some-asked-clause-accepted : goal.returns-in-Some-asked-clause-accepted
returns-in-Some-asked-clause-accepted c =
    let texts : List Text = map (λ (s : Bor Text). s.now) c.args.words.now in
    let is_tool : app_of c.in_ok-command.command ≡ tool = search rules in
    ap (λ a. fault_of a texts) (sym is_tool) ∙ c.in_ok-matches.ensures.kinds (ap is_simple_and_free is_tool ∙ tool_is_free)

pub returns-clause-no_word : goal.returns-clause-no_word
returns-clause-no_word c = λ _.
    let texts : List Text = map (λ (s : Bor Text). s.now) c.args.words.now in
    let m = c.in_ok-matches.matches in
    let rows : List Row = rows_of (found_of c.in-Some.inner.now) in
    let is_tool : app_of c.in_ok-command.command ≡ tool = search rules in
    let named : Some c.in-Some.name.now ≡ subcommand_name_of m = search rules in
    let found : Some rows ≡ option_map (λ (p : Text × List Row). p.1) (subcommand_rows_of m) = search rules in
    let given : subcommand_rows_of m ≡ subcommand_of tool texts = (c.in_ok-matches.ensures.matches (ap is_simple is_tool ∙ tool_is_simple)).1 ∙ ap (λ a. subcommand_of a texts) is_tool in
    let lacks : lacks_word (Some (c.in-Some.name.now, rows)) ≡ true = c.in-None.ensures.none refl in
    ap lacks_word (sym given ∙ met m c.in-Some.name.now rows named found) ∙ lacks

pub returns-in-Some-asked-clause-access : goal.returns-in-Some-asked-clause-access
returns-in-Some-asked-clause-access c =
    let texts : List Text = map (λ (s : Bor Text). s.now) c.args.words.now in
    let m = c.in_ok-matches.matches in
    let rows : List Row = rows_of (found_of c.in-Some.inner.now) in
    let is_tool : app_of c.in_ok-command.command ≡ tool = search rules in
    let named : Some c.in-Some.name.now ≡ subcommand_name_of m = search rules in
    let found : Some rows ≡ option_map (λ (p : Text × List Row). p.1) (subcommand_rows_of m) = search rules in
    let given : subcommand_rows_of m ≡ subcommand_of tool texts = (c.in_ok-matches.ensures.matches (ap is_simple is_tool ∙ tool_is_simple)).1 ∙ ap (λ a. subcommand_of a texts) is_tool in
    let has : IsAccessGiven (Some (c.in-Some.name.now, rows)) c.access.result = c.access.ensures in
    subst (λ p. IsAccessGiven p c.access.result) (sym (met m c.in-Some.name.now rows named found) ∙ given) has
