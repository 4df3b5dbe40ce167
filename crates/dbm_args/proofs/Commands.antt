-- Effects of chains of builder calls on a command.
use Rattle.std.proofs.Common.{◌≡◌, ◌++◌, ◌∷◌, ◌&&◌, not, is_some, [], List, Bool, Bor, true, false, map, refl, ap, ◌∙◌, arith, append_assoc, append-nil}
use Rattle.std.proofs.lemmas.List.{map-append}
use Rattle.std.specs.List.{list_all}
use Rattle.clap.specs.Words.{AddsArg, AddsCommandAliases, AddsInTurn, App, Rule, Shape, Text, rule_of, with_rule}
use Rattle.clap.specs.Simple.{app_of_fields}
use Rattle.clap.specs.Walk.{is_empty}
use Rattle.clap.specs.declared.Arg.{Arg}
use Rattle.clap.specs.declared.Command.{Command}
use Rattle.clap.specs.declared.builder.command.Command.TheViews.{out-Command}
use Rattle.dbm_args.specs.CommandLine.{IsCommand, IsSubcommand, with_alias}

right : (a b : Bool) → (a && b) ≡ true → b ≡ true
right a b h = grind arith

is_off : (b : Bool) → not b ≡ true → b ≡ false
is_off b h = grind arith

pub is_local : (a : Arg) → (rule_of a).is_simple ≡ true → a.global ≡ false
is_local a h = is_off a.global (right (not a.last) _ (right (not a.require_equals) _ (right (not a.allow_negative_numbers) _ (right (not a.allow_hyphen_values) _ (right (not (is_some a.terminator)) _ (right (not (is_some a.val_delim)) _ (right (is_empty a.groups.items) _ (right (is_empty a.default_vals_ifs.items) _ (right (is_empty a.overrides.items) _ h)))))))))

both : (a b : Bool) → (a && b) ≡ true → (a ≡ true) × (b ≡ true)
both a b h = grind arith

-- adding one argument
pub gains : (old new : Command) (x : Arg) (a : App) → AddsArg old x new → (rule_of x).is_simple ≡ true → IsCommand a old → IsCommand (with_rule a (rule_of x)) new
gains old new x a step simple h = (
  step.shape (is_local x simple) ∙ ap (λ (b : App). with_rule b (rule_of x)) h.0,
  (let local : x.global ≡ false = is_local x simple in rw (step.globals, h.1, local) refl),
)

-- adding a list of arguments
pub grown : (xs : List Arg) (old new : Command) (s : Shape) → AddsInTurn AddsArg old xs new → list_all (λ r. r.is_simple) (map rule_of xs) ≡ true → IsSubcommand s old
    → IsSubcommand (record s { rules = s.rules ++ map rule_of xs }) new
grown [] old new s e simple h = rw (← e, append-nil s.rules) h
grown (x ∷ xs) old new s steps simple h =
    let parts = both (rule_of x).is_simple (list_all (λ (r : Rule). r.is_simple) (map rule_of xs)) simple in
    let first = gains old steps.0 x _ steps.1 parts.0 h in
    let rest = grown xs steps.0 new (record s { rules = s.rules ++ rule_of x ∷ [] }) steps.2 parts.1 first in
    rw append_assoc at rest

-- adding an alias
pub named : (old new : Command) (alias : Bor Text) (s : Shape) → AddsCommandAliases old new ((alias, true) ∷ []) → IsSubcommand s old → IsSubcommand (with_alias alias.now s) new
named old new alias s step h =
    let text : Bor Text × Bool → Text = λ a. a.0.now in
    let names : map text (out-Command new).aliases.items ≡ s.aliases ++ (alias.now ∷ []) =
    ap (map text) step.1 ∙ map-append text (out-Command old).aliases.items ((alias, true) ∷ []) ∙ ap (λ (a : App). a.top.aliases ++ (alias.now ∷ [])) h.0 in (
      ap app_of_fields step.0 ∙ ap (λ (a : App). record a { top = record a.top { aliases = map text (out-Command new).aliases.items } }) h.0
          ∙ ap (λ xs. record { top = record s { aliases = xs }; subs = [] }) names,
      ap (λ c. c.has_globals) step.0 ∙ h.1,
    )
