-- The result of a run whose record is written back in place.
use Rattle.std.proofs.Common.{◌≡◌, ℕ, ◌+◌, ◌≤◌, List, [], ◌++◌, length, take, Bool, true, cond, Option, Some, None, is_some, remove, sym, ap, ◌∙◌, subst, arith}
use Rattle.std.proofs.lemmas.List.{take_at, length-append}
use Rattle.sdbm_addr.specs.Pairs.{Pair, value_at, IsPlace}
use Rattle.sdbm_addr.specs.Database.{Database, IsDatabase, pairs_at}
use Rattle.sdbm_dir.specs.declared.Place.{Place}
use Rattle.sdbm_page.specs.Rewritten.{rewritten}
use Rattle.sdbm_split.specs.Planned.{PageChange}
use Rattle.sdbm_files.specs.Installed.{installed, content_at, IsInstallable}
use Rattle.sdbm_files.proofs.PutLemmas.{IsPage-pairs_at}
use Rattle.bpf_helpers.specs.declared.values.Env.{Env}
use Rattle.bpf_helpers.specs.Runs.{Outcome, Ends}
use Rattle.bpf_helpers.proofs.Lengths.{Ends-length}
use Rattle.bpf_helpers.proofs.OneEnd.{ends-outcome}
use Rattle.store_cmd.specs.declared.Command.{Command}
use Rattle.store_cmd.specs.declared.Command.TheVariants.{Run}
use Rattle.store_cmd.specs.declared.Reply.{Reply}
use Rattle.store_cmd.specs.declared.Reply.TheVariants.{Ran}
use Rattle.store_cmd.specs.Command.{IsSmall}
use Rattle.store_cmd.specs.Answers.{env_of, saves, removes}
use Rattle.store_moves.specs.declared.worked.Site.{Site}
use Rattle.store_moves.specs.declared.runs.RunInput.{RunInput}
use Rattle.store_moves.specs.declared.in_place.RunOnCopy.{RunOnCopy}
use Rattle.store_moves.specs.Works.{PageResult, works, key_of, HasKey, HasEnd, EndsOn, leaf_alone}
use Rattle.store_moves.specs.Worked.{page_on, left_at}
use Rattle.store_moves.specs.Leads.{IsPlaceOf, MayChange, changed_by}
use Rattle.store_moves.specs.Acts.{IsPutIn}
use Rattle.store_moves.specs.Rewrites.{IsRunCopied}
use Rattle.store_moves.proofs.RunLemmas.{Ends-told, ran_there}
use Rattle.store_moves.proofs.Lifting.{works_lead}

-- a program was run on a copy
pub copied_so : {A : Type 0} (pairs : List Pair) (input : RunInput A) (copied : RunOnCopy) (bytes rest : List ℕ) (env : Env) (o : Outcome) → IsPlace pairs input.key.now copied.i → copied.len ≡ length (value_at pairs copied.i) → copied.ended.code ≡ o.code → copied.ended.word ≡ o.word
    → bytes ≡ value_at pairs copied.i → env ≡ env_of input.time true input.session → Ends input.program.now.code bytes input.arg.now env o → o.steps ≤ length input.program.now.code → IsRunCopied pairs input copied (o.bytes ++ rest)
copied_so pairs input copied bytes rest env o place long code word same told ends short =
    let there : Ends input.program.now.code (value_at pairs copied.i) input.arg.now (env_of input.time true input.session) o = Ends-told input true bytes (value_at pairs copied.i) env o same told ends in
    let kept : length o.bytes ≡ copied.len = Ends-length input.program.now.code (value_at pairs copied.i) input.arg.now (env_of input.time true input.session) o there ∙ sym long in
    let whole : length (o.bytes ++ rest) ≡ length o.bytes + length rest = length-append o.bytes rest in
    record {
      outcome = o;
      place = place;
      is = ends-outcome input.program.now.code (value_at pairs copied.i) input.arg.now (env_of input.time true input.session) o there short;
      code_is = code;
      word_is = word;
      left = take_at o.bytes rest copied.len kept;
      value_long = sym long;
      long = omega arith;
    }

module _ {A : Type 0} (db : Database) (ok : IsDatabase db) (place : Place) (command : Command A) (input : RunInput A) (copied : RunOnCopy) (bytes : List ℕ) (is_run : command ≡ Run input.key.now input.program.now.code input.arg.now input.blank input.time) (small : IsSmall db.size command) (leads : IsPlaceOf db (key_of command) place) (ran : IsRunCopied (pairs_at db place.page) input copied bytes) where
  abbrev site : Site
  site = record { place = place; kind = db.kind; size = db.size }

  abbrev pairs : List Pair
  pairs = pairs_at db place.page

  abbrev result : PageResult A
  result = works place db.kind db.size pairs input.session command

  result_is : result ≡ record { reply = Ran ran.outcome.code ran.outcome.word; change = left_at (page_on site pairs) copied.i ran.outcome }
  result_is =
      ap (λ (c : Command A). works place db.kind db.size pairs input.session c) is_run
      ∙ ran_there A site pairs input copied.i ran.outcome (IsPage-pairs_at db ok place.page).distinct ran.place ran.is

  ends : HasEnd pairs input.session command
  ends =
      subst (λ (c : Command A). HasEnd pairs input.session c) (sym is_run)
      (subst (λ (v : Option (List ℕ)). EndsOn input.session input.program.now.code input.arg.now input.time v input.blank) (sym ran.place.has_value) (ap is_some ran.is))

  keyed : HasKey command
  keyed = subst HasKey (sym is_run) tt

  reply_so : (answer : Reply A) → answer ≡ Ran copied.ended.code copied.ended.word → answer ≡ result.reply
  reply_so answer is = is ∙ ap (λ (n : ℕ). Ran n copied.ended.word) ran.code_is ∙ ap (λ (n : ℕ). Ran ran.outcome.code n) ran.word_is ∙ sym (ap (λ (r : PageResult A). r.reply) result_is)

  -- the exact page after the record was saved in place
  left_saved : saves ran.outcome.code ≡ true → result.change ≡ Some (record { leaf = rewritten (content_at db place.page) copied.i ran.outcome.bytes; twins = []; bits = [] })
  left_saved saved =
      ap (λ (r : PageResult A). r.change) result_is
      ∙ ap (λ (b : Bool). cond b (Some (record { leaf = rewritten (content_at db place.page) copied.i ran.outcome.bytes; twins = []; bits = [] })) (cond (removes ran.outcome.code) (Some (leaf_alone db.size (remove pairs copied.i))) None)) saved

  pub may_write : saves ran.outcome.code ≡ true → IsInstallable db place.page (rewritten (content_at db place.page) copied.i (take copied.len bytes)) [] []
  may_write saved =
      subst (λ (v : List ℕ). IsInstallable db place.page (rewritten (content_at db place.page) copied.i v) [] []) (sym ran.left)
      (subst (λ (x : Option PageChange). MayChange db place.page x) (left_saved saved) (works_lead db ok place input.session command keyed small leads).may)

  pub saved_so : (answer : Reply A) (db' : Database) → saves ran.outcome.code ≡ true → answer ≡ Ran copied.ended.code copied.ended.word
      → db' ≡ installed db place.page (rewritten (content_at db place.page) copied.i (take copied.len bytes)) [] [] → IsPutIn db place input.session command answer db'
  saved_so answer db' saved is written = record {
    leads = leads;
    ends = ends;
    reply_is = reply_so answer is;
    database = written ∙ ap (λ (v : List ℕ). installed db place.page (rewritten (content_at db place.page) copied.i v) [] []) ran.left ∙ sym (ap (changed_by db place.page) (left_saved saved));
  }
