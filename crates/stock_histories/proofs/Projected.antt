-- A legal history that changes a key only by runs of one program is a chain of turns of that key.
use Rattle.std.proofs.Common.{ℕ, zero, suc, ◌≡◌, ◌≢◌, ◌⊎◌, inl, inr, ◌<◌, ◌≤◌, ◌^◌, refl, sym, ap, ◌∙◌, subst, List, [], ◌∷◌, ◌++◌, length, replicate, Option, Some, None, Bool, true, false, cond, arith, lit<}
use Rattle.std.specs.Option.{option_to_list}
use Rattle.std.specs.FinMap as map
use Rattle.std.specs.Cmp.Lexicographic.{nat_list_cmp_total}
use Rattle.std.proofs.lemmas.Option.{same_Some}
use Rattle.sdbm_addr.specs.declared.KeyBytes.{KeyBytes}
use Rattle.sdbm_addr.specs.declared.PageSize.{PageSize}
use Rattle.sdbm_addr.specs.declared.PageSize.TheVariants.{Small, Wide}
use Rattle.sdbm_addr.specs.declared.Mode.TheVariants.{Insert, Replace}
use Rattle.sdbm_addr.specs.Pairs.{Map, same_key, pair_limit}
use Rattle.sdbm_addr.proofs.PairLemmas.{equal_keys, same_key-refl}
use Rattle.bpf_insn.specs.declared.insn.Insn.{Insn}
use Rattle.bpf_helpers.specs.declared.values.Env.{Env}
use Rattle.std.specs.Option.{option_and_then}
use Rattle.std.proofs.lemmas.List.{length-replicate}
use Rattle.bpf_insn.specs.Code.{fetch}
use Rattle.bpf_helpers.specs.Machine.{Config, effect, arrives}
use Rattle.bpf_flow.specs.States.{IsConfig}
use Rattle.bpf_verify.proofs.Configs.{keeps_config}
use Rattle.bpf_verify.proofs.Built.{start_config}
use Rattle.bpf_helpers.specs.Runs.{Outcome, Ends, IsInput, AreBytes, Reaches, start}
use Rattle.bpf_helpers.proofs.Lengths.{Ends-length, arrived}
use Rattle.store_cmd.specs.declared.Command.{Command}
use Rattle.store_cmd.specs.declared.Command.TheVariants.{Fetch, Store, Delete, Run, Count}
use Rattle.store_cmd.specs.declared.Reply.{Reply}
use Rattle.store_cmd.specs.declared.Reply.TheVariants.{Found, Missing, Stored, Exists, Crowded, Deleted, Ran}
use Rattle.store_cmd.specs.declared.Reply.TheVariants as replies
use Rattle.store_cmd.specs.declared.Entry.{Entry}
use Rattle.store_cmd.specs.Answers.{Replies, RunsOnValue, RunsOnBlank, RunsAnew, saves, removes, left_by, env_of}
use Rattle.store_cmd.specs.Command.{IsSmall, FitsBlank}
use Rattle.store_cmd.specs.History.{History}
use Rattle.stock_histories.specs.Turns.{Turn, turn_in, turns_of, OnlyRuns, RunsAlone, HasWords, HaveWords, IsRecord, IsAlone}
use Rattle.stock_histories.proofs.KeyHistory.{left_at, RunsTo, KeyHistory, halves}

-- ---- the map at a key

pub other_key : (own key : List ℕ) → own ≢ key → same_key key own ≡ false
other_key own key apart = at (same_key key own) refl
  where
    at : (b : Bool) → same_key key own ≡ b → b ≡ false
    at true is = absurd (apart (sym (equal_keys key own is)))
    at false is = refl

inserted_other : (m : Map) (own key value : List ℕ) → same_key key own ≡ false → map.get (map.insert m own value) key ≡ map.get m key
inserted_other m own key value apart = map.get-insert nat_list_cmp_total m own value key ∙ ap (λ (b : Bool). cond b (Some value) (map.get m key)) apart

inserted_same : (m : Map) (key value : List ℕ) → map.get (map.insert m key value) key ≡ Some value
inserted_same m key value = map.get-insert nat_list_cmp_total m key value key ∙ ap (λ (b : Bool). cond b (Some value) (map.get m key)) (same_key-refl key)

removed_other : (m : Map) (own key : List ℕ) → same_key key own ≡ false → map.get (map.remove m own) key ≡ map.get m key
removed_other m own key apart = map.get-remove nat_list_cmp_total m own key ∙ ap (λ (b : Bool). cond b None (map.get m key)) apart

removed_same : (m : Map) (key : List ℕ) → map.get (map.remove m key) key ≡ None
removed_same m key = map.get-remove nat_list_cmp_total m key key ∙ ap (λ (b : Bool). cond b None (map.get m key)) (same_key-refl key)

-- the value of a key after a run on it
left_same : (m : Map) (key : List ℕ) (o : Outcome) → map.get (left_by m key o) key ≡ left_at (map.get m key) o
left_same m key o = at (saves o.code) (removes o.code)
  where
    at : (s r : Bool) → map.get (cond s (map.insert m key o.bytes) (cond r (map.remove m key) m)) key ≡ cond s (Some o.bytes) (cond r None (map.get m key))
    at true r = inserted_same m key o.bytes
    at false true = removed_same m key
    at false false = refl

left_other : (m : Map) (own key : List ℕ) (o : Outcome) → same_key key own ≡ false → map.get (left_by m own o) key ≡ map.get m key
left_other m own key o apart = at (saves o.code) (removes o.code)
  where
    at : (s r : Bool) → map.get (cond s (map.insert m own o.bytes) (cond r (map.remove m own) m)) key ≡ map.get m key
    at true r = inserted_other m own key o.bytes apart
    at false true = removed_other m own key apart
    at false false = refl

anew_same : (m : Map) (key : List ℕ) (o : Outcome) → map.get m key ≡ None → map.get (cond (saves o.code) (map.insert m key o.bytes) m) key ≡ left_at (map.get m key) o
anew_same m key o absent = at (saves o.code) (removes o.code)
  where
    at : (s r : Bool) → map.get (cond s (map.insert m key o.bytes) m) key ≡ cond s (Some o.bytes) (cond r None (map.get m key))
    at true r = inserted_same m key o.bytes
    at false true = absent
    at false false = refl

anew_other : (m : Map) (own key : List ℕ) (o : Outcome) → same_key key own ≡ false → map.get (cond (saves o.code) (map.insert m own o.bytes) m) key ≡ map.get m key
anew_other m own key o apart = at (saves o.code)
  where
    at : (s : Bool) → map.get (cond s (map.insert m own o.bytes) m) key ≡ map.get m key
    at true = inserted_other m own key o.bytes apart
    at false = refl

-- ---- the input of a run

pub zeros : (n : ℕ) → AreBytes (replicate n 0)
zeros zero i = lit< tt
zeros (suc n) zero = lit< tt
zeros (suc n) (suc i) = zeros n i

limit : (size : PageSize) → pair_limit size ≤ 8008
limit Small = omega arith
limit Wide = omega arith

input : (value argument : List ℕ) (env : Env) → AreBytes value → length value ≤ 8008 → AreBytes argument → length argument ≤ 1024 → env.now < 2 ^ 64 → env.who < 2 ^ 64 → IsInput value argument env
input value argument env a b c d e f = record { bytes_fit = b; argument_fits = d; are_bytes = a; are_argument = c; now_fits = e; who_fits = f }

-- ---- one entry

-- An entry changes the record of the key by a turn, or not at all.
abbrev Shows : List Insn → Option (List ℕ) → Option Turn → Option (List ℕ) → Type 0
Shows program r None r' = r' ≡ r
Shows program r (Some t) r' = RunsTo program r t r'

on_value : (m m' : Map) (session : ℕ) (own key : List ℕ) (its program : List Insn) (argument : List ℕ) (now code word : ℕ)
    → (own ≡ key → its ≡ program) → IsRecord (map.get m key) → AreBytes argument → length argument ≤ 1024 → now < 2 ^ 64 → session < 2 ^ 64
    → RunsOnValue m session own its argument now code word m'
    → (b : Bool) → same_key key own ≡ b → Shows program (map.get m key) (cond b (Some (record { session = session; argument = argument; now = now; code = code; word = word })) None) (map.get m' key)
on_value m m' session own key its program argument now code word only sound a l n w h false is =
    ap (λ (x : Map). map.get x key) h.map_is ∙ left_other m own key h.outcome is
on_value m m' session own key its program argument now code word only sound a l n w h true is =
    let same : key ≡ own = equal_keys key own is in
    let there : map.get m key ≡ Some h.value = ap (map.get m) same ∙ h.there in
    let known = sound h.value there in
    record {
      given = h.value;
      is_given = inl there;
      env = env_of now true session;
      now_is = refl;
      who_is = refl;
      input = input h.value argument (env_of now true session) known.0 known.1 a l n w;
      outcome = h.outcome;
      ends = subst (λ (p : List Insn). Ends p h.value argument (env_of now true session) h.outcome) (only (sym same)) h.ends;
      code_is = h.code_is;
      word_is = h.word_is;
      left = ap (λ (x : Map). map.get x key) h.map_is ∙ ap (λ (k : List ℕ). map.get (left_by m k h.outcome) key) (sym same) ∙ left_same m key h.outcome;
    }

blank_fits : (size : PageSize) (own : List ℕ) (blank : Option ℕ) (n : ℕ) → blank ≡ Some n → FitsBlank size own blank → length {A = ℕ} (replicate n 0) ≤ 8008
blank_fits size own None n is fits = let no : None ≡ Some n = is in absurd cc
blank_fits size own (Some k) n is fits =
    let same : k ≡ n = same_Some k n is in
    let most = limit size in
    omega (arith, length-replicate {A = ℕ} n 0)

on_blank : (size : PageSize) (m m' : Map) (session : ℕ) (own key : List ℕ) (its program : List Insn) (argument : List ℕ) (blank : Option ℕ) (now code word : ℕ)
    → (own ≡ key → its ≡ program) → FitsBlank size own blank → AreBytes argument → length argument ≤ 1024 → now < 2 ^ 64 → session < 2 ^ 64
    → RunsAnew m session own its argument blank now code word m'
    → (b : Bool) → same_key key own ≡ b → Shows program (map.get m key) (cond b (Some (record { session = session; argument = argument; now = now; code = code; word = word })) None) (map.get m' key)
on_blank size m m' session own key its program argument blank now code word only fits a l n w h false is =
    ap (λ (x : Map). map.get x key) h.map_is ∙ anew_other m own key h.outcome is
on_blank size m m' session own key its program argument blank now code word only fits a l n w h true is =
    let same : key ≡ own = equal_keys key own is in
    let runs : RunsOnBlank m session own its argument blank now h.outcome = h.runs in
    let absent : map.get m key ≡ None = ap (map.get m) same ∙ runs.absent in
    record {
      given = replicate runs.len 0;
      is_given = inr (absent, (runs.len, refl));
      env = env_of now false session;
      now_is = refl;
      who_is = refl;
      input = input (replicate runs.len 0) argument (env_of now false session) (zeros runs.len) (blank_fits size own blank runs.len runs.blank_is fits) a l n w;
      outcome = h.outcome;
      ends = subst (λ (p : List Insn). Ends p (replicate runs.len 0) argument (env_of now false session) h.outcome) (only (sym same)) runs.ends;
      code_is = h.code_is;
      word_is = h.word_is;
      left = ap (λ (x : Map). map.get x key) h.map_is ∙ ap (λ (k : List ℕ). map.get (cond (saves h.outcome.code) (map.insert m k h.outcome.bytes) m) key) (sym same) ∙ anew_same m key h.outcome absent;
    }

at_key : (m m' : Map) (key : List ℕ) → m' ≡ m → map.get m' key ≡ map.get m key
at_key m m' key e = ap (λ (x : Map). map.get x key) e

shows : {A : Type 0} (size : PageSize) (kind : KeyBytes) (m m' : Map) (session : ℕ) (key : List ℕ) (program : List Insn) (command : Command A) (reply : Reply A)
    → IsRecord (map.get m key) → IsSmall size command → OnlyRuns program key command → HasWords command → session < 2 ^ 64
    → Replies size kind m session command reply m' → Shows program (map.get m key) (turn_in key session command reply) (map.get m' key)
shows size kind m m' session key program (Fetch own) (Found value) sound small only words who h = at_key m m' key h.1
shows size kind m m' session key program (Fetch own) Missing sound small only words who h = at_key m m' key h.1
shows size kind m m' session key program (Fetch own) reply sound small only words who h = absurd h
shows size kind m m' session key program (Store own value Insert) Stored sound small only words who h = ap (λ (x : Map). map.get x key) h.1 ∙ inserted_other m own key value (other_key own key only)
shows size kind m m' session key program (Store own value Insert) Exists sound small only words who h = at_key m m' key h.1
shows size kind m m' session key program (Store own value Insert) Crowded sound small only words who h = at_key m m' key h.1.1
shows size kind m m' session key program (Store own value Insert) reply sound small only words who h = absurd h
shows size kind m m' session key program (Store own value Replace) Stored sound small only words who h = ap (λ (x : Map). map.get x key) h ∙ inserted_other m own key value (other_key own key only)
shows size kind m m' session key program (Store own value Replace) Crowded sound small only words who h = at_key m m' key h.1
shows size kind m m' session key program (Store own value Replace) reply sound small only words who h = absurd h
shows size kind m m' session key program (Delete own) Deleted sound small only words who h = ap (λ (x : Map). map.get x key) h.1 ∙ removed_other m own key (other_key own key only)
shows size kind m m' session key program (Delete own) Missing sound small only words who h = at_key m m' key h.1
shows size kind m m' session key program (Delete own) reply sound small only words who h = absurd h
shows size kind m m' session key program (Run own its argument blank now) (Ran code word) sound small only words who h = either h
  where
    either : (RunsOnValue m session own its argument now code word m' ⊎ RunsAnew m session own its argument blank now code word m')
        → Shows program (map.get m key) (cond (same_key key own) (Some (record { session = session; argument = argument; now = now; code = code; word = word })) None) (map.get m' key)
    either (inl v) = on_value m m' session own key its program argument now code word only sound words.0 small.1 words.1 who v (same_key key own) refl
    either (inr v) = on_blank size m m' session own key its program argument blank now code word only small.0 words.0 small.1 words.1 who v (same_key key own) refl
shows size kind m m' session key program (Run own its argument blank now) Missing sound small only words who h = at_key m m' key h.map_is
shows size kind m m' session key program (Run own its argument blank now) Crowded sound small only words who h = at_key m m' key h.map_is
shows size kind m m' session key program (Run own its argument blank now) reply sound small only words who h = absurd h
shows size kind m m' session key program Count (replies.Count n) sound small only words who h = at_key m m' key h.1
shows size kind m m' session key program Count reply sound small only words who h = absurd h

-- ---- the record stays bytes within the limit

kept_step : (code : List Insn) (c d : Config) (o : Option Insn) → IsConfig c → option_and_then (λ (x : Insn). option_and_then (arrives code) (effect x c)) o ≡ Some d → IsConfig d
kept_step code c d None i e = let no : None ≡ Some d = e in absurd cc
kept_step code c d (Some x) i e = moved (effect x c) refl e
  where
    moved : (o : Option Config) → effect x c ≡ o → option_and_then (arrives code) o ≡ Some d → IsConfig d
    moved None is e = let no : None ≡ Some d = e in absurd cc
    moved (Some y) is e = subst (λ (z : Config). IsConfig z) (arrived code y d e) (keeps_config x c y i is)

kept_bytes : (n : ℕ) (code : List Insn) (c d : Config) → IsConfig c → Reaches code n c d → IsConfig d
kept_bytes zero code c d i h = subst (λ (x : Config). IsConfig x) h i
kept_bytes (suc n) code c d i h = kept_step code h.0 d (fetch code h.0.place) (kept_bytes n code c h.0 i h.1) h.2

left_record : (program : List Insn) (r r' : Option (List ℕ)) (t : Turn) → IsRecord r → RunsTo program r t r' → IsRecord r'
left_record program r r' t sound s = subst (λ (x : Option (List ℕ)). IsRecord x) (sym s.left) (at (saves s.outcome.code) (removes s.outcome.code))
  where
    ends : Ends program s.given t.argument s.env s.outcome
    ends = s.ends

    config : IsConfig ends.last
    config = kept_bytes ends.before program (start s.given t.argument s.env) ends.last (start_config s.given t.argument s.env s.input) ends.chain

    at : (b c : Bool) → IsRecord (cond b (Some s.outcome.bytes) (cond c None r))
    at true c = λ value is. subst (λ (x : List ℕ). AreBytes x × (length x ≤ 8008)) (same_Some _ _ is)
        (subst (λ (x : List ℕ). AreBytes x) (sym ends.bytes_are) config.are_bytes, let i : length s.given ≤ 8008 = s.input.bytes_fit in omega (arith, Ends-length program s.given t.argument s.env s.outcome ends))
    at false true = λ value is. let no : None ≡ Some value = is in absurd cc
    at false false = sound

-- ---- the whole history

chained : {A : Type 0} (size : PageSize) (kind : KeyBytes) (m m' : Map) (es : List (Entry A)) (key : List ℕ) (program : List Insn)
    → History size kind m es m' → IsRecord (map.get m key) → HaveWords es → RunsAlone program key es
    → KeyHistory program (map.get m key) (turns_of key es) (map.get m' key)
chained size kind m m' [] key program h sound words only = at_key m m' key h
chained {A} size kind m m' (e ∷ es) key program h sound words only =
    turned (turn_in key e.session e.command e.reply)
    (shows size kind m h.0 e.session key program e.command e.reply sound h.1.0.0 only.0 words.0 words.1.0 h.1.0.1)
    (λ good. chained size kind h.0 m' es key program h.1.1 good words.1.1 only.1)
  where
    turned : (o : Option Turn) → Shows program (map.get m key) o (map.get h.0 key)
        → (IsRecord (map.get h.0 key) → KeyHistory program (map.get h.0 key) (turns_of key es) (map.get m' key))
        → KeyHistory program (map.get m key) (option_to_list o ++ turns_of key es) (map.get m' key)
    turned None same rest =
        subst (λ (x : Option (List ℕ)). KeyHistory program x (turns_of key es) (map.get m' key)) same
        (rest (subst (λ (x : Option (List ℕ)). IsRecord x) (sym same) sound))
    turned (Some t) runs rest = (map.get h.0 key, (runs, rest (left_record program (map.get m key) (map.get h.0 key) t sound runs)))

pub projected : {A : Type 0} (size : PageSize) (kind : KeyBytes) (m m' : Map) (es : List (Entry A)) (key : List ℕ) (program : List Insn)
    → IsAlone program size kind m es m' key → KeyHistory program (map.get m key) (turns_of key es) (map.get m' key)
projected size kind m m' es key program a = chained size kind m m' es key program a.legal a.start a.words a.alone

-- The chain is cut at a turn.
pub record Cut (program : List Insn) (r : Option (List ℕ)) (before : List Turn) (first : Turn) (rest : List Turn) (r' : Option (List ℕ)) : Type 0 where
  pub at_first : Option (List ℕ)
  pub after_first : Option (List ℕ)
  pub leads : KeyHistory program r before at_first
  pub runs : RunsTo program at_first first after_first
  pub goes_on : KeyHistory program after_first rest r'

pub cut_at : {A : Type 0} (size : PageSize) (kind : KeyBytes) (m m' : Map) (es : List (Entry A)) (key : List ℕ) (program : List Insn)
    → IsAlone program size kind m es m' key → (before rest : List Turn) (first : Turn) → turns_of key es ≡ before ++ (first ∷ rest)
    → Cut program (map.get m key) before first rest (map.get m' key)
cut_at size kind m m' es key program a before rest first turns =
    let chain = projected size kind m m' es key program a in
    let whole : KeyHistory program (map.get m key) (before ++ (first ∷ rest)) (map.get m' key)
    = subst (λ (ts : List Turn). KeyHistory program (map.get m key) ts (map.get m' key)) turns chain in
    let at = halves program (map.get m key) (map.get m' key) before (first ∷ rest) whole in
    record { at_first = at.0; after_first = at.1.1.0; leads = at.1.0; runs = at.1.1.1.0; goes_on = at.1.1.1.1 }
