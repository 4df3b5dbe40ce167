-- Storing pairs in sequence.
use Rattle.std.proofs.Common.{◌≡◌, ◌≤◌, ℕ, List, [], ◌∷◌, ◌++◌, length, true, Option, Some, None, Result, Ok, Err, IfErr, IsErrAnd, IsSomeAnd, inr, refl, sym, ◌∙◌, subst, arith}
use Rattle.std.specs.declared.alloc.Global.{Global}
use Rattle.sdbm_addr.specs.declared.Mode.{Mode}
use Rattle.sdbm_addr.specs.declared.Mode.TheVariants.{Insert, Replace}
use Rattle.sdbm_addr.specs.Database.{Database}
use Rattle.sdbm_addr.specs.Pairs.{Pair}
use Rattle.store_cmd.specs.declared.Command.TheVariants.{Store}
use Rattle.store_cmd.specs.declared.Entry.{Entry}
use Rattle.store_cmd.specs.declared.Reply.{Reply}
use Rattle.store_cmd.specs.declared.Reply.TheVariants as reply
use Rattle.store_moves.specs.Acts.{Acts}
use Rattle.store_moves.proofs.Acting.{Acts-unique}
use Rattle.dbm_script.specs.Answers.{IsAnswerTo}
use Rattle.dbm_script.specs.declared.answers.Answer.{Answer}
use Rattle.dbm_script.specs.declared.answers.Answer.TheVariants.{Replied}
use Rattle.dbm_dump.specs.Heads.{IsHead}
use Rattle.dbm_dump.specs.declared.key_head.KeyHead.{KeyHead}
use Rattle.dbm_dump.specs.declared.fault.DumpFault.{DumpFault}
use Rattle.dbm_dump.specs.declared.fault.DumpFault.TheVariants as fault
use Rattle.dbm_dump.specs.declared.loading.Loading.{Loading}
use Rattle.dbm_dump.specs.declared.stage.Next.{Next}
use Rattle.dbm_dump.specs.Steps.{line_step}
use Rattle.dbm_dump.specs.Reading.{pair_list}
use Rattle.dbm_dump.specs.Loading.{IsLargePair, IsLoadStepFault, IsStoreFault, StoresAll, StoresOne, store_entry, is_pair_done}

pub StoresAll-append : (mode : Mode) (db mid db' : Database) (pairs more : List Pair) → StoresAll mode db pairs mid → StoresAll mode mid more db' → StoresAll mode db (pairs ++ more) db'
StoresAll-append mode db mid db' [] more p q = subst (λ (d : Database). StoresAll mode d more db') p q
StoresAll-append mode db mid db' (e ∷ pairs) more p q = (p.0, (p.1.0, StoresAll-append mode p.0 mid db' pairs more p.1.1 q))

-- the database after the pairs is unique
pub StoresAll-unique : (mode : Mode) (db a b : Database) (pairs : List Pair) → StoresAll mode db pairs a → StoresAll mode db pairs b → b ≡ a
StoresAll-unique mode db a b [] p q = q ∙ sym p
StoresAll-unique mode db a b (e ∷ pairs) p q =
    let same = Acts-unique db (store_entry mode p.1.0.0 e) (store_entry mode q.1.0.0 e) p.0 q.0 refl refl p.1.0.1.1 q.1.0.1.1 in
    StoresAll-unique mode q.0 a b pairs (subst (λ (d : Database). StoresAll mode d pairs a) same.1 p.1.1) q.1.1

-- a fault that equals e, for which Q holds
pub as_err : {T E : Type 0} (Q : E → Type 0) {e : E} (r : Result T E) → IsErrAnd r (λ fault. fault ≡ e) → Q e → IfErr r Q
as_err Q (Ok x) is q = tt
as_err Q (Err fault) is q = subst Q (sym is) q

-- the log entry of a store that was answered
pub entry_of : (mode : Mode) (db after : Database) (answer : Answer Global) (e : Entry Global) (key value : List ℕ) → IsAnswerTo Global db (Store key value mode) answer after → answer ≡ Replied e
    → Acts db (store_entry mode e.reply (key, value)) after
entry_of mode db after answer e key value is replied =
    let h : IsAnswerTo Global db (Store key value mode) (Replied e) after = subst (λ (a : Answer Global). IsAnswerTo Global db (Store key value mode) a after) replied is in
    subst (λ (x : Entry Global). Acts db x after) (λ i. record { session = h.1.0 i; command = h.1.1.0 i; reply = e.reply }) h.1.1.1

-- a store has no further replies
pub no_other : (mode : Mode) (db after : Database) (key value : List ℕ) (r : Reply Global) → Acts db (store_entry mode r (key, value)) after → (r ≡ reply.Stored → ⊥) → (r ≡ reply.Exists → ⊥)
    → (r ≡ reply.Crowded → ⊥) → ⊥
no_other mode db after key value reply.Stored acts p q s = p refl
no_other mode db after key value reply.Exists acts p q s = q refl
no_other mode db after key value reply.Crowded acts p q s = s refl
no_other Insert db after key value (reply.Found other) acts p q s = acts.move.changes.1
no_other Insert db after key value reply.Missing acts p q s = acts.move.changes.1
no_other Insert db after key value reply.Deleted acts p q s = acts.move.changes.1
no_other Insert db after key value (reply.Ran code word) acts p q s = acts.move.changes.1
no_other Insert db after key value (reply.Count n) acts p q s = acts.move.changes.1
no_other Replace db after key value (reply.Found other) acts p q s = acts.move.changes
no_other Replace db after key value reply.Missing acts p q s = acts.move.changes
no_other Replace db after key value reply.Deleted acts p q s = acts.move.changes
no_other Replace db after key value (reply.Ran code word) acts p q s = acts.move.changes
no_other Replace db after key value (reply.Count n) acts p q s = acts.move.changes

-- the reply Crowded to a pair
pub crowded : (mode : Mode) (db after : Database) (answer : Answer Global) (e : Entry Global) (key value : List ℕ) → IsAnswerTo Global db (Store key value mode) answer after → answer ≡ Replied e
    → e.reply ≡ reply.Crowded → Acts db (store_entry mode reply.Crowded (key, value)) after
crowded mode db after answer e key value is replied full =
    subst (λ (r : Reply Global). Acts db (store_entry mode r (key, value)) after) full (entry_of mode db after answer e key value is replied)

-- the reply to a pair that is stored, or whose key exists
pub stores : (mode : Mode) (db after : Database) (answer : Answer Global) (e : Entry Global) (key value : List ℕ) (r : Reply Global) → IsAnswerTo Global db (Store key value mode) answer after
    → answer ≡ Replied e → e.reply ≡ r → is_pair_done r ≡ true → StoresOne mode db (key, value) after
stores mode db after answer e key value r is replied same done =
    (r, (done, subst (λ (x : Reply Global). Acts db (store_entry mode x (key, value)) after) same (entry_of mode db after answer e key value is replied)))

some_and : (o : Option Pair) (e : Pair) (P : Pair → Type 0) → o ≡ Some e → P e → IsSomeAnd o P
some_and o e P is holds = subst (λ (x : Option Pair). IsSomeAnd x P) (sym is) holds

-- the fault of a line whose pair is not stored
pub step_store_fault : (mode : Mode) (loading : Loading) (line : List ℕ) (number : ℕ) (next : Next) (e : Pair) (f : DumpFault) → line_step loading.stage line ≡ Some next → next.pair ≡ Some e
    → IsStoreFault mode loading.image e number f → IsLoadStepFault mode loading line number f
step_store_fault mode loading line number next e fault.BadFormat steps pair h = absurd h
step_store_fault mode loading line number next e fault.Read steps pair h = absurd h
step_store_fault mode loading line number next e (fault.BadDump n) steps pair h = absurd h
step_store_fault mode loading line number next e (fault.TooLarge n key) steps pair h =
    (h.0, (next, (steps, inr (some_and next.pair e (IsLargePair loading.image.size key) pair h.1))))
step_store_fault mode loading line number next e (fault.Crowded n key) steps pair h = (h.0, (next, (steps, record { pair = e; pair_is = pair; key_is = h.1.0; after = h.1.1.0; refused = h.1.1.1 })))
step_store_fault mode loading line number next e fault.CutOff steps pair h = absurd h
step_store_fault mode loading line number next e fault.NoMemory steps pair h = tt

-- the pair of a line is stored
pub stores_one : (mode : Mode) (db after : Database) (o : Option Pair) (e : Pair) → o ≡ Some e → StoresOne mode db e after → StoresAll mode db (pair_list o) after
stores_one mode db after o e is one = subst (λ (x : Option Pair). StoresAll mode db (pair_list x) after) (sym is) (after, (one, refl))

-- a line has at most one pair
pub at_most_one : (o : Option Pair) → length (pair_list o) ≤ 1
at_most_one None = omega arith
at_most_one (Some e) = omega arith

-- the head of a key that was read
pub head_of : (key bytes : List ℕ) (head : KeyHead) → bytes ≡ key → IsHead bytes head → IsHead key head
head_of key bytes head same is = subst (λ (k : List ℕ). IsHead k head) same is
