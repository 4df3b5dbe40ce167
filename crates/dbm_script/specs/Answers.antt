-- The answer to a command, and its text.
use Rattle.std.specs.Prelude.{◌≡◌, ℕ, List, ◌∷◌, ◌++◌, codes, decimal}
use Rattle.sdbm_addr.specs.Database.{Database}
use Rattle.store_cmd.specs.declared.Command.{Command}
use Rattle.store_cmd.specs.declared.Reply.{Reply}
use Rattle.store_cmd.specs.declared.Reply.TheVariants.{Found, Missing, Stored, Exists, Crowded, Deleted, Ran, Count}
use Rattle.store_cmd.specs.declared.SizeFault.TheVariants.{PairTooLarge, ArgTooLong}
use Rattle.store_cmd.specs.Command.{IsSmall, IsSizeFault}
use Rattle.store_moves.specs.Acts.{Acts}
use Rattle.dbm_script.specs.Notation.{value_shown}
use Rattle.dbm_script.specs.declared.notations.Notation.{Notation}
use Rattle.dbm_script.specs.declared.answers.Answer.{Answer}
use Rattle.dbm_script.specs.declared.answers.Answer.TheVariants.{Replied, Refused}

-- The answer to a command of session 0. If its size is valid, the command runs and the answer is its reply; otherwise it is refused and
-- changes nothing.
abbrev pub IsAnswerTo : (A : Type 0) → Database → Command A → Answer A → Database → Type 0
IsAnswerTo A db command (Replied entry) db' = IsSmall db.size command × ((entry.session ≡ 0) × ((entry.command ≡ command) × Acts db entry db'))
IsAnswerTo A db command (Refused fault) db' = IsSizeFault db.size command fault × (db' ≡ db)

abbrev pub reply_text : {A : Type 0} → Notation A → Reply A → List ℕ
reply_text notation (Found value) = codes "found " ++ value_shown notation value
reply_text notation Missing = codes "missing"
reply_text notation Stored = codes "stored"
reply_text notation Exists = codes "exists"
reply_text notation Crowded = codes "crowded"
reply_text notation Deleted = codes "deleted"
reply_text notation (Ran code word) = codes "ran " ++ (decimal code ++ (32 ∷ decimal word))
reply_text notation (Count n) = codes "count " ++ decimal n

abbrev pub answer_text : {A : Type 0} → Notation A → Answer A → List ℕ
answer_text notation (Replied entry) = reply_text notation entry.reply
answer_text notation (Refused PairTooLarge) = codes "refused PairTooLarge"
answer_text notation (Refused ArgTooLong) = codes "refused ArgTooLong"
