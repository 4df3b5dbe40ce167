-- Correctness of the fast path that answers a line without building a command.
use Rattle.std.proofs.Common.{◌≡◌, ◌∙◌, ℕ, List, [], ◌∷◌, ◌++◌, Bool, true, false, Option, Some, None, unwrap_or, codes, refl, sym, ap, subst}
use Rattle.std.specs.FinMap as map
use Rattle.bpf_verify.specs.Verified.{Accepted}
use Rattle.sdbm_addr.specs.Database.{Database, IsDatabase, pairs_at}
use Rattle.sdbm_addr.specs.Pairs.{Pair, value_of}
use Rattle.sdbm_addr.specs.declared.Mode.{Mode}
use Rattle.sdbm_addr.specs.declared.Mode.TheVariants.{Insert, Replace}
use Rattle.store_cmd.specs.declared.Command.{Command}
use Rattle.store_cmd.specs.declared.Command.TheVariants.{Fetch, Store}
use Rattle.store_cmd.specs.declared.Reply.TheVariants.{Found, Missing}
use Rattle.store_moves.specs.Acts.{Acts}
use Rattle.store_moves.specs.Leads.{IsPlaceOf, changed_by}
use Rattle.store_moves.specs.Works.{fetched}
use Rattle.store_moves.proofs.Acting.{Acts-on_page}
use Rattle.dbm_script.specs.Commands.{fetch_of, store_of}
use Rattle.dbm_script.specs.Direct.{IfAnswered, IfDone, store_name}
use Rattle.dbm_script.specs.Lines.{ask_of, plain}
use Rattle.dbm_script.specs.Notation.{hex_bytes, reads_hex, value_shown}
use Rattle.dbm_script.specs.Pieces.{pieces_of}
use Rattle.dbm_script.specs.Script.{AnswersCommand, AnswersLine, stage}
use Rattle.dbm_script.specs.declared.answers.Answer.TheVariants.{Replied}
use Rattle.dbm_script.specs.declared.lines.Ask.{Ask}
use Rattle.dbm_script.specs.declared.lines.Ask.TheVariants.{Plain}
use Rattle.dbm_script.specs.declared.notations.Notation.{Notation}
use Rattle.dbm_script.proofs.HexWords.{hex_word, in_hex}

-- ---- fetch

unchanged : (A : Type 0) (db : Database) (n : ℕ) (value : Option (List ℕ)) → db ≡ changed_by db n (fetched {A = A} value).change
unchanged A db n None = refl
unchanged A db n (Some value) = refl

fetch_acts : {A : Type 0} (db : Database) → IsDatabase db → (place : _) (key : List ℕ) (value : Option (List ℕ)) → IsPlaceOf db key place → value_of (pairs_at db place.page) key ≡ value
    → Acts {A = A} db (record { session = 0; command = Fetch key; reply = (fetched {A = A} value).reply }) db
fetch_acts {A} db ok place key value leads is =
    Acts-on_page db db ok place 0 (Fetch key) (fetched {A = A} value).reply tt tt leads tt
    (ap (λ (v : Option (List ℕ)). (fetched {A = A} v).reply) (sym is))
    (unchanged A db place.page value ∙ ap (λ (v : Option (List ℕ)). changed_by db place.page (fetched {A = A} v).change) (sym is))

-- a fetch of a missing key, and of an existing key
pub fetch_missing : (A : Type 0) (n : Notation A) (db : Database) → IsDatabase db → (place : _) (key : List ℕ) → IsPlaceOf db key place → value_of (pairs_at db place.page) key ≡ None
    → AnswersCommand A n db (Fetch key) (codes "missing") db
fetch_missing A n db ok place key leads is =
    (Replied (record { session = 0; command = Fetch key; reply = Missing }), ((tt, (refl, (refl, fetch_acts db ok place key None leads is))), refl))

pub fetch_found : (A : Type 0) (n : Notation A) (db : Database) → IsDatabase db → (place : _) (key value : List ℕ) → IsPlaceOf db key place → value_of (pairs_at db place.page) key ≡ Some value
    → AnswersCommand A n db (Fetch key) (codes "found " ++ value_shown n value) db
fetch_found A n db ok place key value leads is =
    (Replied (record { session = 0; command = Fetch key; reply = Found value }), ((tt, (refl, (refl, fetch_acts db ok place key (Some value) leads is))), refl))

-- the value of a key, from the pairs of its page
pub on_page : (db : Database) (n : ℕ) (key : List ℕ) (page : Option (List Pair)) (value : Option (List ℕ)) → page ≡ map.get db.pages n → value_of (unwrap_or page []) key ≡ value → value_of (pairs_at db n) key ≡ value
on_page db n key page value is e = ap (λ (p : Option (List Pair)). value_of (unwrap_or p []) key) (sym is) ∙ e

-- ---- lines

pub asks_fetch : {A : Type 0} (n : Notation A) (word key : List ℕ) → reads_hex n ≡ true → hex_bytes word ≡ Some key → ask_of n (codes "fetch" ∷ pieces_of 32 word) ≡ Some (Plain (Fetch key))
asks_fetch n word key hex is =
    ap (λ (words : List (List ℕ)). ask_of n (codes "fetch" ∷ words)) (hex_word word key is) ∙ ap (λ (k : Option (List ℕ)). plain (fetch_of k)) (in_hex n word hex ∙ is)

stores : {A : Type 0} (n : Notation A) (mode : Mode) (k v : Option (List ℕ)) (key value : List ℕ) → k ≡ Some key → v ≡ Some value → plain (store_of {A = A} k v mode) ≡ Some (Plain (Store key value mode))
stores n mode k v key value ek ev = rw (ek, ev) refl

two_words : {A : Type 0} (n : Notation A) (mode : Mode) (a b key value : List ℕ) → reads_hex n ≡ true → hex_bytes a ≡ Some key → hex_bytes b ≡ Some value
    → ask_of n (store_name mode ∷ a ∷ b ∷ []) ≡ Some (Plain (Store key value mode))
two_words n Insert a b key value hex ea eb = stores n Insert _ _ key value (in_hex n a hex ∙ ea) (in_hex n b hex ∙ eb)
two_words n Replace a b key value hex ea eb = stores n Replace _ _ key value (in_hex n a hex ∙ ea) (in_hex n b hex ∙ eb)

pub asks_store : {A : Type 0} (n : Notation A) (mode : Mode) (words a b key value : List ℕ) → reads_hex n ≡ true → pieces_of 32 words ≡ a ∷ pieces_of 32 b → hex_bytes a ≡ Some key → hex_bytes b ≡ Some value
    → ask_of n (store_name mode ∷ pieces_of 32 words) ≡ Some (Plain (Store key value mode))
asks_store n mode words a b key value hex cut ea eb =
    ap (λ (ws : List (List ℕ)). ask_of n (store_name mode ∷ ws)) (cut ∙ ap (λ (ws : List (List ℕ)). a ∷ ws) (hex_word b value eb)) ∙ two_words n mode a b key value hex ea eb

-- the answer to a line that contains a command is the answer to that command
pub plain_line : (A : Type 0) (n : Notation A) (programs : List Accepted) (words : List (List ℕ)) (command : Command A) (done : Bool) (db db' : Database) (old new : List ℕ)
    → ask_of n words ≡ Some (Plain command) → IfAnswered A n command done db old db' new → IfDone A n programs words done db old db' new
plain_line A n programs words command true db db' old new is adds = record {
  added = adds.added;
  is = adds.is;
  holds = subst (λ (ask : Option (Ask A)). AnswersLine A n (stage db programs) ask None adds.added (stage db' programs)) (sym is) (refl, (refl, adds.holds));
}
plain_line A n programs words command false db db' old new is same = same
