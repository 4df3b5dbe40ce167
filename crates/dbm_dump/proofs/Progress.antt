-- Progress through the lines of a dump.
use Rattle.std.proofs.Common.{◌≡◌, ℕ, ◌+◌, ◌<◌, List, [], ◌∷◌, ◌++◌, length, length-append, Bool, true, false, cond, Option, Some, None, IfSome, inl, inr, refl, sym, ap, ◌∙◌, subst, append_assoc, arith}
use Rattle.std.proofs.lemmas.List.{append-nil}
use Rattle.sdbm_addr.specs.declared.Mode.{Mode}
use Rattle.sdbm_addr.specs.Database.{Database}
use Rattle.sdbm_addr.specs.Pairs.{Pair}
use Rattle.dbm_script.specs.Pieces.{pieces_of}
use Rattle.dbm_dump.specs.declared.fault.DumpFault.{DumpFault}
use Rattle.dbm_dump.specs.declared.fault.DumpFault.TheVariants as fault
use Rattle.dbm_dump.specs.declared.key_head.KeyHead.{KeyHead}
use Rattle.dbm_dump.specs.declared.loading.Loading.{Loading}
use Rattle.dbm_dump.specs.declared.stage.Stage.{Stage}
use Rattle.dbm_dump.specs.Steps.{is_end}
use Rattle.dbm_dump.specs.Reading.{lines_of, pair_list, read, read_so, whole, without_empty_end}
use Rattle.dbm_dump.specs.Loading.{AtLine, GivesLine, IsBad, IsLineCrowded, IsCutOff, IsLineFault, IsLoadFault, IsLoaded, IsOversized, IsLoadStepFault, StoresAll, TakesLine, line_limit}
use Rattle.dbm_script.specs.LineInput.{GivesNextLine, IsLongNext, Unread, lines_left}
use Rattle.dbm_script.proofs.CutTexts.{unread}
use Rattle.dbm_script.proofs.LinesGiven.{known, next_line, no_line}
use Rattle.dbm_dump.proofs.Ends.{after_line, empty_after, line_after, lines_after, none_after}
use Rattle.dbm_dump.proofs.MoreLines.{read_more}
use Rattle.dbm_dump.proofs.MorePairs.{StoresAll-append, StoresAll-unique}

-- `number - 1` lines are done, and the rest are left
pub record Progress (start : Stage) (mode : Mode) (db : Database) (input : List ℕ) (number : ℕ) (left : Option (List (List ℕ))) (loading : Loading) : Type 0 where
  pub done : List (List ℕ)
  pub pieces : List (List ℕ)
  pub left_is : left ≡ Some pieces
  pub lines : lines_of input ≡ done ++ lines_after done pieces
  pub number_is : number ≡ length done + 1
  pub pairs : List Pair
  pub reads : read start done ≡ Some (read_so pairs loading.stage)
  pub stores : StoresAll mode db pairs loading.image
  pub count_is : loading.count ≡ length pairs

-- the next line, and the pieces after it
pub record NextLine (done : List (List ℕ)) (pieces : List (List ℕ)) (line : List ℕ) (left' : Option (List (List ℕ))) : Type 0 where
  pub behind : List (List ℕ)
  pub behind_is : left' ≡ Some behind
  pub line_is : lines_after done pieces ≡ line ∷ without_empty_end behind

pub given_next : (start : Stage) (mode : Mode) (db : Database) (input : List ℕ) (number : ℕ) (left : Option (List (List ℕ))) (loading : Loading) (line : List ℕ) (left' : Option (List (List ℕ)))
    → (p : Progress start mode db input number left loading) → GivesLine number left true line left' → NextLine p.done p.pieces line left'
given_next start mode db input number left loading line left' p gives =
    let next = next_line p.pieces line left' (subst (λ (l : Option (List (List ℕ))). GivesNextLine l true line left') p.left_is gives.0) in
    record {
      behind = next.0;
      behind_is = next.1.1;
      line_is = ap (lines_after p.done) next.1.0 ∙ line_after p.done line next.0 (λ is. sym p.number_is ∙ gives.1 (p.left_is ∙ ap Some (next.1.0 ∙ is)));
    }

pub taken : (start : Stage) (mode : Mode) (db : Database) (input : List ℕ) (number : ℕ) (left : Option (List (List ℕ))) (loading : Loading) (line : List ℕ) (left' : Option (List (List ℕ))) (after : Loading)
    → Progress start mode db input number left loading → GivesLine number left true line left' → TakesLine mode loading line after → Progress start mode db input (number + 1) left' after
taken start mode db input number left loading line left' after p gives takes =
    let next = given_next start mode db input number left loading line left' p gives in
    record {
      done = p.done ++ line ∷ [];
      pieces = next.behind;
      left_is = next.behind_is;
      lines = p.lines ∙ ap (λ (ls : List (List ℕ)). p.done ++ ls) next.line_is ∙ sym (append_assoc p.done (line ∷ []) (without_empty_end next.behind))
          ∙ ap (λ (ls : List (List ℕ)). (p.done ++ line ∷ []) ++ ls) (sym (after_line p.done line next.behind));
      number_is = ap (λ (n : ℕ). n + 1) (p.number_is ∙ sym (length-append p.done (line ∷ [])));
      pairs = p.pairs ++ pair_list takes.next.pair;
      reads = read_more start p.done line (read_so p.pairs loading.stage) takes.next p.reads takes.steps
          ∙ ap (λ (s : Stage). Some (read_so (p.pairs ++ pair_list takes.next.pair) s)) (sym takes.stage_is);
      stores = StoresAll-append mode db loading.image after.image p.pairs (pair_list takes.next.pair) p.stores takes.stores;
      count_is = takes.count_is ∙ ap (λ (n : ℕ). n + length (pair_list takes.next.pair)) p.count_is ∙ sym (length-append p.pairs (pair_list takes.next.pair));
    }

-- no lines are left
no_more : (done pieces : List (List ℕ)) (number : ℕ) (line : List ℕ) (left' : Option (List (List ℕ))) → number ≡ length done + 1 → GivesLine number (Some pieces) false line left' → lines_after done pieces ≡ []
no_more done pieces number line left' is (inl gives) = ap (lines_after done) (no_line pieces line left' gives) ∙ none_after done
no_more done pieces number line left' is (inr end) = ap (lines_after done) end.1 ∙ empty_after done (subst (λ (n : ℕ). 1 < n) is end.0)

-- all lines are done
all_read : (start : Stage) (mode : Mode) (db : Database) (input : List ℕ) (number : ℕ) (left : Option (List (List ℕ))) (loading : Loading) (line : List ℕ) (left' : Option (List (List ℕ)))
    → (p : Progress start mode db input number left loading) → GivesLine number left false line left' → read start (lines_of input) ≡ Some (read_so p.pairs loading.stage)
all_read start mode db input number left loading line left' p gives =
    let none = no_more p.done p.pieces number line left' p.number_is (subst (λ (l : Option (List (List ℕ))). GivesLine number l false line left') p.left_is gives) in
    ap (read start) (p.lines ∙ ap (λ (ls : List (List ℕ)). p.done ++ ls) none ∙ append-nil p.done) ∙ p.reads

pub loaded : (start : Stage) (mode : Mode) (db : Database) (input : List ℕ) (number : ℕ) (left : Option (List (List ℕ))) (loading : Loading) (line : List ℕ) (left' : Option (List (List ℕ))) (image : Database) (count : ℕ)
    → Progress start mode db input number left loading → GivesLine number left false line left' → is_end loading.stage ≡ true → image ≡ loading.image → count ≡ loading.count → IsLoaded start mode db input count image
loaded start mode db input number left loading line left' image count p gives end images counts = record {
  pairs = p.pairs;
  reads = ap whole (all_read start mode db input number left loading line left' p gives) ∙ ap (λ (b : Bool). cond b (Some p.pairs) None) end;
  stores = subst (λ (d : Database). StoresAll mode db p.pairs d) (sym images) p.stores;
  count_is = counts ∙ p.count_is;
  only = λ other others. StoresAll-unique mode db image other p.pairs (subst (λ (d : Database). StoresAll mode db p.pairs d) (sym images) p.stores) others;
}

pub cut_off : (start : Stage) (mode : Mode) (db : Database) (input : List ℕ) (number : ℕ) (left : Option (List (List ℕ))) (loading : Loading) (line : List ℕ) (left' : Option (List (List ℕ)))
    → Progress start mode db input number left loading → GivesLine number left false line left' → is_end loading.stage ≡ false → IsCutOff start mode db input
cut_off start mode db input number left loading line left' p gives end =
    record {
      all = read_so p.pairs loading.stage;
      reads = all_read start mode db input number left loading line left' p gives;
      early = end;
      mid = loading.image;
      stores = p.stores;
    }

-- a fault in the next line
at_line : (start : Stage) (mode : Mode) (db : Database) (input : List ℕ) (number n : ℕ) (left : Option (List (List ℕ))) (loading : Loading) (line : List ℕ) (behind : List (List ℕ)) (P : Stage → Database → List ℕ → Type 0)
    → (p : Progress start mode db input number left loading) → lines_after p.done p.pieces ≡ line ∷ behind → n ≡ number → P loading.stage loading.image line → AtLine start mode db input n P
at_line start mode db input number n left loading line behind P p next same holds = record {
  before = p.done;
  line = line;
  behind = behind;
  lines = p.lines ∙ ap (λ (ls : List (List ℕ)). p.done ++ ls) next;
  number_is = same ∙ p.number_is;
  so_far = read_so p.pairs loading.stage;
  reads = p.reads;
  mid = loading.image;
  stores = p.stores;
  holds = holds;
}

pub step_fault : (start : Stage) (mode : Mode) (db : Database) (input : List ℕ) (number : ℕ) (left : Option (List (List ℕ))) (loading : Loading) (line : List ℕ) (left' : Option (List (List ℕ))) (f : DumpFault)
    → Progress start mode db input number left loading → GivesLine number left true line left' → loading.image.size ≡ db.size → IsLoadStepFault mode loading line number f → IsLoadFault start mode db input f
step_fault start mode db input number left loading line left' fault.BadFormat p gives size is = absurd is
step_fault start mode db input number left loading line left' fault.Read p gives size is = absurd is
step_fault start mode db input number left loading line left' (fault.BadDump n) p gives size is =
    let next = given_next start mode db input number left loading line left' p gives in
    at_line start mode db input number n left loading line (without_empty_end next.behind) IsBad p next.line_is is.0 is.1
step_fault start mode db input number left loading line left' (fault.TooLarge n key) p gives size is =
    let next = given_next start mode db input number left loading line left' p gives in
    subst (λ z. AtLine start mode db input n (IsOversized z key)) size
    (at_line start mode db input number n left loading line (without_empty_end next.behind) (IsOversized loading.image.size key) p next.line_is is.0 (inr is.1))
step_fault start mode db input number left loading line left' (fault.Crowded n key) p gives size is =
    let next = given_next start mode db input number left loading line left' p gives in
    at_line start mode db input number n left loading line (without_empty_end next.behind) (IsLineCrowded mode key) p next.line_is is.0 is.1
step_fault start mode db input number left loading line left' fault.CutOff p gives size is = absurd is
step_fault start mode db input number left loading line left' fault.NoMemory p gives size is = tt

-- a line that is too long is not the empty end
long_line : (line : List ℕ) (behind : List (List ℕ)) → line_limit < length line → line ∷ behind ≡ [] ∷ [] → ⊥
long_line [] behind long is = omega arith
long_line (c ∷ cs) behind long is = cc

long_at : (start : Stage) (mode : Mode) (db : Database) (input : List ℕ) (number n : ℕ) (left : Option (List (List ℕ))) (loading : Loading) (pieces : List (List ℕ))
    → (p : Progress start mode db input number left loading) → p.pieces ≡ pieces → n ≡ number → IsLongNext line_limit (Some pieces) → (key : Option KeyHead) → key ≡ None
    → AtLine start mode db input n (IsOversized db.size key)
long_at start mode db input number n left loading [] p is same long key none = absurd long
long_at start mode db input number n left loading (l ∷ ls) p is same long key none =
    at_line start mode db input number n left loading l (without_empty_end ls) (IsOversized db.size key) p
    (ap (lines_after p.done) is ∙ line_after p.done l ls (λ empty. absurd (long_line l ls long empty))) same (inl (long, none))

pub line_fault : (start : Stage) (mode : Mode) (db : Database) (input : List ℕ) (number : ℕ) (left : Option (List (List ℕ))) (loading : Loading) (f : DumpFault)
    → Progress start mode db input number left loading → IsLineFault number left f → IsLoadFault start mode db input f
line_fault start mode db input number left loading fault.BadFormat p is = absurd is
line_fault start mode db input number left loading fault.Read p is = tt
line_fault start mode db input number left loading (fault.BadDump n) p is = absurd is
line_fault start mode db input number left loading (fault.TooLarge n key) p is =
    long_at start mode db input number n left loading p.pieces p refl is.0 (subst (λ (l : Option (List (List ℕ))). IsLongNext line_limit l) p.left_is is.1.1) key is.1.0
line_fault start mode db input number left loading (fault.Crowded n key) p is = absurd is
line_fault start mode db input number left loading fault.CutOff p is = absurd is
line_fault start mode db input number left loading fault.NoMemory p is = tt

-- ---- if the bytes are known

-- nothing is read yet
pub begun : (start : Stage) (mode : Mode) (db : Database) (input : List ℕ) (u : Unread) (loading : Loading) → u.rest ≡ [] → u.ended ≡ false → loading.image ≡ db → loading.stage ≡ start → loading.count ≡ 0
    → Progress start mode db input 1 (lines_left u (Some input)) loading
begun start mode db input u loading rest ended image stage count = record {
  done = [];
  pieces = pieces_of 10 input;
  left_is = ap (λ (b : Bool). lines_left (unread u.rest b) (Some input)) ended ∙ ap (λ (r : List ℕ). lines_left (unread r false) (Some input)) rest;
  lines = refl;
  number_is = refl;
  pairs = [];
  reads = ap (λ (s : Stage). Some (read_so [] s)) (sym stage);
  stores = image;
  count_is = count;
}

abbrev pub AllProgress : Stage → Mode → Database → Option (List ℕ) → ℕ → Option (List (List ℕ)) → Loading → Type 0
AllProgress start mode db bytes number left loading = IfSome bytes (λ input. Progress start mode db input number left loading)

pub all_begun : (start : Stage) (mode : Mode) (db : Database) (bytes : Option (List ℕ)) (u : Unread) (loading : Loading) → u.rest ≡ [] → u.ended ≡ false → loading.image ≡ db → loading.stage ≡ start → loading.count ≡ 0
    → AllProgress start mode db bytes 1 (lines_left u bytes) loading
all_begun start mode db None u loading rest ended image stage count = tt
all_begun start mode db (Some input) u loading rest ended image stage count = begun start mode db input u loading rest ended image stage count

pub all_taken : (start : Stage) (mode : Mode) (db : Database) (bytes : Option (List ℕ)) (number : ℕ) (left : Option (List (List ℕ))) (loading : Loading) (line : List ℕ) (left' : Option (List (List ℕ))) (after : Loading)
    → AllProgress start mode db bytes number left loading → GivesLine number left true line left' → TakesLine mode loading line after → AllProgress start mode db bytes (number + 1) left' after
all_taken start mode db bytes number left loading line left' after all gives takes =
    known bytes (λ input. Progress start mode db input number left loading) (λ input. Progress start mode db input (number + 1) left' after)
    (λ input p. taken start mode db input number left loading line left' after p gives takes) all

pub all_loaded : (start : Stage) (mode : Mode) (db : Database) (bytes : Option (List ℕ)) (number : ℕ) (left : Option (List (List ℕ))) (loading : Loading) (line : List ℕ) (left' : Option (List (List ℕ))) (image : Database) (count : ℕ)
    → AllProgress start mode db bytes number left loading → GivesLine number left false line left' → is_end loading.stage ≡ true → image ≡ loading.image → count ≡ loading.count
    → IfSome bytes (λ input. IsLoaded start mode db input count image)
all_loaded start mode db bytes number left loading line left' image count all gives end images counts =
    known bytes (λ input. Progress start mode db input number left loading) (λ input. IsLoaded start mode db input count image)
    (λ input p. loaded start mode db input number left loading line left' image count p gives end images counts) all

pub all_cut_off : (start : Stage) (mode : Mode) (db : Database) (bytes : Option (List ℕ)) (number : ℕ) (left : Option (List (List ℕ))) (loading : Loading) (line : List ℕ) (left' : Option (List (List ℕ)))
    → AllProgress start mode db bytes number left loading → GivesLine number left false line left' → is_end loading.stage ≡ false → IfSome bytes (λ input. IsCutOff start mode db input)
all_cut_off start mode db bytes number left loading line left' all gives end =
    known bytes (λ input. Progress start mode db input number left loading) (λ input. IsCutOff start mode db input) (λ input p. cut_off start mode db input number left loading line left' p gives end) all

pub all_step_fault : (start : Stage) (mode : Mode) (db : Database) (bytes : Option (List ℕ)) (number : ℕ) (left : Option (List (List ℕ))) (loading : Loading) (line : List ℕ) (left' : Option (List (List ℕ))) (f : DumpFault)
    → AllProgress start mode db bytes number left loading → GivesLine number left true line left' → loading.image.size ≡ db.size → IsLoadStepFault mode loading line number f → IfSome bytes (λ input. IsLoadFault start mode db input f)
all_step_fault start mode db bytes number left loading line left' f all gives size is =
    known bytes (λ input. Progress start mode db input number left loading) (λ input. IsLoadFault start mode db input f) (λ input p. step_fault start mode db input number left loading line left' f p gives size is) all

pub all_line_fault : (start : Stage) (mode : Mode) (db : Database) (bytes : Option (List ℕ)) (number : ℕ) (left : Option (List (List ℕ))) (loading : Loading) (f : DumpFault)
    → AllProgress start mode db bytes number left loading → IsLineFault number left f → IfSome bytes (λ input. IsLoadFault start mode db input f)
all_line_fault start mode db bytes number left loading f all is =
    known bytes (λ input. Progress start mode db input number left loading) (λ input. IsLoadFault start mode db input f) (λ input p. line_fault start mode db input number left loading f p is) all
