-- Progress through the lines of a session.
use Rattle.std.proofs.Common.{◌≡◌, ◌≤◌, ℕ, ◌+◌, List, [], ◌∷◌, ◌++◌, length, length-append, Bool, true, false, Option, Some, None, IfSome, codes, refl, sym, ap, ◌∙◌, subst, append_assoc, append-nil, Result, Ok, Err, IfErr, arith}
use Rattle.std.specs.Io.KnownBytes.{Appends, Keeps}
use Rattle.std.proofs.KnownBytes.{Appends-kept, Appends-nil, Appends-trans}
use Rattle.std.proofs.Math.Seq.{take-append-add, take-length}
use Rattle.std.specs.declared.alloc.Global.{Global}
use Rattle.bpf_verify.specs.Verified.{Accepted}
use Rattle.sdbm_addr.specs.Database.{Database}
use Rattle.dbm_script.specs.Images.{ImageVerdict}
use Rattle.std.specs.List.{All}
use Rattle.std.proofs.lemmas.List.Elements.{All-head, All-tail}
use Rattle.dbm_script.specs.Pieces.{pieces_of}
use Rattle.dbm_script.proofs.Runs.{RunsLines-append}
use Rattle.dbm_script.specs.Script.{RunsLines, Stage, stage}
use Rattle.dbm_script.specs.Shorthand.{spelled_line}
use Rattle.dbm_script.specs.declared.notations.Notation.{Notation}
use Rattle.dbm_script.specs.declared.shorthand.LineKind.TheVariants.{OfScript}
use Rattle.dbm_script.specs.declared.shorthand.TimeOfDay.{TimeOfDay}
use Rattle.dbm_script.specs.LineInput.{GivesEnded, Unread, lines_left}
use Rattle.dbm_script.proofs.CutTexts.{unread}
use Rattle.dbm_script.proofs.LinesGiven.{known, some_pieces}
use Rattle.dbm_session.specs.HostCalls.{DidSave, GaveTime, HostCall, Logs, saves_in, times_in}
use Rattle.dbm_session.specs.Sessions.{Answered, AnsweredOwn, AnsweredTimed, AnswersAs, AnswersSessionLine, AnswersThenSaves, AreLinesSpelled, SessionEnds, IsOfScript, MaySave, RunsAsScript, RunsSession, SavesAtMostOne, SavesMaybe, SessionStops, WritesSome, before_last, ended_lines, half_after, half_line, is_own, is_save, last_after, last_piece}

-- ---- logs

pub Logs-nil : (a : Option (List HostCall)) → Logs a a []
Logs-nil None = tt
Logs-nil (Some x) = sym (append-nil x)

pub Logs-trans : (a b c : Option (List HostCall)) (x y : List HostCall) → Logs a b x → Logs b c y → Logs a c (x ++ y)
Logs-trans None b c x y p q = tt
Logs-trans (Some a) None c x y p q = absurd p
Logs-trans (Some a) (Some b) None x y p q = absurd q
Logs-trans (Some a) (Some b) (Some c) x y p q = q ∙ ap (λ (l : List HostCall). l ++ y) p ∙ append_assoc a x y

pub Logs-same : (a b : Option (List HostCall)) → b ≡ a → Logs a b []
Logs-same a b is = subst (λ (x : Option (List HostCall)). Logs a x []) (sym is) (Logs-nil a)

-- prepending an unchanged log
pub Logs-from : (a b c : Option (List HostCall)) (x : List HostCall) → b ≡ a → Logs b c x → Logs a c x
Logs-from a b c x same p = subst (λ (l : Option (List HostCall)). Logs l c x) same p

pub Logs-to : (a b c : Option (List HostCall)) (x : List HostCall) → c ≡ b → Logs a b x → Logs a c x
Logs-to a b c x same p = subst (λ (l : Option (List HostCall)). Logs a l x) (sym same) p

pub saves_none : (a b : Option (List HostCall)) (db : Database) → b ≡ a → SavesMaybe a b db
saves_none a b db same = record { calls = []; may = tt; kept = Logs-same a b same }

-- no call was logged
pub saves_no_more : (a b : Option (List HostCall)) → b ≡ a → SavesAtMostOne a b
saves_no_more a b same = record { calls = []; few = omega arith; kept = Logs-same a b same }

-- only a time was logged
pub saves_no_time : (a b : Option (List HostCall)) (time : Option TimeOfDay) → Logs a b (GaveTime time ∷ []) → SavesAtMostOne a b
saves_no_time a b time kept = record { calls = GaveTime time ∷ []; few = omega arith; kept = kept }

may_be_few : (calls : List HostCall) (db : Database) → MaySave calls db → length (saves_in calls) ≤ 1
may_be_few [] db may = omega arith
may_be_few (call ∷ []) db may = subst (λ (x : HostCall). length (saves_in (x ∷ [])) ≤ 1) (sym may) (omega arith)
may_be_few (call ∷ other ∷ others) db may = absurd may

-- a save that may have failed
pub saves_at_most_one : (a b : Option (List HostCall)) (db : Database) → SavesMaybe a b db → SavesAtMostOne a b
saves_at_most_one a b db maybe = record { calls = maybe.calls; few = may_be_few maybe.calls db maybe.may; kept = maybe.kept }

-- a time was logged before
pub saves_after_time : (n : Notation Global) (s s' : Stage) (line text : List ℕ) (a b c : Option (List HostCall)) → AnsweredTimed n s line text a b s' → SavesAtMostOne b c → SavesAtMostOne a c
saves_after_time n s s' line text a b c one maybe = record {
  calls = one.calls ++ maybe.calls;
  few = subst (λ (calls : List HostCall). length (saves_in (calls ++ maybe.calls)) ≤ 1) (sym one.answers.calls_are) maybe.few;
  kept = Logs-trans a b c one.calls maybe.calls one.kept maybe.kept;
}

-- the prompt before it logged nothing
pub saves_from : (a b c : Option (List HostCall)) → b ≡ a → SavesAtMostOne b c → SavesAtMostOne a c
saves_from a b c same maybe = subst (λ (l : Option (List HostCall)). SavesAtMostOne l c) same maybe

-- ---- the lines of a text

before_appended : (line : List ℕ) (lines : List (List ℕ)) (rest : List ℕ) → before_last line (lines ++ rest ∷ []) ≡ line ∷ lines
before_appended line [] rest = refl
before_appended line (l ∷ ls) rest = ap (λ (xs : List (List ℕ)). line ∷ xs) (before_appended l ls rest)

ended_appended : (done : List (List ℕ)) (rest : List ℕ) → ended_lines (done ++ rest ∷ []) ≡ done
ended_appended [] rest = refl
ended_appended (line ∷ lines) rest = before_appended line lines rest

last_appended : (line : List ℕ) (lines : List (List ℕ)) (rest : List ℕ) → last_after line (lines ++ rest ∷ []) ≡ rest
last_appended line [] rest = refl
last_appended line (l ∷ ls) rest = last_appended l ls rest

last_is : (done : List (List ℕ)) (rest : List ℕ) → last_piece (done ++ rest ∷ []) ≡ rest
last_is [] rest = refl
last_is (line ∷ lines) rest = last_appended line lines rest

before_more : (line : List ℕ) (lines : List (List ℕ)) (other : List ℕ) (others : List (List ℕ)) → before_last line (lines ++ other ∷ others) ≡ (line ∷ lines) ++ before_last other others
before_more line [] other others = refl
before_more line (l ∷ ls) other others = ap (λ (xs : List (List ℕ)). line ∷ xs) (before_more l ls other others)

-- the lines of a text are those done and the remaining ones
ended_more : (done : List (List ℕ)) (other : List ℕ) (others : List (List ℕ)) → ended_lines (done ++ other ∷ others) ≡ done ++ before_last other others
ended_more [] other others = refl
ended_more (line ∷ lines) other others = before_more line lines other others

-- running one more line
RunsSession-append : (n : Notation Global) (s mid s' : Stage) (done : List (List ℕ)) (line text added : List ℕ) (calls more : List HostCall) → RunsSession n s done text calls mid
    → AnswersSessionLine n mid line added more s' → RunsSession n s (done ++ line ∷ []) (text ++ added) (calls ++ more) s'
RunsSession-append n s mid s' [] line text added calls more r a =
    subst (λ (x : List ℕ). RunsSession n s (line ∷ []) (x ++ added) (calls ++ more) s') (sym r.0)
    (subst (λ (x : List HostCall). RunsSession n s (line ∷ []) added (x ++ more) s') (sym r.1.0)
    (subst (λ (m : Stage). RunsSession n m (line ∷ []) added more s') r.1.1
    (record {
      first = added;
      rest = [];
      now = more;
      later = [];
      mid = s';
      answers = a;
      others = (refl, (refl, refl));
      text_is = sym (append-nil added);
      calls_are = sym (append-nil more);
    })))
RunsSession-append n s mid s' (l ∷ ls) line text added calls more r a = record {
  first = r.first;
  rest = r.rest ++ added;
  now = r.now;
  later = r.later ++ more;
  mid = r.mid;
  answers = r.answers;
  others = RunsSession-append n r.mid mid s' ls line r.rest added r.later more r.others a;
  text_is = ap (λ (xs : List ℕ). xs ++ added) r.text_is ∙ append_assoc r.first r.rest added;
  calls_are = ap (λ (xs : List HostCall). xs ++ more) r.calls_are ∙ append_assoc r.now r.later more;
}

-- some lines are answered, and the rest are left
pub record Progress (n : Notation Global) (db : Database) (input : List ℕ) (count : ℕ) (left : Option (List (List ℕ))) (old now : Option (List ℕ)) (log log' : Option (List HostCall)) (s : Stage) : Type 0 where
  pub done : List (List ℕ)
  pub first : List ℕ
  pub others : List (List ℕ)
  pub left_is : left ≡ Some (first ∷ others)
  pub lines : pieces_of 10 input ≡ done ++ first ∷ others
  pub count_is : count ≡ length done
  pub text : List ℕ
  pub calls : List HostCall
  pub runs : RunsSession n (stage db []) done text calls s
  pub written : Appends old now text
  pub kept : Logs log log' calls

-- the lines that are done, and the lines after them
done_of : (n : Notation Global) (db : Database) (input : List ℕ) (count : ℕ) (left : Option (List (List ℕ))) (old now : Option (List ℕ)) (a b : Option (List HostCall)) (s : Stage)
    → (p : Progress n db input count left old now a b s) → ended_lines (pieces_of 10 input) ≡ p.done ++ before_last p.first p.others
done_of n db input count left old now a b s p = ap ended_lines p.lines ∙ ended_more p.done p.first p.others

-- the next line, ended by LF, and the remaining pieces
pub record NextLine (first : List ℕ) (others : List (List ℕ)) (line : List ℕ) (left' : Option (List (List ℕ))) : Type 0 where
  pub next : List ℕ
  pub behind : List (List ℕ)
  pub line_is : first ∷ others ≡ line ∷ next ∷ behind
  pub left_is : left' ≡ Some (next ∷ behind)

next_ended : (first : List ℕ) (others : List (List ℕ)) (line : List ℕ) (left' : Option (List (List ℕ))) → GivesEnded (Some (first ∷ others)) true line left' → NextLine first others line left'
next_ended first [] line left' gives = absurd (no gives.0)
  where
    no : true ≡ false → ⊥
    no h = cc
next_ended first (o ∷ os) line left' gives = record { next = o; behind = os; line_is = ap (λ (x : List ℕ). x ∷ o ∷ os) (sym gives.1.0); left_is = gives.1.1 }

given : (left : Option (List (List ℕ))) (first : List ℕ) (others : List (List ℕ)) (is_ended : Bool) (line : List ℕ) (left' : Option (List (List ℕ))) → left ≡ Some (first ∷ others)
    → GivesEnded left is_ended line left' → GivesEnded (Some (first ∷ others)) is_ended line left'
given left first others is_ended line left' is gives = subst (λ (l : Option (List (List ℕ))). GivesEnded l is_ended line left') is gives

answered : (n : Notation Global) (db : Database) (input : List ℕ) (count : ℕ) (left : Option (List (List ℕ))) (old now now' : Option (List ℕ)) (a b c : Option (List HostCall)) (s s' : Stage) (line added : List ℕ)
    (left' : Option (List (List ℕ))) → Progress n db input count left old now a b s → GivesEnded left true line left' → Answered n s line added b c s' → Appends now now' added
    → Progress n db input (count + 1) left' old now' a c s'
answered n db input count left old now now' a b c s s' line added left' p gives one writes =
    let next = next_ended p.first p.others line left' (given left p.first p.others true line left' p.left_is gives) in
    record {
      done = p.done ++ line ∷ [];
      first = next.next;
      others = next.behind;
      left_is = next.left_is;
      lines = p.lines ∙ ap (λ (ls : List (List ℕ)). p.done ++ ls) next.line_is ∙ sym (append_assoc p.done (line ∷ []) (next.next ∷ next.behind));
      count_is = ap (λ (n : ℕ). n + 1) p.count_is ∙ sym (length-append p.done (line ∷ []));
      text = p.text ++ added;
      calls = p.calls ++ one.calls;
      runs = RunsSession-append n (stage db []) s s' p.done line p.text added p.calls one.calls p.runs one.answers;
      written = Appends-trans old now now' p.text added p.written writes;
      kept = Logs-trans a b c p.calls one.calls p.kept one.kept;
    }

-- all lines are done; the last piece is left
all_done : (n : Notation Global) (db : Database) (input : List ℕ) (count : ℕ) (left : Option (List (List ℕ))) (old now : Option (List ℕ)) (a b : Option (List HostCall)) (s : Stage) (line : List ℕ)
    (left' : Option (List (List ℕ))) → (p : Progress n db input count left old now a b s) → GivesEnded left false line left' → pieces_of 10 input ≡ p.done ++ line ∷ []
all_done n db input count left old now a b s line left' p gives = p.lines ∙ ap (λ (ls : List (List ℕ)). p.done ++ ls) (only p.first p.others (given left p.first p.others false line left' p.left_is gives))
  where
    no : false ≡ true → ⊥
    no h = cc

    only : (first : List ℕ) (others : List (List ℕ)) → GivesEnded (Some (first ∷ others)) false line left' → first ∷ others ≡ line ∷ []
    only first [] h = ap (λ (x : List ℕ). x ∷ []) (sym h.1.0)
    only first (o ∷ os) h = absurd (no h.0)

ended : (n : Notation Global) (db : Database) (input : List ℕ) (count : ℕ) (left : Option (List (List ℕ))) (old now : Option (List ℕ)) (a b c : Option (List HostCall)) (image : Database) (programs : List Accepted)
    (line : List ℕ) (left' : Option (List (List ℕ))) (after : Database) → Progress n db input count left old now a b (stage image programs) → GivesEnded left false line left' → after ≡ image
    → Logs b c (DidSave image ∷ []) → SessionEnds n db (ended_lines (pieces_of 10 input)) old now a c after
ended n db input count left old now a b c image programs line left' after p gives is last =
    let lines : ended_lines (pieces_of 10 input) ≡ p.done
    = ap ended_lines (all_done n db input count left old now a b (stage image programs) line left' p gives) ∙ ended_appended p.done line in
    record {
      text = p.text;
      calls = p.calls;
      programs = programs;
      runs = subst (λ (d : Database). RunsSession n (stage db []) (ended_lines (pieces_of 10 input)) p.text p.calls (stage d programs)) (sym is)
          (subst (λ (ls : List (List ℕ)). RunsSession n (stage db []) ls p.text p.calls (stage image programs)) (sym lines) p.runs);
      written = p.written;
      kept = subst (λ (d : Database). Logs a c (p.calls ++ DidSave d ∷ [])) (sym is) (Logs-trans a b c p.calls (DidSave image ∷ []) p.kept last);
    }

half : (n : Notation Global) (db : Database) (input : List ℕ) (count : ℕ) (left : Option (List (List ℕ))) (old now : Option (List ℕ)) (a b : Option (List HostCall)) (s : Stage)
    (line : List ℕ) (left' : Option (List (List ℕ))) → Progress n db input count left old now a b s → GivesEnded left false line left' → half_after count line ≡ half_line (pieces_of 10 input)
half n db input count left old now a b s line left' p gives =
    let all = all_done n db input count left old now a b s line left' p gives in
    ap (λ (k : ℕ). half_after k line) (p.count_is ∙ ap length (sym (ended_appended p.done line)))
    ∙ ap (half_after (length (ended_lines (p.done ++ line ∷ [])))) (sym (last_is p.done line))
    ∙ ap half_line (sym all)

stopped : (n : Notation Global) (db : Database) (input : List ℕ) (count : ℕ) (left : Option (List (List ℕ))) (old now : Option (List ℕ)) (a b c : Option (List HostCall)) (s : Stage)
    → Progress n db input count left old now a b s → SavesAtMostOne b c → SessionStops n db (ended_lines (pieces_of 10 input)) old now a c
stopped n db input count left old now a b c s p maybe = record {
  done = p.done;
  behind = before_last p.first p.others;
  lines_are = done_of n db input count left old now a b s p;
  text = p.text;
  calls = p.calls;
  after = s;
  runs = p.runs;
  count = length p.text;
  written = subst (λ (t : List ℕ). Appends old now t) (sym (take-length p.text)) p.written;
  sure = b;
  kept = p.kept;
  maybe = maybe;
}

stopped_within : (n : Notation Global) (db : Database) (input : List ℕ) (count : ℕ) (left : Option (List (List ℕ))) (old now now' : Option (List ℕ)) (a b c : Option (List HostCall)) (s s' : Stage) (line added : List ℕ)
    (left' : Option (List (List ℕ))) → Progress n db input count left old now a b s → GivesEnded left true line left' → Answered n s line added b c s' → WritesSome now now' added
    → SessionStops n db (ended_lines (pieces_of 10 input)) old now' a c
stopped_within n db input count left old now now' a b c s s' line added left' p gives one writes =
    let next = next_ended p.first p.others line left' (given left p.first p.others true line left' p.left_is gives) in
    let lines : pieces_of 10 input ≡ (p.done ++ line ∷ []) ++ next.next ∷ next.behind
    = p.lines ∙ ap (λ (ls : List (List ℕ)). p.done ++ ls) next.line_is ∙ sym (append_assoc p.done (line ∷ []) (next.next ∷ next.behind)) in
    record {
      done = p.done ++ line ∷ [];
      behind = before_last next.next next.behind;
      lines_are = ap ended_lines lines ∙ ended_more (p.done ++ line ∷ []) next.next next.behind;
      text = p.text ++ added;
      calls = p.calls ++ one.calls;
      after = s';
      runs = RunsSession-append n (stage db []) s s' p.done line p.text added p.calls one.calls p.runs one.answers;
      count = length p.text + writes.count;
      written = subst (λ (t : List ℕ). Appends old now' t) (sym (take-append-add p.text added writes.count))
          (Appends-trans old now now' p.text _ p.written writes.written);
      sure = c;
      kept = Logs-trans a b c p.calls one.calls p.kept one.kept;
      maybe = saves_no_more c c refl;
    }

-- ---- if the bytes are known

abbrev pub AllProgress : Notation Global → Database → Option (List ℕ) → ℕ → Option (List (List ℕ)) → Option (List ℕ) → Option (List ℕ) → Option (List HostCall) → Option (List HostCall) → Stage → Type 0
AllProgress n db bytes count left old now a b s = IfSome bytes (λ input. Progress n db input count left old now a b s)

-- the host prompted for a line
pub all_same : (n : Notation Global) (db : Database) (bytes : Option (List ℕ)) (count : ℕ) (left : Option (List (List ℕ))) (old now : Option (List ℕ)) (a b c : Option (List HostCall)) (s : Stage) → c ≡ b
    → AllProgress n db bytes count left old now a b s → AllProgress n db bytes count left old now a c s
all_same n db bytes count left old now a b c s same all = subst (λ (x : Option (List HostCall)). AllProgress n db bytes count left old now a x s) (sym same) all

pub all_answered : (n : Notation Global) (db : Database) (bytes : Option (List ℕ)) (count : ℕ) (left : Option (List (List ℕ))) (old now now' : Option (List ℕ)) (a b c : Option (List HostCall)) (s s' : Stage)
    (line added : List ℕ) (left' : Option (List (List ℕ))) → AllProgress n db bytes count left old now a b s → GivesEnded left true line left' → Answered n s line added b c s' → Appends now now' added
    → AllProgress n db bytes (count + 1) left' old now' a c s'
all_answered n db bytes count left old now now' a b c s s' line added left' all gives one writes =
    known bytes (λ input. Progress n db input count left old now a b s) (λ input. Progress n db input (count + 1) left' old now' a c s')
    (λ input p. answered n db input count left old now now' a b c s s' line added left' p gives one writes) all

pub all_ended : (n : Notation Global) (db : Database) (bytes : Option (List ℕ)) (count : ℕ) (left : Option (List (List ℕ))) (old now : Option (List ℕ)) (a b c : Option (List HostCall)) (image : Database)
    (programs : List Accepted) (line : List ℕ) (left' : Option (List (List ℕ))) (after : Database) → AllProgress n db bytes count left old now a b (stage image programs) → GivesEnded left false line left' → after ≡ image
    → Logs b c (DidSave image ∷ []) → IfSome bytes (λ input. SessionEnds n db (ended_lines (pieces_of 10 input)) old now a c after)
all_ended n db bytes count left old now a b c image programs line left' after all gives is last =
    known bytes (λ input. Progress n db input count left old now a b (stage image programs)) (λ input. SessionEnds n db (ended_lines (pieces_of 10 input)) old now a c after)
    (λ input p. ended n db input count left old now a b c image programs line left' after p gives is last) all

pub all_half : (n : Notation Global) (db : Database) (bytes : Option (List ℕ)) (count : ℕ) (left : Option (List (List ℕ))) (old now : Option (List ℕ)) (a b : Option (List HostCall)) (s : Stage)
    (line : List ℕ) (left' : Option (List (List ℕ))) (found : Option ℕ) → AllProgress n db bytes count left old now a b s → GivesEnded left false line left' → found ≡ half_after count line
    → IfSome bytes (λ input. found ≡ half_line (pieces_of 10 input))
all_half n db bytes count left old now a b s line left' found all gives is =
    known bytes (λ input. Progress n db input count left old now a b s) (λ input. found ≡ half_line (pieces_of 10 input))
    (λ input p. is ∙ half n db input count left old now a b s line left' p gives) all

pub all_stopped : (n : Notation Global) (db : Database) (bytes : Option (List ℕ)) (count : ℕ) (left : Option (List (List ℕ))) (old now : Option (List ℕ)) (a b c : Option (List HostCall)) (s : Stage)
    → AllProgress n db bytes count left old now a b s → SavesAtMostOne b c → IfSome bytes (λ input. SessionStops n db (ended_lines (pieces_of 10 input)) old now a c)
all_stopped n db bytes count left old now a b c s all maybe =
    known bytes (λ input. Progress n db input count left old now a b s) (λ input. SessionStops n db (ended_lines (pieces_of 10 input)) old now a c)
    (λ input p. stopped n db input count left old now a b c s p maybe) all

pub all_stopped_within : (n : Notation Global) (db : Database) (bytes : Option (List ℕ)) (count : ℕ) (left : Option (List (List ℕ))) (old now now' : Option (List ℕ)) (a b c : Option (List HostCall)) (s s' : Stage)
    (line added : List ℕ) (left' : Option (List (List ℕ))) → AllProgress n db bytes count left old now a b s → GivesEnded left true line left' → Answered n s line added b c s' → WritesSome now now' added
    → IfSome bytes (λ input. SessionStops n db (ended_lines (pieces_of 10 input)) old now' a c)
all_stopped_within n db bytes count left old now now' a b c s s' line added left' all gives one writes =
    known bytes (λ input. Progress n db input count left old now a b s) (λ input. SessionStops n db (ended_lines (pieces_of 10 input)) old now' a c)
    (λ input p. stopped_within n db input count left old now now' a b c s s' line added left' p gives one writes) all

-- no line was answered, and nothing was logged
pub all_unread : (n : Notation Global) (db : Database) (bytes old : Option (List ℕ)) (a : Option (List HostCall)) → IfSome bytes (λ input. SessionStops n db (ended_lines (pieces_of 10 input)) old old a a)
all_unread n db None old a = tt
all_unread n db (Some input) old a = record {
  done = [];
  behind = ended_lines (pieces_of 10 input);
  lines_are = refl;
  text = [];
  calls = [];
  after = stage db [];
  runs = (refl, (refl, refl));
  count = 0;
  written = Appends-nil old;
  sure = a;
  kept = Logs-nil a;
  maybe = saves_no_more a a refl;
}

-- no line is answered yet
begun : (n : Notation Global) (db : Database) (input : List ℕ) (u : Unread) (old : Option (List ℕ)) (a : Option (List HostCall)) (s : Stage) → u.rest ≡ [] → u.ended ≡ false → s ≡ stage db []
    → Progress n db input 0 (lines_left u (Some input)) old old a a s
begun n db input u old a s rest opened is = from (pieces_of 10 input) refl
  where
    all : lines_left u (Some input) ≡ Some (pieces_of 10 input)
    all = ap (λ (b : Bool). lines_left (unread u.rest b) (Some input)) opened ∙ ap (λ (r : List ℕ). lines_left (unread r false) (Some input)) rest

    from : (pieces : List (List ℕ)) → pieces_of 10 input ≡ pieces → Progress n db input 0 (lines_left u (Some input)) old old a a s
    from [] none = absurd (some_pieces input none)
    from (first ∷ others) are = record {
      done = [];
      first = first;
      others = others;
      left_is = all ∙ ap Some are;
      lines = are;
      count_is = refl;
      text = [];
      calls = [];
      runs = (refl, (refl, is));
      written = Appends-nil old;
      kept = Logs-nil a;
    }

pub all_begun : (n : Notation Global) (db : Database) (bytes : Option (List ℕ)) (u : Unread) (old : Option (List ℕ)) (a : Option (List HostCall)) (s : Stage) → u.rest ≡ [] → u.ended ≡ false → s ≡ stage db []
    → AllProgress n db bytes 0 (lines_left u bytes) old old a a s
all_begun n db None u old a s rest opened is = tt
all_begun n db (Some input) u old a s rest opened is = begun n db input u old a s rest opened is

-- ---- one line

-- the effect of a line, by its kind
pub answers_save : (n : Notation Global) (s : Stage) (line text : List ℕ) (s' : Stage) (a b : Option (List HostCall)) → is_save line ≡ true → text ≡ codes "saved" ++ 10 ∷ [] → s' ≡ s
    → Logs a b (DidSave s.db ∷ []) → Answered n s line text a b s'
answers_save n s line text s' a b save is same kept = record {
  calls = DidSave s.db ∷ [];
  answers = subst (λ (x : Bool). AnswersAs x (is_own line) n s line text (DidSave s.db ∷ []) s') (sym save) (is, (refl, same));
  kept = kept;
}

pub answers_own : (n : Notation Global) (s : Stage) (line text : List ℕ) (s' : Stage) (a b : Option (List HostCall)) → is_save line ≡ false → is_own line ≡ true → AnsweredOwn n s text a b s'
    → Answered n s line text a b s'
answers_own n s line text s' a b save own h = record {
  calls = h.calls;
  answers = subst (λ (x : Bool). AnswersAs x (is_own line) n s line text h.calls s') (sym save) (subst (λ (x : Bool). AnswersAs false x n s line text h.calls s') (sym own) h.answers);
  kept = h.kept;
}

pub answers_scripted : (n : Notation Global) (s : Stage) (line text : List ℕ) (s' : Stage) (a b c : Option (List HostCall)) → is_save line ≡ false → is_own line ≡ false → AnsweredTimed n s line text a b s'
    → SavesMaybe b c s'.db → Answered n s line text a c s'
answers_scripted n s line text s' a b c save own h maybe =
    let calls : List HostCall = h.calls ++ maybe.calls in
    let both : AnswersThenSaves n s line text calls s' = record { first = h.calls; later = maybe.calls; calls_are = refl; answers = h.answers; may = maybe.may } in
    record {
      calls = calls;
      answers = subst (λ (x : Bool). AnswersAs x (is_own line) n s line text calls s') (sym save) (subst (λ (x : Bool). AnswersAs false x n s line text calls s') (sym own) both);
      kept = Logs-trans a b c h.calls maybe.calls h.kept maybe.kept;
    }

-- the whole text was written, but flushing failed
pub writes_all : (a b c : Option (List ℕ)) (text : List ℕ) → Appends a b text → Keeps b c → WritesSome a c text
writes_all a b c text writes keeps = record { count = length text; written = subst (λ (t : List ℕ). Appends a c t) (sym (take-length text)) (Appends-kept a b c text writes keeps) }

-- a property that holds for every fault
pub any_err : {T F : Type 0} (r : Result T F) (P : Type 0) → P → IfErr r (λ fault. P)
any_err (Ok x) P h = tt
any_err (Err f) P h = h

-- ---- sessions with only script lines

times_appended : (a b : List HostCall) → times_in (a ++ b) ≡ times_in a ++ times_in b
times_appended [] b = refl
times_appended (DidSave db ∷ calls) b = times_appended calls b
times_appended (GaveTime time ∷ calls) b = ap (λ (ts : List (Option TimeOfDay)). time ∷ ts) (times_appended calls b)

no_times : (calls : List HostCall) (db : Database) → MaySave calls db → times_in calls ≡ []
no_times [] db may = refl
no_times (call ∷ []) db may = ap (λ (c : HostCall). times_in (c ∷ [])) may
no_times (call ∷ other ∷ others) db may = absurd may

-- the effect of lines as a script
pub record AsScript (n : Notation Global) (s : Stage) (lines : List (List ℕ)) (text : List ℕ) (times : List (Option TimeOfDay)) (s' : Stage) : Type 0 where
  pub fulls : List (List ℕ)
  pub spelled : AreLinesSpelled lines fulls times
  pub told : List (Option ImageVerdict)
  pub runs : RunsLines Global n s fulls told text s'

one_scripted : (n : Notation Global) (s : Stage) (line text : List ℕ) (calls : List HostCall) (s' : Stage) → IsOfScript line → AnswersSessionLine n s line text calls s' → AnswersThenSaves n s line text calls s'
one_scripted n s line text calls s' is h =
    subst (λ (x : Bool). AnswersAs false x n s line text calls s') is.1 (subst (λ (x : Bool). AnswersAs x (is_own line) n s line text calls s') is.0 h)

-- a line logs one time
time_of : (n : Notation Global) (s : Stage) (line text : List ℕ) (calls : List HostCall) (s' : Stage) → (one : AnswersThenSaves n s line text calls s') → times_in calls ≡ one.answers.time ∷ []
time_of n s line text calls s' one =
    ap times_in one.calls_are ∙ times_appended one.first one.later
    ∙ ap (λ (ts : List (Option TimeOfDay)). times_in one.first ++ ts) (no_times one.later s'.db one.may)
    ∙ append-nil (times_in one.first) ∙ ap times_in one.answers.calls_are

as_script : (n : Notation Global) (s s' : Stage) (lines : List (List ℕ)) (text : List ℕ) (calls : List HostCall) → All IsOfScript lines → RunsSession n s lines text calls s'
    → AsScript n s lines text (times_in calls) s'
as_script n s s' [] text calls all r = record { fulls = []; spelled = ap times_in r.1.0; told = []; runs = (r.0, r.1.1) }
as_script n s s' (line ∷ lines) text calls all r =
    let others = as_script n r.mid s' lines r.rest r.later (All-tail IsOfScript line lines all) r.others in
    let one = one_scripted n s line r.first r.now r.mid (All-head IsOfScript line lines all) r.answers in
    let full : List ℕ = spelled_line OfScript one.answers.time line in
    let times : times_in calls ≡ one.answers.time ∷ times_in r.later
    = ap times_in r.calls_are ∙ times_appended r.now r.later ∙ ap (λ (ts : List (Option TimeOfDay)). ts ++ times_in r.later) (time_of n s line r.first r.now r.mid one) in
    record {
      fulls = full ∷ others.fulls;
      spelled = subst (λ (ts : List (Option TimeOfDay)). AreLinesSpelled (line ∷ lines) (full ∷ others.fulls) ts) (sym times) (refl, others.spelled);
      told = one.answers.answers.told ++ others.told;
      runs = subst (λ (t : List ℕ). RunsLines Global n s (full ∷ others.fulls) (one.answers.answers.told ++ others.told) t s') (sym r.text_is)
          (RunsLines-append Global n s r.mid s' (full ∷ []) others.fulls one.answers.answers.told others.told r.first r.rest one.answers.answers.runs others.runs);
    }

pub ends_as_script : (n : Notation Global) (db : Database) (lines : List (List ℕ)) (old new : Option (List ℕ)) (a b : Option (List HostCall)) (after : Database) → SessionEnds n db lines old new a b after
    → All IsOfScript lines → RunsAsScript n db lines old new a b after
ends_as_script n db lines old new a b after e all =
    let runs = as_script n (stage db []) (stage after e.programs) lines e.text e.calls all e.runs in
    let times : times_in (e.calls ++ DidSave after ∷ []) ≡ times_in e.calls = times_appended e.calls (DidSave after ∷ []) ∙ append-nil (times_in e.calls) in
    record {
      calls = e.calls ++ DidSave after ∷ [];
      kept = e.kept;
      fulls = runs.fulls;
      spelled = subst (λ (ts : List (Option TimeOfDay)). AreLinesSpelled lines runs.fulls ts) (sym times) runs.spelled;
      told = runs.told;
      text = e.text;
      programs = e.programs;
      runs = runs.runs;
      written = e.written;
    }

pub all_as_script : (n : Notation Global) (db : Database) (bytes old new : Option (List ℕ)) (a b : Option (List HostCall)) (after : Database)
    → IfSome bytes (λ input. SessionEnds n db (ended_lines (pieces_of 10 input)) old new a b after)
    → IfSome bytes (λ input. All IsOfScript (ended_lines (pieces_of 10 input)) → RunsAsScript n db (ended_lines (pieces_of 10 input)) old new a b after)
all_as_script n db bytes old new a b after ends =
    known bytes (λ input. SessionEnds n db (ended_lines (pieces_of 10 input)) old new a b after)
    (λ input. All IsOfScript (ended_lines (pieces_of 10 input)) → RunsAsScript n db (ended_lines (pieces_of 10 input)) old new a b after)
    (λ input e. ends_as_script n db (ended_lines (pieces_of 10 input)) old new a b after e) ends
