-- From the answer of the registry to the number of a program.
use Rattle.std.proofs.Common.{◌≡◌, ◌≢◌, ℕ, ◌++◌, List, [], ◌∷◌, Option, Some, None, inl, inr, ⊎_elim, refl, sym, ap, subst, ◌∙◌, codes, length, Result, OnOk}
use Rattle.std.specs.Prelude.{slice_get, decimal, Ok, Err}
use Rattle.std.specs.Option.{option_map}
use Rattle.std.proofs.lemmas.Option.{same_Some, slice_get-map}
use Rattle.sdbm_addr.specs.Database.{Database}
use Rattle.store_cmd.specs.declared.Command.{Command}
use Rattle.store_cmd.specs.declared.Command.TheVariants as commands
use Rattle.bpf_verify.specs.Verified.{Accepted, image_in}
use Rattle.prog_registry.specs.FaultText.{fault_text}
use Rattle.prog_registry.specs.Programs.{StandsAt, IsNew}
use Rattle.prog_registry.specs.Registry.{Registered, GivesNumber, RefusesImage, RecallsIn, KeepsVerdict}
use Rattle.prog_registry.specs.declared.fault.RegFault.{RegFault}
use Rattle.prog_registry.specs.declared.fault.RegFault.TheVariants.{NoMemory, Decode, Verify, Full}
use Rattle.dbm_script.specs.Images.{ImageVerdict, Numbers, Denies, AnswersImage}
use Rattle.dbm_script.specs.Incr.{counter_argument, counter_image}
use Rattle.dbm_script.specs.Script as script
use Rattle.dbm_script.specs.declared.notations.Notation.{Notation}
use Rattle.dbm_script.specs.declared.lines.Ask.{Ask}
use Rattle.dbm_script.specs.declared.lines.Ask.TheVariants.{Program, Incr}

-- a program's number is also the place of its image
image_stands : (programs : List Accepted) (image : List ℕ) (p : Accepted) (id : ℕ) → slice_get programs id ≡ Some p → image_in p ≡ image → StandsAt programs image id
image_stands programs image p id stands spelled = slice_get-map image_in programs id ∙ ap (option_map image_in) stands ∙ ap Some spelled

-- the number of an image, and the list of programs after it, are unique
pub Numbers-unique : (programs : List Accepted) (image : List ℕ) (p : Accepted) (i j : ℕ) (a b : List Accepted)
    → Numbers programs image p i a → Numbers programs image p j b → (i ≡ j) × (a ≡ b)
Numbers-unique programs image p i j a b (inl x) (inl y) = (x.only j (image_stands programs image p j y.stands y.spelled), x.same ∙ sym y.same)
Numbers-unique programs image p i j a b (inl x) (inr y) = absurd (y.is_new i (image_stands programs image p i x.stands x.spelled))
Numbers-unique programs image p i j a b (inr x) (inl y) = absurd (x.is_new j (image_stands programs image p j y.stands y.spelled))
Numbers-unique programs image p i j a b (inr x) (inr y) = (x.next ∙ sym y.next, x.more ∙ sym y.more)

-- an image in the list belongs to a program in the list
program_there : (image : List ℕ) (o : Option Accepted) → option_map image_in o ≡ Some image → (p : Accepted) × ((o ≡ Some p) × (image_in p ≡ image))
program_there image None e = let f : ⊥ = cc in absurd f
program_there image (Some p) e = (p, (refl, same_Some (image_in p) image e))

-- the registry returned a number
numbered : (old new : Registered) (image : List ℕ) (id : ℕ) → ((other : ℕ) → StandsAt old.programs image other → id ≡ other) → GivesNumber old image id new
    → (p : Accepted) × Numbers old.programs image p id new.programs
numbered old new image id only (inl there) =
    let found = program_there image (slice_get old.programs id) (sym (slice_get-map image_in old.programs id) ∙ there.0) in
    (found.0, inl (record { stands = found.1.0; spelled = found.1.1; only = only; same = ap (λ (r : Registered). r.programs) there.1 }))
numbered old new image id only (inr adds) =
    (adds.program, inr (record { is_new = adds.is_new; room = adds.room; is = adds.is; next = adds.next; more = adds.programs }))

-- the registry refused the image
denied : (old new : Registered) (image : List ℕ) (fault : RegFault) → fault ≢ NoMemory → RefusesImage old image fault new
    → IsNew old.programs image × (Denies old.programs image fault × (new.programs ≡ old.programs))
denied old new image NoMemory told refuses = absurd (told refl)
denied old new image (Decode fault) told refuses = (refuses.0.is_new, (refuses.1.0, ap (λ (r : Registered). r.programs) refuses.1.1))
denied old new image (Verify fault) told refuses =
    (refuses.0, (refuses.1.0, ⊎_elim (λ (h : RecallsIn old image fault new). h.programs) (λ (h : KeepsVerdict old image fault new). h.programs) refuses.1.1))
denied old new image Full told refuses = (refuses.0.is_new, ((refuses.1.0, refuses.1.1.0), ap (λ (r : Registered). r.programs) refuses.1.1.1))

-- appends the text of an answer
abbrev pub Answers : Registered → List ℕ → Registered → List ℕ → List ℕ → Type 0
Answers old image new before after =
    script.AddsBytes before after (λ added. (told : ImageVerdict) × AnswersImage old.programs image told added new.programs)

pub answers_number : (old new : Registered) (image : List ℕ) (id : ℕ) (before after : List ℕ)
    → ((other : ℕ) → StandsAt old.programs image other → id ≡ other) → GivesNumber old image id new
    → after ≡ before ++ (codes "program " ++ decimal id) → Answers old image new before after
answers_number old new image id before after only gives is =
    let found = numbered old new image id only gives in
    record { added = codes "program " ++ decimal id; is = is; holds = (Ok found.0, (id, (found.1, refl))) }

pub answers_refusal : (old new : Registered) (image : List ℕ) (fault : RegFault) (before after : List ℕ)
    → fault ≢ NoMemory → RefusesImage old image fault new
    → after ≡ before ++ (codes "refused " ++ fault_text fault) → Answers old image new before after
answers_refusal old new image fault before after told refuses is =
    let why = denied old new image fault told refuses in
    record { added = codes "refused " ++ fault_text fault; is = is; holds = (Err fault, (why.0, (why.1.0, (why.1.1, refl)))) }

pub both_ok : {T E P Q R : Type 0} (r : Result T E) → (P → Q → R) → OnOk r P → OnOk r Q → OnOk r R
both_ok (Ok x) f p q = f p q
both_ok (Err e) f p q = tt

-- a line that submits a program image
pub image_line : (A : Type 0) (n : Notation A) (db : Database) (programs programs' : List Accepted) (ask : Option (Ask A)) (image before after : List ℕ) → ask ≡ Some (Program image)
    → script.AddsBytes before after (λ added. (told : ImageVerdict) × AnswersImage programs image told added programs')
    → script.AddsBytes before after (λ added. (told : Option ImageVerdict) × script.AnswersLine A n (script.stage db programs) ask told added (script.stage db programs'))
image_line A n db programs programs' ask image before after is adds = record {
  added = adds.added;
  is = adds.is;
  holds = (
    Some adds.holds.0,
    subst (λ (a : Option (Ask A)). script.AnswersLine A n (script.stage db programs) a (Some adds.holds.0) adds.added (script.stage db programs')) (sym is) (refl, adds.holds.1),
  );
}

-- the element after a list
last_in : (programs : List Accepted) (p : Accepted) → slice_get (programs ++ p ∷ []) (length programs) ≡ Some p
last_in [] p = refl
last_in (q ∷ programs) p = last_in programs p

-- the program of a number is in the list after it
in_list : (programs programs' : List Accepted) (image : List ℕ) (p : Accepted) (id : ℕ) → Numbers programs image p id programs' → slice_get programs' id ≡ Some p
in_list programs programs' image p id (inl there) = ap (λ (ps : List Accepted). slice_get ps id) there.same ∙ there.stands
in_list programs programs' image p id (inr adds) =
    ap (λ (ps : List Accepted). slice_get ps id) adds.more ∙ ap (slice_get (programs ++ p ∷ [])) adds.next ∙ last_in programs p

-- an `incr` whose program has a number
pub incr_runs : (A : Type 0) (n : Notation A) (db db' : Database) (old new : Registered) (key : List ℕ) (amount : ℕ) (image : List ℕ) (id : ℕ) (before after : List ℕ)
    → image ≡ counter_image → ((other : ℕ) → StandsAt old.programs image other → id ≡ other) → GivesNumber old image id new
    → script.AddsBytes before after (λ added. script.AnswersRun A n db (script.run_command new.programs key id (counter_argument amount 0 18446744073709551615) (Some 8) 0) added db')
    → script.AddsBytes before after (λ added. (told : ImageVerdict) × script.AnswersIncr A n (script.stage db old.programs) key amount told added (script.stage db' new.programs))
incr_runs A n db db' old new key amount image id before after is only gives adds =
    let found = numbered old new image id only gives in
    let numbers : Numbers old.programs counter_image found.0 id new.programs = subst (λ (i : List ℕ). Numbers old.programs i found.0 id new.programs) is found.1 in
    let run : Accepted → Command A = λ p. commands.Run key p.code (counter_argument amount 0 18446744073709551615) (Some 8) 0 in
    record {
      added = adds.added;
      is = adds.is;
      holds = (
        Ok found.0,
        (
          id,
          (
            numbers,
            subst (λ (o : Option Accepted). script.AnswersRun A n db (option_map run o) adds.added db') (in_list old.programs new.programs counter_image found.0 id numbers) adds.holds,
          ),
        ),
      );
    }

-- an `incr` whose program is refused
pub incr_refused : (A : Type 0) (n : Notation A) (db : Database) (old new : Registered) (key : List ℕ) (amount : ℕ) (image : List ℕ) (fault : RegFault) (before after : List ℕ)
    → image ≡ counter_image → fault ≢ NoMemory → RefusesImage old image fault new → after ≡ before ++ (codes "refused " ++ fault_text fault)
    → script.AddsBytes before after (λ added. (told : ImageVerdict) × script.AnswersIncr A n (script.stage db old.programs) key amount told added (script.stage db new.programs))
incr_refused A n db old new key amount image fault before after same told refuses is =
    let why : IsNew old.programs counter_image × (Denies old.programs counter_image fault × (new.programs ≡ old.programs)) =
    subst (λ (i : List ℕ). IsNew old.programs i × (Denies old.programs i fault × (new.programs ≡ old.programs))) same (denied old new image fault told refuses) in
    record { added = codes "refused " ++ fault_text fault; is = is; holds = (Err fault, (refl, (why.0, (why.1.0, (why.1.1, refl))))) }

-- a line with an `incr`
pub incr_line : (A : Type 0) (n : Notation A) (db db' : Database) (programs programs' : List Accepted) (ask : Option (Ask A)) (key : List ℕ) (amount : ℕ) (before after : List ℕ)
    → ask ≡ Some (Incr (record { key = key; amount = amount }))
    → script.AddsBytes before after (λ added. (told : ImageVerdict) × script.AnswersIncr A n (script.stage db programs) key amount told added (script.stage db' programs'))
    → script.AddsBytes before after (λ added. (told : Option ImageVerdict) × script.AnswersLine A n (script.stage db programs) ask told added (script.stage db' programs'))
incr_line A n db db' programs programs' ask key amount before after is adds = record {
  added = adds.added;
  is = adds.is;
  holds = (
    Some adds.holds.0,
    subst (λ (a : Option (Ask A)). script.AnswersLine A n (script.stage db programs) a (Some adds.holds.0) adds.added (script.stage db' programs')) (sym is) adds.holds.1,
  );
}
