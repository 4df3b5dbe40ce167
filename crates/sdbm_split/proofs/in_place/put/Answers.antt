use Rattle.std.proofs.Common.{◌≡◌, ℕ, ◌+◌, ◌≤◌, List, Option, remove, sym, ap, ◌∙◌, subst}
use Rattle.std.specs.List.{sum_by}
use Rattle.sdbm_addr.specs.Pairs.{Pair, footprint, page_bytes, value_of, with_pair, without}
use Rattle.sdbm_split.specs.Room.{pairs_without}
use Rattle.sdbm_split.proofs.Without.{absent-without, pairs_without-own}
use Rattle.sdbm_split.proofs.in_place.put.Goals as goal

pub add-requires-clause-fits : goal.add-requires-clause-fits
add-requires-clause-fits g c =
    let pairs = c.args.page.now.pairs in
    let same : without c.args.key.now pairs ≡ pairs = sym (pairs_without-own pairs c.args.key.now c.args.own c.requires.own c.requires.distinct) ∙ ap (λ (o : Option ℕ). pairs_without o pairs) c.in-None.is in
    subst (λ (es : List Pair). sum_by footprint es + footprint (c.args.key.now, c.args.value.now) + 2 ≤ page_bytes c.args.page.now.size) same c.requires.room

pub replace-requires-clause-fits : goal.replace-requires-clause-fits
replace-requires-clause-fits g c =
    let pairs = c.args.page.now.pairs in
    let same : without c.args.key.now pairs ≡ remove pairs c.in-Some.i = sym (pairs_without-own pairs c.args.key.now c.args.own c.requires.own c.requires.distinct) ∙ ap (λ (o : Option ℕ). pairs_without o pairs) c.in-Some.is in
    subst (λ (es : List Pair). sum_by footprint es + footprint (c.args.key.now, c.args.value.now) + 2 ≤ page_bytes c.args.page.now.size) same c.requires.room

pub replace-requires-clause-absent : goal.replace-requires-clause-absent
replace-requires-clause-absent g c =
    let pairs = c.args.page.now.pairs in
    let same : without c.args.key.now pairs ≡ remove pairs c.in-Some.i = sym (pairs_without-own pairs c.args.key.now c.args.own c.requires.own c.requires.distinct) ∙ ap (λ (o : Option ℕ). pairs_without o pairs) c.in-Some.is in
    ap (λ (es : List Pair). value_of es c.args.key.now) (sym same) ∙ absent-without pairs c.args.key.now

pub returns-in-None-clause-stored : goal.returns-in-None-clause-stored
returns-in-None-clause-stored g c = λ t.
    let pairs = c.args.page.now.pairs in
    let same : without c.args.key.now pairs ≡ pairs = sym (pairs_without-own pairs c.args.key.now c.args.own c.requires.own c.requires.distinct) ∙ ap (λ (o : Option ℕ). pairs_without o pairs) c.in-None.is in
    c.add.ensures.added t ∙ ap (λ (es : List Pair). with_pair (record { size = c.args.page.now.size; pairs = es }) c.args.key.now c.args.value.now) (sym same)

pub returns-in-Some-clause-stored : goal.returns-in-Some-clause-stored
returns-in-Some-clause-stored g c = λ t.
    let pairs = c.args.page.now.pairs in
    let same : without c.args.key.now pairs ≡ remove pairs c.in-Some.i = sym (pairs_without-own pairs c.args.key.now c.args.own c.requires.own c.requires.distinct) ∙ ap (λ (o : Option ℕ). pairs_without o pairs) c.in-Some.is in
    c.replace.ensures.replaced t ∙ ap (λ (es : List Pair). with_pair (record { size = c.args.page.now.size; pairs = es }) c.args.key.now c.args.value.now) (sym same)
