use Rattle.std.proofs.Common.{◌≡◌, ◌∙◌, ◌%◌, ◌^◌, sym, ap, ℕ, List, refl}
use Rattle.sdbm_addr.specs.Hash.{hash_of}
use Rattle.sdbm_addr.specs.declared.KeyBytes.{KeyBytes}
use Rattle.sdbm_addr.specs.Pairs.{Content, stored}
use Rattle.sdbm_addr.specs.Splitting.{on_page, bits_of}
use Rattle.sdbm_split.proofs.Plans.{twins_along, Leads-own, IsPlan-from, ArePages-from, IsLeastSplits-none, leaf-none}
use Rattle.sdbm_split.proofs.Refusals.{IsOwnPlace-found, not_refused_at}
use Rattle.sdbm_split.proofs.plan_store.Goals as goal

-- the pages and bits along the path of the key's hash
leaf_along : (kind : KeyBytes) (page : Content) (key value : List ℕ) (h t path : ℕ) (leaf : Content) → path ≡ hash_of kind key
    → leaf ≡ record { size = page.size; pairs = on_page kind path h t (path % 2 ^ h) (stored page.pairs key value) }
    → leaf ≡ record { size = page.size; pairs = on_page kind (hash_of kind key) h t (hash_of kind key % 2 ^ h) (stored page.pairs key value) }
leaf_along kind page key value h t path leaf p l = l ∙ ap (λ n. let r : Content = record { size = page.size; pairs = on_page kind n h t (n % 2 ^ h) (stored page.pairs key value) } in r) p

pub returns-in-Ok-clause-plan : goal.returns-in-Ok-clause-plan
returns-in-Ok-clause-plan g c =
    let leads = Leads-own c.args.kind c.args.page.now.pairs c.args.key.now c.args.place.depth c.args.place.page c.requires.key_leads c.requires.keys_lead in
    let least = IsLeastSplits-none c.args.kind c.args.page.now c.args.key.now c.args.value.now c.args.place.depth c.requires.shallow leads (c.if-goes_on.ensures.room.0 refl) in
    let leaf = leaf-none c.args.kind c.args.page.now c.in-Ok.plan.leaf c.args.key.now c.args.value.now c.args.place.depth leads c.in-Ok.ensures.leaf in
    (0, IsPlan-from c.args.kind c.args.page.now c.args.key.now c.args.value.now c.args.place.depth 0 c.in-Ok.plan.leaf c.in-Ok.plan.twins.items c.in-Ok.plan.bits.items least leads leaf c.in-Ok.ensures.twins c.in-Ok.ensures.bits)

pub returns-in-Ok-clause-allowed : goal.returns-in-Ok-clause-allowed
returns-in-Ok-clause-allowed g c =
    not_refused_at c.args.mode c.args.page.now.pairs c.args.key.now c.find-own.result (IsOwnPlace-found c.args.page.now.pairs c.args.key.now c.find-own.result c.find-own.ensures.found c.find-own.ensures.absent) (sym c.refuses.ensures ∙ c.if-refuses.false)

pub returns-in-Ok-clause-pages : goal.returns-in-Ok-clause-pages
returns-in-Ok-clause-pages g c =
    let leads = Leads-own c.args.kind c.args.page.now.pairs c.args.key.now c.args.place.depth c.args.place.page c.requires.key_leads c.requires.keys_lead in
    let least = IsLeastSplits-none c.args.kind c.args.page.now c.args.key.now c.args.value.now c.args.place.depth c.requires.shallow leads (c.if-goes_on.ensures.room.0 refl) in
    ArePages-from c.args.kind c.args.page.now c.args.key.now c.args.value.now c.args.place.depth 0 c.in-Ok.plan.leaf c.in-Ok.plan.twins.items c.requires.distinct c.goes_on.ensures.laid c.requires.small least.room
    (leaf-none c.args.kind c.args.page.now c.in-Ok.plan.leaf c.args.key.now c.args.value.now c.args.place.depth leads c.in-Ok.ensures.leaf) c.in-Ok.ensures.twins

pub returns-in-Err-clause-fault : goal.returns-in-Err-clause-fault
returns-in-Err-clause-fault g c =
    let leads = Leads-own c.args.kind c.args.page.now.pairs c.args.key.now c.args.place.depth c.args.place.page c.requires.key_leads c.requires.keys_lead in
    let least = IsLeastSplits-none c.args.kind c.args.page.now c.args.key.now c.args.value.now c.args.place.depth c.requires.shallow leads (c.if-goes_on.ensures.room.0 refl) in
    (not_refused_at c.args.mode c.args.page.now.pairs c.args.key.now c.find-own.result (IsOwnPlace-found c.args.page.now.pairs c.args.key.now c.find-own.result c.find-own.ensures.found c.find-own.ensures.absent) (sym c.refuses.ensures ∙ c.if-refuses.false), (0, least))

pub returns-in-Ok-split_pages-clause-plan : goal.returns-in-Ok-split_pages-clause-plan
returns-in-Ok-split_pages-clause-plan g c = (
  c.in-Some.splits,
  IsPlan-from c.args.kind c.args.page.now c.args.key.now c.args.value.now c.args.place.depth c.in-Some.splits c.in-Ok-split_pages.plan.leaf c.in-Ok-split_pages.plan.twins.items c.in-Ok-split_pages.plan.bits.items
      c.in-Some.ensures.some (Leads-own c.args.kind c.args.page.now.pairs c.args.key.now c.args.place.depth c.args.place.page c.requires.key_leads c.requires.keys_lead)
      (leaf_along c.args.kind c.args.page.now c.args.key.now c.args.value.now c.args.place.depth c.in-Some.splits c.hash-key_hash.result c.in-Ok-split_pages.plan.leaf c.hash-key_hash.ensures c.in-Ok-split_pages.ensures.leaf)
      (c.in-Ok-split_pages.ensures.twins ∙ ap (λ n. twins_along c.args.page.now.size c.args.kind n c.args.place.depth c.in-Some.splits c.in-Some.splits (stored c.args.page.now.pairs c.args.key.now c.args.value.now)) c.hash-key_hash.ensures)
      (c.in-Ok-split_pages.ensures.bits ∙ ap (λ n. bits_of n c.args.place.depth c.in-Some.splits) c.hash-key_hash.ensures),
)

pub returns-in-Ok-split_pages-clause-allowed : goal.returns-in-Ok-split_pages-clause-allowed
returns-in-Ok-split_pages-clause-allowed g c =
    not_refused_at c.args.mode c.args.page.now.pairs c.args.key.now c.find-own.result (IsOwnPlace-found c.args.page.now.pairs c.args.key.now c.find-own.result c.find-own.ensures.found c.find-own.ensures.absent) (sym c.refuses.ensures ∙ c.if-refuses.false)

pub returns-in-Ok-split_pages-clause-pages : goal.returns-in-Ok-split_pages-clause-pages
returns-in-Ok-split_pages-clause-pages g c =
    ArePages-from c.args.kind c.args.page.now c.args.key.now c.args.value.now c.args.place.depth c.in-Some.splits c.in-Ok-split_pages.plan.leaf c.in-Ok-split_pages.plan.twins.items c.requires.distinct c.goes_on.ensures.laid c.requires.small c.in-Some.ensures.some.room
    (leaf_along c.args.kind c.args.page.now c.args.key.now c.args.value.now c.args.place.depth c.in-Some.splits c.hash-key_hash.result c.in-Ok-split_pages.plan.leaf c.hash-key_hash.ensures c.in-Ok-split_pages.ensures.leaf)
    (c.in-Ok-split_pages.ensures.twins ∙ ap (λ n. twins_along c.args.page.now.size c.args.kind n c.args.place.depth c.in-Some.splits c.in-Some.splits (stored c.args.page.now.pairs c.args.key.now c.args.value.now)) c.hash-key_hash.ensures)

pub returns-in-Ok-clause-exact : goal.returns-in-Ok-clause-exact
returns-in-Ok-clause-exact g c =
    let leads = Leads-own c.args.kind c.args.page.now.pairs c.args.key.now c.args.place.depth c.args.place.page c.requires.key_leads c.requires.keys_lead in
    let least = IsLeastSplits-none c.args.kind c.args.page.now c.args.key.now c.args.value.now c.args.place.depth c.requires.shallow leads (c.if-goes_on.ensures.room.0 refl) in (
      0,
      record {
        splits = least;
        leaf = leaf-none c.args.kind c.args.page.now c.in-Ok.plan.leaf c.args.key.now c.args.value.now c.args.place.depth leads c.in-Ok.ensures.leaf;
        twins = c.in-Ok.ensures.twins;
        bits = c.in-Ok.ensures.bits;
      },
    )

pub returns-in-Ok-split_pages-clause-exact : goal.returns-in-Ok-split_pages-clause-exact
returns-in-Ok-split_pages-clause-exact g c = (
  c.in-Some.splits,
  record {
    splits = c.in-Some.ensures.some;
    leaf = leaf_along c.args.kind c.args.page.now c.args.key.now c.args.value.now c.args.place.depth c.in-Some.splits c.hash-key_hash.result c.in-Ok-split_pages.plan.leaf c.hash-key_hash.ensures c.in-Ok-split_pages.ensures.leaf;
    twins = c.in-Ok-split_pages.ensures.twins ∙ ap (λ n. twins_along c.args.page.now.size c.args.kind n c.args.place.depth c.in-Some.splits c.in-Some.splits (stored c.args.page.now.pairs c.args.key.now c.args.value.now)) c.hash-key_hash.ensures;
    bits = c.in-Ok-split_pages.ensures.bits ∙ ap (λ n. bits_of n c.args.place.depth c.in-Some.splits) c.hash-key_hash.ensures;
  },
)
