use Rattle.std.proofs.Common.{◌≡◌, ⊎_elim, ◌<◌, ◌+◌, ◌*◌, ◌-◌, ℕ, List, [], ◌++◌, length, get_or, sym, ◌∙◌, ap, subst, arith, length-append}
use Rattle.std.proofs.lemmas.List.{get_or_append_left, get_or-append_right, get_or_past}
use Rattle.std.proofs.lemmas.Bool.{cases_lt, cases_eq}
use Rattle.std.proofs.lemmas.Nat.{mul-add-lt}
use Rattle.sdbm_saves.proofs.Lists.{length-resized, read_resized}
use Rattle.sdbm_saves.proofs.part.pages_before.Goals as goal

-- one more page
module _ (index size : ℕ) (pages page : List ℕ) (long : length pages ≡ index * size) (page_long : length page ≡ size) where
  longer : length (pages ++ page) ≡ (index + 1) * size
  longer = length-append pages page ∙ ap (λ k. k + length page) long ∙ ap (λ k. index * size + k) page_long ∙ next index size
    where
      next : (n z : ℕ) → n * z + z ≡ (n + 1) * z
      next n z = grind arith

  stays : (j i : ℕ) → j < index → i < size → get_or (pages ++ page) (j * size + i) 0 ≡ get_or pages (j * size + i) 0
  stays j i lt below = get_or_append_left pages page 0 (j * size + i) (subst (λ k. j * size + i < k) (turn size index ∙ sym long) (mul-add-lt j size i index lt below))
    where
      turn : (a b : ℕ) → a * b ≡ b * a
      turn a b = grind arith

  last : (i : ℕ) → get_or (pages ++ page) (index * size + i) 0 ≡ get_or page i 0
  last i = let on : index * size + i - index * size ≡ i = omega arith in get_or-append_right pages page (index * size) (index * size + i) 0 long (omega arith) ∙ ap (λ k. get_or page k 0) on

pub loop-index-preserved : goal.loop-index-preserved
loop-index-preserved g c =
    let old = c.args.old in
    let size = c.args.size in
    let numbers = c.args.numbers.now in
    let index = c.loop-index.index in
    let pages = c.loop-index.pages.items in
    let page = c.page_before.result.now in
    let kept = c.loop-index.invariant in
    let items = c.in_ok-extend_from_slice.ensures.items in
    let zeros_are = c.as_slice.ensures.value ∙ c.in_ok-zeros.ensures in
    let page_long : length page ≡ size = ⊎_elim
    (λ own. ap (λ (l : List ℕ). length l) (c.page_before.ensures.own own) ∙ c.requires.page)
    (λ other. ap (λ (l : List ℕ). length l) (c.page_before.ensures.other other ∙ zeros_are) ∙ length-resized size [])
    (cases_eq (get_or numbers index 0) old.number) in
    record {
      long = ap (λ (l : List ℕ). length l) items ∙ longer index size pages page kept.long page_long;
      own = λ j i lt below is. ap (λ (l : List ℕ). get_or l (j * size + i) 0) items ∙ ⊎_elim
          (λ before. stays index size pages page kept.long page_long j i before below ∙ kept.own j i before below is)
          (λ le. let here : j ≡ index = omega (arith, lt, le) in
          ap (λ k. get_or (pages ++ page) (k * size + i) 0) here ∙ last index size pages page kept.long page_long i
          ∙ ap (λ (l : List ℕ). get_or l i 0) (c.page_before.ensures.own (ap (λ k. get_or numbers k 0) (sym here) ∙ is)))
          (cases_lt j index);
      others = λ j i lt below isnt. ap (λ (l : List ℕ). get_or l (j * size + i) 0) items ∙ ⊎_elim
          (λ before. stays index size pages page kept.long page_long j i before below ∙ kept.others j i before below isnt)
          (λ le. let here : j ≡ index = omega (arith, lt, le) in
          ap (λ k. get_or (pages ++ page) (k * size + i) 0) here ∙ last index size pages page kept.long page_long i
          ∙ ap (λ (l : List ℕ). get_or l i 0) (c.page_before.ensures.other (λ is. isnt (ap (λ k. get_or numbers k 0) here ∙ is)) ∙ zeros_are)
          ∙ read_resized size [] i below ∙ get_or_past [] i 0 (omega arith))
          (cases_lt j index);
    }
