-- Blocks of 1,024 bytes in the wide pages of a file.
use Rattle.std.proofs.Common.{◌≡◌, ℕ, ◌+◌, ◌*◌, ◌-◌, ◌<◌, ◌≤◌, List, ◌++◌, length, length-append, take, drop, get_or, replicate, refl, sym, ap, ◌∙◌, arith, inl, inr}
use Rattle.std.proofs.lemmas.Bool.{cases_lt}
use Rattle.std.proofs.Math.Seq.{take-add}
use Rattle.std.specs.Prelude.{slice_range}
use Rattle.std.proofs.lemmas.List.{ext_get_or, get_or_append_left, get_or-append_right, get_or-replicate, get_or_past, length-replicate, drop-drop}
use Rattle.sdbm_addr.specs.declared.PageSize.TheVariants.{Small}
use Rattle.sdbm_addr.specs.Files.{page_at}
use Rattle.sdbm_page.proofs.Spelling.{length-part}
use Rattle.sdbm_files.specs.Reading.{IsBlock}
use Rattle.sdbm_files.proofs.PagesInBytes.{page_reads}

-- a block padded with zeros
abbrev padded : List ℕ → List ℕ
padded block = block ++ replicate (1024 - length block) 0

length-padded : (block : List ℕ) → length block ≤ 1024 → length (padded block) ≡ 1024
length-padded block short = length-append block (replicate (1024 - length block) 0) ∙ ap (λ (n : ℕ). length block + n) (length-replicate (1024 - length block) 0) ∙ omega arith

padded_reads : (block : List ℕ) (i : ℕ) → i < 1024 → get_or (padded block) i 0 ≡ get_or block i 0
padded_reads block i below = elim (cases_lt i (length block)) [
  | inl l ↦ get_or_append_left block (replicate (1024 - length block) 0) 0 i l
  | inr l ↦
      get_or-append_right block (replicate (1024 - length block) 0) (length block) i 0 refl l
      ∙ get_or-replicate (1024 - length block) (i - length block) 0 0 (omega arith) ∙ sym (get_or_past block i 0 l)
]

-- a whole block of a file is a small page of it
pub block_is_page : (pag block : List ℕ) (index : ℕ) → IsBlock pag index block → (index + 1) * 1024 ≤ length pag → padded block ≡ page_at Small pag index
block_is_page pag block index is inside =
    let long : length (page_at Small pag index) ≡ 1024 = length-part pag (index * 1024) ((index + 1) * 1024) (omega arith) inside ∙ omega arith in
    ext_get_or 0 (padded block) (page_at Small pag index) (length-padded block is.short ∙ sym long)
    (λ i below. padded_reads block i (omega (arith, below, length-padded block is.short)) ∙ is.reads i (omega (arith, below, length-padded block is.short)) ∙ sym (page_reads Small pag index i (omega (arith, below, length-padded block is.short))))

-- appending the next block to the first blocks of a wide page
pub next_block : (pag : List ℕ) (start i : ℕ) → slice_range pag start (start + i * 1024) ++ slice_range pag (start + i * 1024) (start + (i + 1) * 1024) ≡ slice_range pag start (start + (i + 1) * 1024)
next_block pag start i =
    let rest = drop start pag in
    let done : start + i * 1024 - start ≡ i * 1024 = omega arith in
    let more : start + (i + 1) * 1024 - (start + i * 1024) ≡ 1024 = omega arith in
    let all : start + (i + 1) * 1024 - start ≡ i * 1024 + 1024 = omega arith in
    ap (λ (n : ℕ). take n rest ++ slice_range pag (start + i * 1024) (start + (i + 1) * 1024)) done
    ∙ ap (λ (l : List ℕ). take (i * 1024) rest ++ l) (ap (λ (n : ℕ). take n (drop (start + i * 1024) pag)) more ∙ sym (ap (λ (l : List ℕ). take 1024 l) (drop-drop (i * 1024) start pag)))
    ∙ sym (take-add (i * 1024) 1024 rest) ∙ sym (ap (λ (n : ℕ). take n rest) all)

-- a block of a wide page
block_of : (pag : List ℕ) (number i : ℕ) (block : List ℕ) → IsBlock pag (8 * number + i) block → i < 8 → (number + 1) * 8192 ≤ length pag
    → padded block ≡ slice_range pag (number * 8192 + i * 1024) (number * 8192 + (i + 1) * 1024)
block_of pag number i block is low inside =
    let start : (8 * number + i) * 1024 ≡ number * 8192 + i * 1024 = omega arith in
    let end : (8 * number + i + 1) * 1024 ≡ number * 8192 + (i + 1) * 1024 = omega arith in
    block_is_page pag block (8 * number + i) is (omega (arith, low, inside)) ∙ ap (λ (k : ℕ). slice_range pag k ((8 * number + i + 1) * 1024)) start ∙ ap (λ (k : ℕ). slice_range pag (number * 8192 + i * 1024) k) end

pub one_more : (pag : List ℕ) (number i : ℕ) (block old : List ℕ) → IsBlock pag (8 * number + i) block → i < 8 → (number + 1) * 8192 ≤ length pag
    → old ≡ slice_range pag (number * 8192) (number * 8192 + i * 1024) → old ++ padded block ≡ slice_range pag (number * 8192) (number * 8192 + (i + 1) * 1024)
one_more pag number i block old is low inside so_far =
    ap (λ (l : List ℕ). l ++ padded block) so_far ∙ ap (λ (l : List ℕ). slice_range pag (number * 8192) (number * 8192 + i * 1024) ++ l) (block_of pag number i block is low inside)
    ∙ next_block pag (number * 8192) i
