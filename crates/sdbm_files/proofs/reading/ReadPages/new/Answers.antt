use Rattle.std.proofs.Common.{◌≡◌, ◌*◌, List, ℕ, length, sym, ap, ◌∙◌, arith}
use Rattle.std.proofs.lemmas.List.{drop_all}
use Rattle.sdbm_addr.specs.Pairs.{page_bytes}
use Rattle.sdbm_files.specs.Reading.{raw_under, whole_pages}
use Rattle.sdbm_files.proofs.Parsing.{parsed_nothing, known_nothing}
use Rattle.sdbm_files.proofs.PagesInBytes.{count_is}
use Rattle.sdbm_files.proofs.reading.ReadPages.new.Goals as goal

pub invariant_of-result : goal.invariant_of-result
invariant_of-result g c =
    let size = c.args.size in
    let pag = c.none.result.bytes in
    let long : length pag ≡ 0 = ap (λ (l : List ℕ). length l) c.none.ensures in
    let none : whole_pages size pag ≡ 0 = count_is size (length pag) 0 (omega (arith, long)) in
    record {
      long = long;
      parsed = parsed_nothing size _ _ _ _ c.new.ensures.pages c.new.ensures.count c.new.ensures.bad c.none.ensures;
      known = known_nothing size _ _ _ _ (λ n. ap (λ es. raw_under es n) c.new.ensures.raw) none;
      rest = c.new-2.ensures.items ∙ sym (drop_all (whole_pages size pag * page_bytes size) pag (omega (arith, long)));
    }
