use Rattle.std.proofs.Common.{◌≡◌, ◌∙◌, ◌++◌, Some, None, OnOk, codes, refl, rules, sym, ap}
use Rattle.std.proofs.lemmas.Result.{on_ok_weaker}
use Rattle.sdbm_addr.specs.Pairs.{Content}
use Rattle.dbm_script.specs.Notation.{value_shown}
use Rattle.dbm_script.proofs.Directly.{fetch_found, fetch_missing, on_page}
use Rattle.dbm_script.proofs.direct.answer_fetch.Goals as goal

pub returns-in_default : goal.returns-in_default
returns-in_default g c =
    let p = c.place-place.ensures in
    let db = c.args.image.now in
    let none = on_page db c.place-place.result.page c.args.key.now None None c.in_default.ensures.pairs refl in
    let written : OnOk c.extend_from_slice.result (c.extend_from_slice.new.self.items ≡ c.args.text.now.items ++ codes "missing") = search rules in
    on_ok_weaker c.extend_from_slice.result
    (λ is. record { added = codes "missing"; is = is; holds = fetch_missing _ c.args.notation.now db p.database c.place-place.result c.args.key.now (record { depth = p.depth; shallow = p.shallow; low_bits = p.low_bits; bit = p.bit }) none })
    written

pub returns-in-None : goal.returns-in-None
returns-in-None g c =
    let p = c.place-place.ensures in
    let db = c.args.image.now in
    let none = on_page db c.place-place.result.page c.args.key.now (Some c.page-page.result.now.pairs) None (ap (λ (content : Content). Some content.pairs) c.page-page.ensures ∙ c.in-Some.ensures.pairs) c.in-None.ensures.absent in
    let written : OnOk c.extend_from_slice-in-None.result (c.extend_from_slice-in-None.new.self.items ≡ c.args.text.now.items ++ codes "missing") = search rules in
    on_ok_weaker c.extend_from_slice-in-None.result
    (λ is. record { added = codes "missing"; is = is; holds = fetch_missing _ c.args.notation.now db p.database c.place-place.result c.args.key.now (record { depth = p.depth; shallow = p.shallow; low_bits = p.low_bits; bit = p.bit }) none })
    written

pub returns-in-Some-find : goal.returns-in-Some-find
returns-in-Some-find g c =
    let p = c.place-place.ensures in
    let db = c.args.image.now in
    let value = c.record.result.now in
    let found = on_page db c.place-place.result.page c.args.key.now (Some c.page-page.result.now.pairs) (Some value) (ap (λ (content : Content). Some content.pairs) c.page-page.ensures ∙ c.in-Some.ensures.pairs) (c.in-Some-find.ensures.found.has_value ∙ ap Some (sym c.record.ensures)) in
    on_ok_weaker c.show_found.result
    (λ is. record { added = codes "found " ++ value_shown c.args.notation.now value; is = is; holds = fetch_found _ c.args.notation.now db p.database c.place-place.result c.args.key.now value (record { depth = p.depth; shallow = p.shallow; low_bits = p.low_bits; bit = p.bit }) found })
    c.show_found.ensures
