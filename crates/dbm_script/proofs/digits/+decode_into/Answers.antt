use Rattle.std.proofs.Common.{◌≡◌, ◌++◌, List, ℕ, Ok, length, refl, subst, rules}
use Rattle.std.specs.Prelude.{None}
use Rattle.std.specs.Result.{result_ok}
use Rattle.hex.specs.Hex.{decode_pairs}
use Rattle.dbm_script.proofs.HexPairs.{first_unread, read_both, second_unread}
use Rattle.dbm_script.proofs.digits.+decode_into.Goals as goal

pub returns-then-decode_eight-clause-bytes : goal.returns-then-decode_eight-clause-bytes
returns-then-decode_eight-clause-bytes t c = λ read.
    let first = c.split_at.result.0.now in
    let others = c.split_at.result.1.now in
    let whole : first ++ others ≡ c.args.text.now = search rules in
    subst (λ (text : List ℕ). decode_pairs 0 text ≡ Ok (c.decode_eight.new.out ++ c.decode_into.new.out)) whole
    (read_both 0 first others c.decode_eight.new.out c.decode_into.new.out (c.if-decode_eight.ensures.bytes refl) (c.decode_into.ensures.bytes read))

pub returns-then-decode_eight-clause-none : goal.returns-then-decode_eight-clause-none
returns-then-decode_eight-clause-none t c = λ unread.
    let first = c.split_at.result.0.now in
    let others = c.split_at.result.1.now in
    let whole : first ++ others ≡ c.args.text.now = search rules in
    let long : length first ≡ 16 = search rules in
    subst (λ (text : List ℕ). result_ok (decode_pairs 0 text) ≡ None) whole (second_unread 8 first others long (c.decode_into.ensures.none unread))

pub returns-else-decode_eight-clause-none : goal.returns-else-decode_eight-clause-none
returns-else-decode_eight-clause-none t c = λ unread.
    let first = c.split_at.result.0.now in
    let others = c.split_at.result.1.now in
    let whole : first ++ others ≡ c.args.text.now = search rules in
    let long : length first ≡ 16 = search rules in
    subst (λ (text : List ℕ). result_ok (decode_pairs 0 text) ≡ None) whole (first_unread 8 first others long (c.if-decode_eight.ensures.none refl))
