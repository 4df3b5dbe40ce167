use Rattle.std.proofs.Common.{◌≡◌, ◌≤◌, ◌*◌, ◌/◌, ◌^◌, ℕ, length, ap, ◌∙◌, arith}
use Rattle.std.proofs.lemmas.Result.{on_ok_weaker, on_err_weaker}
use Rattle.sdbm_addr.specs.Pairs.{page_bytes}
use Rattle.sdbm_files.specs.Reading.{PagRead, IsPartlyRead}
use Rattle.sdbm_files.proofs.Pieces.{piece_none, whole_still, next_page, next_short, next_read, inside_at, whole_all, rest_below, rest_fits, all_read}
use Rattle.sdbm_files.proofs.SinkLemmas.{on_err}
use Rattle.sdbm_files.proofs.reading.ReadPages.push.Given as given
use Rattle.sdbm_files.proofs.reading.ReadPages.push.Goals as goal

nothing : (n : ℕ) → 0 * n ≡ 0
nothing n = omega arith

pub loop-index-init : goal.loop-index-init
loop-index-init g c = piece_none c.args.self.now c.args.piece.now _ (nothing (page_bytes c.args.self.now.size))

-- the page size
size_is : (g : given.Over) (c : goal.After-push_page-arg-in-loop-index-1 g) → c.bytes-size.result ≡ page_bytes c.args.self.now.size
size_is g c = c.bytes-size.ensures ∙ ap (λ (r : PagRead). page_bytes r.size) c.self.view_is

inside : (g : given.Over) (c : goal.After-push_page-arg-in-loop-index-1 g) → c.loop-index.index * page_bytes c.args.self.now.size ≤ length c.args.piece.now
inside g c = inside_at c.args.self.now.size (length c.args.piece.now) c.loop-index.index c.bytes-size.result (size_is g c) c.loop-index-test.true

pub push_page-requires-clause-whole : goal.push_page-requires-clause-whole
push_page-requires-clause-whole g c = whole_still c.args.self.now c.loop-index.self c.args.piece.now c.loop-index.index c.loop-index.invariant (inside g c) c.requires.whole

pub push_page-requires-clause-short : goal.push_page-requires-clause-short
push_page-requires-clause-short g c =
    next_short c.args.self.now c.loop-index.self c.args.piece.now c.loop-index.index c.loop-index.invariant (inside g c) c.bytes-size.result (size_is g c) c.loop-index-test.true (2 ^ 63) c.requires.short

pub push_page-requires-clause-page : goal.push_page-requires-clause-page
push_page-requires-clause-page g c = next_page c.args.self.now c.loop-index.self c.args.piece.now c.loop-index.index c.loop-index.invariant (inside g c) c.bytes-size.result (size_is g c) c.loop-index-test.true

pub returns-in_err-push_page-clause-err : goal.returns-in_err-push_page-clause-err
returns-in_err-push_page-clause-err g c =
    on_err (IsPartlyRead c.args.self.now c.args.piece.now c.push_page.new.self) c.from_residual.result
    (record { count = c.loop-index.index * page_bytes c.args.self.now.size; is = c.in_err-push_page.ensures.err ∙ c.loop-index.invariant })

pub loop-index-preserved : goal.loop-index-preserved
loop-index-preserved g c =
    let b_is = c.bytes-size.ensures ∙ ap (λ (r : PagRead). page_bytes r.size) c.self.view_is in
    let inside = inside_at c.args.self.now.size (length c.args.piece.now) c.loop-index.index c.bytes-size.result b_is c.loop-index-test.true in
    next_read c.args.self.now c.loop-index.self c.args.piece.now c.loop-index.index c.loop-index.invariant inside c.bytes-size.result b_is c.loop-index-test.true c.push_page.new.self c.in_ok-push_page.ensures.ok

pub push_rest-requires-clause-whole : goal.push_rest-requires-clause-whole
push_rest-requires-clause-whole g c =
    let b_is = c.bytes-size.ensures ∙ ap (λ (r : PagRead). page_bytes r.size) c.self.view_is in
    let all : c.loop-index.index ≡ length c.args.piece.now / c.bytes-size.result = omega (arith, c.loop-index.auto.index-end, c.loop-index-test.false) in
    whole_all c.args.self.now c.loop-index.self c.args.piece.now c.loop-index.index c.bytes-size.result c.loop-index.invariant b_is all c.requires.whole

pub push_rest-requires-clause-short : goal.push_rest-requires-clause-short
push_rest-requires-clause-short g c =
    let b_is = c.bytes-size.ensures ∙ ap (λ (r : PagRead). page_bytes r.size) c.self.view_is in
    let all : c.loop-index.index ≡ length c.args.piece.now / c.bytes-size.result = omega (arith, c.loop-index.auto.index-end, c.loop-index-test.false) in
    rest_fits c.args.self.now c.loop-index.self c.args.piece.now c.loop-index.index c.bytes-size.result c.loop-index.invariant b_is all (2 ^ 63) c.requires.short

pub push_rest-requires-clause-rest : goal.push_rest-requires-clause-rest
push_rest-requires-clause-rest g c =
    let b_is = c.bytes-size.ensures ∙ ap (λ (r : PagRead). page_bytes r.size) c.self.view_is in
    let all : c.loop-index.index ≡ length c.args.piece.now / c.bytes-size.result = omega (arith, c.loop-index.auto.index-end, c.loop-index-test.false) in
    rest_below c.args.self.now c.loop-index.self c.args.piece.now c.loop-index.index c.bytes-size.result c.loop-index.invariant b_is all

pub returns-clause-ok : goal.returns-clause-ok
returns-clause-ok g c =
    let b_is = c.bytes-size.ensures ∙ ap (λ (r : PagRead). page_bytes r.size) c.self.view_is in
    let all : c.loop-index.index ≡ length c.args.piece.now / c.bytes-size.result = omega (arith, c.loop-index.auto.index-end, c.loop-index-test.false) in
    on_ok_weaker c.push_rest.result (all_read c.args.self.now c.loop-index.self c.args.piece.now c.loop-index.index c.bytes-size.result c.loop-index.invariant b_is all c.push_rest.new.self) c.push_rest.ensures.ok

pub returns-clause-err : goal.returns-clause-err
returns-clause-err g c =
    on_err_weaker c.push_rest.result (λ e. record { count = c.loop-index.index * page_bytes c.args.self.now.size; is = e ∙ c.loop-index.invariant }) c.push_rest.ensures.err
