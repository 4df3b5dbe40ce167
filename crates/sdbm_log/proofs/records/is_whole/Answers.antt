use Rattle.std.proofs.Common.{◌≡◌, ◌==◌, ◌+◌, ◌-◌, take, drop, length, min, sym, ◌∙◌, ap}
use Rattle.sdbm_log.specs.Log.{nonzero, size_at}
use Rattle.sdbm_log.proofs.Weights.{short_no, head_no, whole_by, take_cut}
use Rattle.sdbm_log.proofs.records.is_whole.Goals as goal

pub returns-then-log-lt4 : goal.returns-then-log-lt4
returns-then-log-lt4 c = sym (short_no c.args.log.now c.if-log-lt4.true)

pub returns-then-nonzero-ne4 : goal.returns-then-nonzero-ne4
returns-then-nonzero-ne4 c = sym (head_no c.args.log.now (λ is. c.if-nonzero-ne4.true (c.nonzero.ensures.is ∙ is)))

pub returns : goal.returns
returns c =
    let log = c.args.log.now in
    let head : nonzero (take 4 log) ≡ 4 = sym c.nonzero.ensures.is ∙ c.if-nonzero-ne4.false in
    let end : c.min-end.result ≡ min (length log) (8 + size_at log) = c.min-end.ensures ∙ ap (λ k. min (length log) (8 + k)) c.size.ensures.is in
    let body : c.nonzero-2.result ≡ nonzero (take (4 + size_at log) (drop 4 log)) =
    c.nonzero-2.ensures.is ∙ ap (λ k. nonzero (take (k - 4) (drop 4 log))) end ∙ ap nonzero (take_cut (size_at log) log c.if-log-lt4.false) in
    (λ i. body i == c.weight.ensures.is i) ∙ sym (whole_by log head)
