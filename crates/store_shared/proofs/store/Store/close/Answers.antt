use Rattle.std.proofs.Common.{sym, subst}
use Rattle.std.specs.List.{All}
use Rattle.store_shared.specs.Closed.{Agrees, Covers, IsCloseFault}
use Rattle.store_shared.proofs.store.Store.close.Goals as goal

pub returns-in-Some-clause-fault : goal.returns-in-Some-clause-fault
returns-in-Some-clause-fault g c =
    let core = c.into_inner-core.result in
    let kind = c.self.inside.kind in
    let size = c.self.inside.size in
    let handed = subst (λ hs. IsCloseFault core.desk core.sessions (record { kind = kind; size = size; opening = c.as_slice.result.now }) hs c.in-Some.fault) c.as_slice-2.ensures.value c.in-Some.ensures.some in
    rw (← c.self.view_is) (core.desk, (core.sessions, subst (λ pairs. IsCloseFault core.desk core.sessions (record { kind = kind; size = size; opening = pairs }) c.args.calls.items c.in-Some.fault) c.as_slice.ensures handed))

pub returns-clause-agree : goal.returns-clause-agree
returns-clause-agree g c =
    let entries = c.into_inner-core.result.desk.entries in
    subst (λ es. All (Agrees es) c.args.calls.items) (sym c.into_parts-image.ensures.entries) (subst (All (Agrees entries)) c.as_slice-2.ensures.value c.in_default.ensures.none.agree)

pub returns-clause-covers : goal.returns-clause-covers
returns-clause-covers g c =
    let entries = c.into_inner-core.result.desk.entries in
    subst (λ es. Covers es c.args.calls.items) (sym c.into_parts-image.ensures.entries) (subst (Covers entries) c.as_slice-2.ensures.value c.in_default.ensures.none.covers)
