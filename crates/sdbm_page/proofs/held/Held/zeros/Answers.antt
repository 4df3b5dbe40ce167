use Rattle.sdbm_page.proofs.held.Held.zeros.Goals as goal

pub returns-in_ok-vec-in-Wide : goal.returns-in_ok-vec-in-Wide
returns-in_ok-vec-in-Wide g c = rw c.in-Wide.is (c.in_ok-vec-in-Wide.ensures.items_if_clones_equal (λ y same. same))
