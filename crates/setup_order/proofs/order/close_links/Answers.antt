use Rattle.setup_order.proofs.GrowthLemmas.{still_to_close, closed_next}
use Rattle.setup_order.proofs.order.close_links.Goals as goal

pub close_link-requires-clause-open : goal.close_link-requires-clause-open
close_link-requires-clause-open c =
    still_to_close c.args.dependents.now _ _ _ _ c.loop-dependent.dependent-index 0 c.loop-dependent.invariant c.loop-dependent-test.true
    c.requires.within c.requires.open

pub loop-dependent-preserved : goal.loop-dependent-preserved
loop-dependent-preserved c =
    let open_still = still_to_close c.args.dependents.now _ _ _ _ c.loop-dependent.dependent-index 0 c.loop-dependent.invariant
    c.loop-dependent-test.true c.requires.within c.requires.open in
    closed_next c.args.dependents.now _ _ _ _ _ _ c.loop-dependent.dependent-index 0 c.loop-dependent.invariant c.loop-dependent-test.true
    c.requires.within open_still c.in_ok-close_link.ensures.left c.in_ok-close_link.ensures.order
