use Rattle.setup_summary.proofs.ChainLemmas.{few_masters}
use Rattle.setup_summary.proofs.chains.dependency_chain.Goals as goal

pub longest_chain_in_order-requires-clause-bounded : goal.longest_chain_in_order-requires-clause-bounded
longest_chain_in_order-requires-clause-bounded c =
    rw c.deref.ensures.value (few_masters (λ list. list.items) c.args.setup.now c.in_ok-links.links.items c.in_ok-links.ensures.setup c.in_ok-links.ensures.links)

pub longest_chain_in_order-requires-clause-order : goal.longest_chain_in_order-requires-clause-order
longest_chain_in_order-requires-clause-order c = rw (c.deref.ensures.value, c.in_ok-links.ensures.links) c.order.ensures
