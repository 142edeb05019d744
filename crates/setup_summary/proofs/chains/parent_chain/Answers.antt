use Rattle.setup_summary.proofs.ChainLemmas.{few_hosts, parents_within}
use Rattle.setup_summary.proofs.chains.parent_chain.Goals as goal

pub longest_chain-requires-clause-bounded : goal.longest_chain-requires-clause-bounded
longest_chain-requires-clause-bounded c = rw c.deref.ensures.value (few_hosts (λ list. list.items) c.args.setup.now c.in_ok-links.links.items c.in_ok-links.ensures.setup c.in_ok-links.ensures.links)

pub longest_chain-requires-clause-within : goal.longest_chain-requires-clause-within
longest_chain-requires-clause-within c = rw c.deref.ensures.value (parents_within (λ list. list.items) c.args.setup.now c.in_ok-links.links.items c.in_ok-links.ensures.setup c.in_ok-links.ensures.links)
