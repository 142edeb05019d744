use Rattle.std.proofs.Common.{map}
use Rattle.setup_summary.proofs.DepthLemmas.{longest_by_depths}
use Rattle.setup_summary.proofs.depths.longest_chain_in_order.Goals as goal

pub returns : goal.returns
returns c =
    rw (c.greatest_of.ensures, c.deref.ensures.value)
    (longest_by_depths (map (λ list. list.items) c.args.links.now) c.in_ok-depths.depths.items c.in_ok-depths.ensures)
