use Rattle.std.proofs.Common.{map, take}
use Rattle.setup_summary.proofs.DepthLemmas.{KnowsDepths}
use Rattle.setup_summary.proofs.depths.find_depths.Given as goal

abbrev pub invariant-loop-object : goal.invariant-loop-object
invariant-loop-object l = KnowsDepths (map (λ list. list.items) l.links) (take l.object-index l.order) l.depths.items
