use Rattle.std.proofs.Common.{length, map, ◌-◌}
use Rattle.setup_order.specs.Growth.{IsOrderPrefix}
use Rattle.setup_order.proofs.order.topological_order.Given as goal

abbrev pub invariant-loop-place : goal.invariant-loop-place
invariant-loop-place l = IsOrderPrefix (map (λ list. list.items) l.links) l.place l.left.items l.order.items

abbrev pub decreases-loop-place : goal.decreases-loop-place
decreases-loop-place l = length l.links - l.place
