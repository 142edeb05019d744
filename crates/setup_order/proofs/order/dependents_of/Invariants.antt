use Rattle.std.proofs.Common.{length, take, map}
use Rattle.setup_order.specs.Growth.{HasDependents}
use Rattle.setup_order.proofs.order.dependents_of.Given as goal

abbrev pub invariant-loop-object : goal.invariant-loop-object
invariant-loop-object l = HasDependents (length l.links) (take l.object (map (λ list. list.items) l.links)) (map (λ list. list.items) l.dependents.items)
