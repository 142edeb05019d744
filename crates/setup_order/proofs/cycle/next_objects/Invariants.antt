use Rattle.std.proofs.Common.{map}
use Rattle.setup_order.specs.Search.{AreSuccessorsBelow}
use Rattle.setup_order.proofs.cycle.next_objects.Given as goal

abbrev pub invariant-loop-object : goal.invariant-loop-object
invariant-loop-object l = AreSuccessorsBelow l.object (map (λ list. list.items) l.links) l.left l.next.items
