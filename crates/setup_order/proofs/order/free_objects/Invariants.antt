use Rattle.std.proofs.Common.{◌≡◌, ◌++◌, drop}
use Rattle.setup_order.specs.Growth.{free_objects_from}
use Rattle.setup_order.proofs.order.free_objects.Given as goal

abbrev pub invariant-loop-object : goal.invariant-loop-object
invariant-loop-object l = free_objects_from 0 l.left ≡ l.objects.items ++ free_objects_from l.object (drop l.object l.left)
