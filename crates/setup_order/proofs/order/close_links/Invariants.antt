use Rattle.std.proofs.Common.{take}
use Rattle.setup_order.specs.Growth.{ClosesLinks}
use Rattle.setup_order.proofs.order.close_links.Given as goal

abbrev pub invariant-loop-dependent : goal.invariant-loop-dependent
invariant-loop-dependent l = ClosesLinks (take l.dependent-index l.dependents) l.initial.left l.initial.order.items l.left l.order.items
