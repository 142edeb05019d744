use Rattle.std.proofs.Common.{take, map}
use Rattle.setup_order.specs.Growth.{AddsDependent}
use Rattle.setup_order.proofs.order.add_dependent.Given as goal

abbrev pub invariant-loop-link : goal.invariant-loop-link
invariant-loop-link l =
    AddsDependent l.object (take l.link-index l.links) (map (λ list. list.items) l.initial.dependents.items) (map (λ list. list.items) l.dependents.items)
