use Rattle.std.proofs.Common.{◌≡◌, ◌==◌, ◌⊎◌, take, true}
use Rattle.std.specs.List.{list_all}
use Rattle.setup_order.specs.Search.{is_waiting}
use Rattle.setup_order.proofs.cycle.last_waiting_object.Given as goal

abbrev pub invariant-loop-object : goal.invariant-loop-object
invariant-loop-object l = (list_all (λ count. count == 0) (take l.object l.left) ≡ true) ⊎ (is_waiting l.left l.last ≡ true)
