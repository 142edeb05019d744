use Rattle.std.proofs.Common.{◌≡◌, MatchOption, false, take, true}
use Rattle.std.specs.List.{list_any}
use Rattle.setup_order.specs.Orders.{is_among}
use Rattle.setup_order.specs.Search.{is_waiting}
use Rattle.setup_order.proofs.cycle.last_waiting_among.Given as goal

abbrev pub invariant-loop-object : goal.invariant-loop-object
invariant-loop-object l = MatchOption l.found (list_any (is_waiting l.left) (take l.object-index l.objects) ≡ false)
    (λ object. (is_among l.objects object ≡ true) × (is_waiting l.left object ≡ true))
