-- The result for linked objects: an order, or a cycle.
use Rattle.std.specs.Prelude.{◌≡◌, ℕ, ◌+◌, ◌<◌, true, List, get_or, length, slice_get, unwrap_or}
use Rattle.setup_order.specs.Cycles.{has_cycle, links_of}
use Rattle.setup_order.specs.Orders.{is_among, IsOrder}
use Rattle.setup_order.specs.declared.order.OrderOrCycle.{OrderOrCycle}
use Rattle.setup_order.specs.declared.order.OrderOrCycle.TheVariants as found

-- the object after the one at an index of a cycle: the next one, and after the last the first
abbrev pub successor : List ℕ → ℕ → ℕ
successor cycle index = unwrap_or (slice_get cycle (index + 1)) (get_or cycle 0 0)

-- different objects, each linked to the next one, and the last to the first
pub record IsCycle (links : List (List ℕ)) (cycle : List ℕ) : Type 0 where
  pub nonempty : 0 < length cycle
  pub within : (index : ℕ) → index < length cycle → get_or cycle index 0 < length links
  pub linked : (index : ℕ) → index < length cycle → is_among (links_of links (get_or cycle index 0)) (successor cycle index) ≡ true
  pub distinct : (i j : ℕ) → i < length cycle → j < length cycle → get_or cycle i 0 ≡ get_or cycle j 0 → i ≡ j

-- an order of the objects; or a cycle, in which case there is no order
abbrev pub IsOrderOrCycle : List (List ℕ) → OrderOrCycle → Type 0
IsOrderOrCycle links (found.Order order) = IsOrder links order.items
IsOrderOrCycle links (found.Cycle cycle) = (has_cycle links ≡ true) × IsCycle links cycle.items
