use Rattle.std.proofs.Common.{◌≡◌, map, length, take}
use Rattle.setup_order.proofs.order.link_counts.Given as goal

abbrev pub invariant-loop-list : goal.invariant-loop-list
invariant-loop-list l = l.counts.items ≡ map length (map (λ list. list.items) (take l.list-index l.links))
