use Rattle.std.proofs.Common.{◌≡◌, map, replicate, []}
use Rattle.setup_order.proofs.lists.empty_lists.Given as goal

abbrev pub invariant-loop-made : goal.invariant-loop-made
invariant-loop-made g l = map (λ list. list.items) l.lists.items ≡ replicate l._made []
