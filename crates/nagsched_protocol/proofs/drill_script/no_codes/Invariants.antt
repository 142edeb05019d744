use Rattle.std.proofs.Common.{◌≡◌, map, replicate, []}
use Rattle.nagsched_protocol.proofs.drill_script.no_codes.Given as goal

abbrev pub invariant-loop-made : goal.invariant-loop-made
invariant-loop-made l = map (λ list. list.items) l.lists.items ≡ replicate l._made []
