use Rattle.std.proofs.Common.{◌≡◌, map, take}
use Rattle.check_objects.specs.Numbering.{dependency_lists}
use Rattle.check_objects.proofs.dependency_lists.list_by_dependent.Given as goal

abbrev pub invariant-loop-dependent : goal.invariant-loop-dependent
invariant-loop-dependent l = map (λ list. list.items) l.lists.items ≡ dependency_lists l.count (take l.dependent-index l.numbered)
