use Rattle.std.proofs.Common.{◌≡◌, map, take}
use Rattle.check_objects.specs.Configuration.{masters_in}
use Rattle.check_objects.proofs.dependency_lists.master_links.Given as goal

abbrev pub invariant-loop-list : goal.invariant-loop-list
invariant-loop-list l = map (λ list. list.items) l.links.items ≡ map masters_in (map (λ list. list.items) (take l.list-index l.dependencies))
