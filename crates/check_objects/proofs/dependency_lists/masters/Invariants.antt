use Rattle.std.proofs.Common.{◌≡◌, take}
use Rattle.check_objects.specs.Configuration.{masters_in}
use Rattle.check_objects.proofs.dependency_lists.masters.Given as goal

abbrev pub invariant-loop-dependency : goal.invariant-loop-dependency
invariant-loop-dependency l = l.masters.items ≡ masters_in (take l.dependency-index l.dependencies)
