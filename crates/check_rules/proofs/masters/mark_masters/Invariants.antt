use Rattle.std.proofs.Common.{take}
use Rattle.check_rules.proofs.MarkLemmas.{HasRead}
use Rattle.check_rules.proofs.masters.mark_masters.Given as goal

-- what the dependencies before have marked
abbrev pub invariant-loop-dependency : goal.invariant-loop-dependency
invariant-loop-dependency l = HasRead (take l.dependency-index l.dependencies) l.initial.marks l.marks
