use Rattle.std.proofs.Common.{◌≡◌, ◌≤◌, length, take}
use Rattle.check_rules.specs.Marks.{HasQueued}
use Rattle.check_rules.proofs.MarkLemmas.{HasRead}
use Rattle.check_rules.proofs.masters.queue_masters.Given as goal

-- what the dependencies before have marked and queued
abbrev pub invariant-loop-dependency : goal.invariant-loop-dependency
invariant-loop-dependency l =
    HasRead (take l.dependency-index l.dependencies) l.initial.marks l.marks
    × HasQueued l.initial.marks l.marks (take l.count l.initial.waiting) (take l.more l.waiting)
    × (l.more ≤ length l.waiting) × (length l.waiting ≡ length l.initial.waiting)
