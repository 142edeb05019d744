use Rattle.std.proofs.Common.{◌≡◌, ◌++◌, List}
use Rattle.std.specs.List.{All}
use Rattle.check_desk.specs.declared.passes.Pass.{Pass}
use Rattle.check_workers.specs.declared.tally.Tally.{Tally}
use Rattle.check_workers.specs.Crews.{AreGathered, IsTallied}
use Rattle.check_workers.proofs.crews.gather_all.Given as goal

abbrev pub invariant-loop-other : goal.invariant-loop-other
invariant-loop-other l =
    (gathered : List (Pass × Tally)) × (l.worked.items ++ gathered ≡ l.fn.worked.items) × AreGathered l.desk gathered l.pass l.tally × All
    (λ w. IsTallied l.desk w.0 w.1) l.worked.items

abbrev pub decreases-loop-other : goal.decreases-loop-other
decreases-loop-other l = goal.left-loop-other l
