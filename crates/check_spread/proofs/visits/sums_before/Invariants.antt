use Rattle.std.proofs.Common.{◌≡◌, ◌++◌, drop, take, sum}
use Rattle.check_spread.specs.Visits.{sums_before}
use Rattle.check_spread.proofs.visits.sums_before.Given as goal

abbrev pub invariant-loop-count : goal.invariant-loop-count
invariant-loop-count l =
    (sums_before 0 l.counts ≡ l.sums.items ++ sums_before l.sum (drop l.count-index l.counts)) × (l.sum ≡ sum (take l.count-index l.counts))
