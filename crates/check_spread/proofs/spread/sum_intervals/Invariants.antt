use Rattle.check_spread.proofs.TotalLemmas.{IsTotal}
use Rattle.check_spread.proofs.spread.sum_intervals.Given as goal

abbrev pub invariant-loop-object : goal.invariant-loop-object
invariant-loop-object l = IsTotal l.interval_length l.object-index l.objects l.total
