use Rattle.check_spread.specs.Visits.{HasCounts}
use Rattle.check_spread.proofs.VisitLemmas.{has_remainder_before}
use Rattle.check_spread.proofs.visits.first_ranks.Given as goal

abbrev pub invariant-loop-position : goal.invariant-loop-position
invariant-loop-position l = HasCounts (has_remainder_before l.factor l.position) l.factor l.objects l.counts.items
