use Rattle.std.proofs.Common.{◌≡◌, ◌++◌, ◌<◌, take, All, IfSome}
use Rattle.check_spread.specs.Spread.{first_times}
use Rattle.check_states.specs.declared.times.TheConstants.{LAST_TIME}
use Rattle.check_spread.specs.Visits.{HasCounts}
use Rattle.check_spread.proofs.VisitLemmas.{is_visited_earlier}
use Rattle.check_spread.proofs.times.push_first_times.Given as goal

abbrev pub invariant-loop-position : goal.invariant-loop-position
invariant-loop-position l =
    HasCounts (is_visited_earlier l.spread.factor l.position) l.spread.factor l.objects l.ranks.items
    × (l.times.items ≡ l.fn.times.items ++ take l.position (first_times l.spread l.objects))
    × All (λ first. IfSome first (λ time. time < LAST_TIME)) l.times.items
