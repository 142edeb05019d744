use Rattle.std.proofs.Common.{◌≡◌, ◌<◌}
use Rattle.check_objects.specs.Configuration.{object_count}
use Rattle.check_rules.specs.Dependencies.{is_blocked}
use Rattle.check_rules.proofs.masters.chain_end.Given as goal

-- the chain so far decides
abbrev pub invariant-loop-link : goal.invariant-loop-link
invariant-loop-link l = (is_blocked l.setup l.standings l.end ≡ is_blocked l.setup l.standings l.n) × (l.end < object_count l.setup)
