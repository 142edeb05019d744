use Rattle.std.proofs.Common.{option_map, take}
use Rattle.clap.specs.Walk.{texts}
use Rattle.nagsched_cli.proofs.NearestLemmas.{IsNearestYet}
use Rattle.nagsched_cli.proofs.nearest.nearest.Given as goal

abbrev pub invariant-loop-name : goal.invariant-loop-name
invariant-loop-name l = IsNearestYet l.word (texts (take l.name-index l.names)) (option_map (λ n. n.now) l.near) l.least
