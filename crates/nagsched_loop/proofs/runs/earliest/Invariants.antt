use Rattle.nagsched_loop.specs.declared.runs.Run.{Run}
use Rattle.nagsched_loop.proofs.EarliestLemmas.{IsEarliest}
use Rattle.nagsched_loop.proofs.runs.earliest.Given as goal

-- the earliest of the limits of the runs before
abbrev pub invariant-loop-run : goal.invariant-loop-run
invariant-loop-run l = IsEarliest (λ (run : Run). run.limit) l.runs l.until l.run-index l.least
