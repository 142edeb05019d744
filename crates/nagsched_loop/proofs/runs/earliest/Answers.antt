use Rattle.nagsched_loop.specs.declared.runs.Run.{Run}
use Rattle.nagsched_loop.proofs.EarliestLemmas.{earliest_next}
use Rattle.nagsched_loop.proofs.runs.earliest.Goals as goal

pub loop-run-preserved : goal.loop-run-preserved
loop-run-preserved c =
    rw c.min-least.ensures
    (earliest_next (λ (run : Run). run.limit) c.args.runs.now c.args.until c.loop-run.run-index c.loop-run.least _ c.loop-run-test.true c.loop-run.invariant)
