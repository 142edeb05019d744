use Rattle.std.proofs.Common.{arith}
use Rattle.nagsched_cli.proofs.NearestLemmas.{nearer_more, no_nearer_more}
use Rattle.nagsched_cli.proofs.nearest.nearest.Goals as goal
use Rattle.nagsched_cli.proofs.nearest.nearest.Goals.{then-edits-least, else-edits-least}

pub loop-name-preserved : goal.loop-name-preserved
loop-name-preserved c =
    elim c.if-edits-least.branch [
      | then-edits-least w ↦ rw (w.near-is, w.least-is)
          (nearer_more c.args.word.now c.args.names.now c.loop-name.name-index _ _ _ _ c.loop-name-test.true c.loop-name.invariant c.in_ok-edits.ensures.value w.if-edits-least.true)
      | else-edits-least w ↦ rw (w.near-is, w.least-is)
          (no_nearer_more c.args.word.now c.args.names.now c.loop-name.name-index _ _ _ _ c.loop-name-test.true c.loop-name.invariant c.in_ok-edits.ensures.value
          (λ lt. omega (arith, w.if-edits-least.false, lt)))
    ]
