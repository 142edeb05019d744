use Rattle.check_rules.proofs.MarkLemmas.{reads_inherited, reads_nothing, reads_uninherited}
use Rattle.check_rules.proofs.masters.mark_masters.Goals as goal
use Rattle.check_rules.proofs.masters.mark_masters.Goals.{then-dependency, else-dependency}

pub loop-dependency-init : goal.loop-dependency-init
loop-dependency-init c = reads_nothing c.args.marks.now

pub loop-dependency-preserved : goal.loop-dependency-preserved
loop-dependency-preserved c =
    let ds = c.args.dependencies.now in
    let i = c.loop-dependency.dependency-index in
    let marks = c.loop-dependency.marks in
    elim c.if-dependency.branch [
      | then-dependency w ↦
          rw w.marks-is
          (reads_inherited ds i _ c.loop-dependency-test.true c.args.marks.now marks c.requires.in_range c.loop-dependency.invariant w.if-dependency.true)
      | else-dependency w ↦
          rw w.marks-is
          (reads_uninherited ds i _ c.loop-dependency-test.true c.args.marks.now marks c.requires.in_range c.loop-dependency.invariant w.if-dependency.false)
    ]
