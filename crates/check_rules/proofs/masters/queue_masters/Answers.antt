use Rattle.std.proofs.Common.{◌∙◌, arith}
use Rattle.std.proofs.lemmas.List.{length-set}
use Rattle.check_rules.proofs.MarkLemmas.{fits_more, master_within, queued_more, reads_inherited, reads_marked, reads_uninherited}
use Rattle.check_rules.proofs.masters.queue_masters.Goals as goal
use Rattle.check_rules.proofs.masters.queue_masters.Goals.{then-dependency+then-not-marks-master+else-more-waiting, else-dependency}
use Rattle.check_rules.proofs.masters.queue_masters.Goals.{else-dependency-via-then-dependency+else-not-marks-master, else-dependency-via-else-dependency}

pub loop-dependency-preserved : goal.loop-dependency-preserved
loop-dependency-preserved c =
    let ds = c.args.dependencies.now in
    let i = c.loop-dependency.dependency-index in
    let marks = c.loop-dependency.marks in
    let waiting = c.loop-dependency.waiting in
    let more = c.loop-dependency.more in
    let test = c.loop-dependency-test.true in
    let read = c.loop-dependency.invariant.0 in
    let queued = c.loop-dependency.invariant.1 in
    let fits = c.loop-dependency.invariant.2 in
    let room = c.loop-dependency.invariant.3 in
    elim c.if-dependency.branch [
      | then-dependency+then-not-marks-master+else-more-waiting w ↦
          let free = w.if-more-waiting.false in
          rw (w.marks-is, w.waiting-is, w.more-is) (
            reads_inherited ds i _ test c.args.marks.now marks c.requires.in_range read w.if-dependency.true,
            queued_more c.args.marks.now marks _ waiting more _ queued (master_within ds i _ test c.args.marks.now marks c.requires.in_range read)
                (omega (arith, fits, free)),
            fits_more waiting more _ (omega (arith, fits, free)),
            length-set waiting more _ ∙ room,
          )
      | else-dependency w ↦
          elim w.else-dependency.branch [
            | else-dependency-via-then-dependency+else-not-marks-master w' ↦
                rw (w.marks-is, w.waiting-is, w.more-is) (
                  reads_marked ds i _ test c.args.marks.now marks c.requires.in_range read w'.if-not-marks-master.false,
                  queued,
                  fits,
                  room,
                )
            | else-dependency-via-else-dependency w' ↦
                rw (w.marks-is, w.waiting-is, w.more-is) (
                  reads_uninherited ds i _ test c.args.marks.now marks c.requires.in_range read w'.if-dependency.false,
                  queued,
                  fits,
                  room,
                )
          ]
    ]
