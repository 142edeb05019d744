use Rattle.std.proofs.Common.{◌<◌, ap, length, set, ◌∙◌, arith}
use Rattle.check_sched.proofs.RosterLaws.{between, between_none, length-waiting_from, set_next}
use Rattle.check_sched.proofs.roster.build_queue.Goals as goal

pub loop-number-init : goal.loop-number-init
loop-number-init c = record { waiting = c.in_ok-queue.ensures ∙ between_none c.args.from c.args.objects.now; above = omega arith }

pub enqueue-requires : goal.enqueue-requires
enqueue-requires c =
    let long = ap length c.loop-number.invariant.waiting ∙ length-waiting_from 0 (between c.args.from c.loop-number.number) c.args.objects.now in
    omega (arith, long, c.loop-number-test.true, c.requires.within)

pub loop-number-preserved : goal.loop-number-preserved
loop-number-preserved c =
    let above = c.loop-number.invariant.above in
    let in_range : c.loop-number.number < length c.args.objects.now = omega (arith, c.loop-number-test.true, c.requires.within) in
    record {
      waiting = c.enqueue.ensures ∙ ap (λ time. set c.loop-number.queue c.loop-number.number time) c.candidate_time.ensures
          ∙ set_next c.args.from c.loop-number.number c.loop-number.queue c.args.objects.now c.index-objects-number.result
          c.index-objects-number.result c.loop-number.invariant.waiting c.index-objects-number.is above in_range;
      above = omega (arith, above);
    }
