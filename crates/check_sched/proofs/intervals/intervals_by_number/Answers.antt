use Rattle.std.proofs.Common.{◌<◌, ◌∙◌, arith, refl}
use Rattle.std.proofs.lemmas.List.{take_all}
use Rattle.check_objects.specs.Configuration.{object_count}
use Rattle.check_sched.specs.Intervals.{intervals_of}
use Rattle.check_sched.proofs.IntervalLaws.{intervals_each, intervals_seen}
use Rattle.check_sched.proofs.OpeningLaws.{one_more}
use Rattle.check_sched.proofs.ReportLaws.{check_in_range, object_read_in_range, retry_in_range}
use Rattle.check_sched.proofs.intervals.intervals_by_number.Goals as goal

pub intervals_for-requires-clause-check : goal.intervals_for-requires-clause-check
intervals_for-requires-clause-check c =
    check_in_range c.object.result.now (object_read_in_range c.args.setup.now c.loop-number.number c.object.result.now c.len-count.ensures.setup c.object.ensures)

pub intervals_for-requires-clause-retry : goal.intervals_for-requires-clause-retry
intervals_for-requires-clause-retry c =
    retry_in_range c.object.result.now (object_read_in_range c.args.setup.now c.loop-number.number c.object.result.now c.len-count.ensures.setup c.object.ensures)

pub loop-number-preserved : goal.loop-number-preserved
loop-number-preserved c =
    let in_range : c.loop-number.number < object_count c.args.setup.now = omega arith in
    one_more c.loop-number.number (intervals_of c.args.setup.now) c.loop-number.intervals.items _ c.intervals_for.result c.in_ok-push.ensures.items
    c.loop-number.invariant
    (intervals_seen c.args.setup.now c.loop-number.number c.object.result.now c.intervals_for.result in_range c.object.ensures c.intervals_for.ensures)

pub returns : goal.returns
returns c =
    c.loop-number.invariant
    ∙ take_all c.loop-number.number (intervals_of c.args.setup.now)
    (let l = intervals_each c.args.setup.now (intervals_of c.args.setup.now) refl in omega (arith, l))
