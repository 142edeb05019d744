use Rattle.std.proofs.Common.{◌<◌, ◌∙◌, arith, refl}
use Rattle.std.proofs.lemmas.List.{take_all}
use Rattle.check_objects.specs.Configuration.{object_count}
use Rattle.check_saved_state.specs.Saved.{saved_by_name}
use Rattle.check_sched.specs.Saved.{scheduling_after_resume, time_among}
use Rattle.check_sched.proofs.EachObjectLaws.{one_each, scheduling_seen}
use Rattle.check_sched.proofs.ReportLaws.{check_in_range, object_read_in_range}
use Rattle.check_sched.proofs.ResumedLaws.{length-made}
use Rattle.check_sched.proofs.sched.resuming.kept_objects.Goals as goal

pub scheduling-requires-clause-interval : goal.scheduling-requires-clause-interval
scheduling-requires-clause-interval c =
    check_in_range c.object-object.result.now
    (object_read_in_range c.args.setup.now c.loop-number.number c.object-object.result.now c.len.ensures.setup c.object-object.ensures)

pub loop-number-preserved : goal.loop-number-preserved
loop-number-preserved c =
    let setup = c.args.setup.now in
    let saved = c.args.saved.now in
    let times = c.args.times.now in
    let n = c.loop-number.number in
    let in_range : n < object_count setup = omega (arith, c.loop-number-test.true, c.requires.each) in
    one_each setup (λ p. scheduling_after_resume setup (time_among times p.0) p.1.object (saved_by_name saved p.1.name)) n c.loop-number.objects.items _
    c.scheduling.result in_range c.in_ok-push.ensures.items c.loop-number.invariant
    (λ o e. scheduling_seen setup saved times n o c.object-object.result.now _ _ c.scheduling.result e c.object-object.ensures c.loop-number-test.true refl
    (c.saved_match-kept.ensures setup c.requires.saved_indexes in_range) c.scheduling.ensures)

pub returns : goal.returns
returns c =
    let setup = c.args.setup.now in
    let saved = c.args.saved.now in
    let times = c.args.times.now in
    let long = length-made setup (λ p. scheduling_after_resume setup (time_among times p.0) p.1.object (saved_by_name saved p.1.name)) in
    c.loop-number.invariant ∙ take_all c.loop-number.number _ (omega (arith, long, c.requires.each))
