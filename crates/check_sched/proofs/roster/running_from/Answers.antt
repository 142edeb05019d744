use Rattle.std.proofs.Common.{◌<◌, ap, arith, length, ◌∙◌}
use mir.Val.{bool_byte}
use Rattle.std.proofs.lemmas.List.{drop_all}
use Rattle.check_sched.specs.Roster.{running_among}
use Rattle.check_sched.proofs.RosterLaws.{byte_few, running_next}
use Rattle.check_sched.proofs.roster.running_from.Goals as goal

pub overflow_add-running : goal.overflow_add-running
overflow_add-running c =
    let byte = c.from-running.ensures ∙ ap bool_byte c.is_running.ensures in
    let bounded = byte_few c.is_running.result in
    let kept = c.loop-number.invariant.bounded in
    omega (arith, byte, bounded, kept)

pub loop-number-init : goal.loop-number-init
loop-number-init c = record { counted = omega arith; bounded = omega arith }

pub loop-number-preserved : goal.loop-number-preserved
loop-number-preserved c =
    let in_range : c.loop-number.number < length c.args.objects.now = omega (arith, c.loop-number-test.true) in
    let byte = c.from-running.ensures ∙ ap bool_byte c.is_running.ensures in
    let bounded = byte_few c.is_running.result in
    let next = running_next c.loop-number.number c.args.objects.now c.index-objects-number.result in_range c.index-objects-number.is in
    let counted = c.loop-number.invariant.counted in
    let kept = c.loop-number.invariant.bounded in
    record { counted = omega (arith, byte, next, counted); bounded = omega (arith, byte, bounded, kept) }

pub returns : goal.returns
returns c =
    let none = ap running_among (drop_all c.loop-number.number c.args.objects.now (omega arith)) in
    let counted = c.loop-number.invariant.counted in
    omega (arith, none, counted)
