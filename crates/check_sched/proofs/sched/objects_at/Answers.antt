use Rattle.std.proofs.Common.{refl, ◌∙◌, arith}
use Rattle.std.proofs.lemmas.List.{take_all}
use Rattle.check_sched.proofs.OpeningLaws.{length-objects_at, object_seen, one_more}
use Rattle.check_sched.proofs.sched.objects_at.Goals as goal

pub loop-number-preserved : goal.loop-number-preserved
loop-number-preserved c =
    one_more c.loop-number.number _ c.loop-number.objects.items _ c.opening.result c.in_ok-push.ensures.items c.loop-number.invariant
    (object_seen c.args.setup.now c.args.times.now c.loop-number.number c.object.result.now _ c.opening.result c.requires c.loop-number-test.true
    c.object.ensures refl c.opening.ensures)

pub returns-clause-items : goal.returns-clause-items
returns-clause-items c =
    c.loop-number.invariant
    ∙ take_all c.loop-number.number _ (let l = length-objects_at c.args.setup.now c.args.times.now c.requires in omega (arith, l))
