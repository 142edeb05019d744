use Rattle.std.proofs.Common.{◌<◌, ◌∙◌, ap, arith}
use Rattle.std.proofs.lemmas.List.{take_all}
use Rattle.check_objects.specs.Configuration.{object_count}
use Rattle.check_sched.specs.Saved.{saved_object}
use Rattle.check_sched.specs.State.{State}
use Rattle.check_sched.proofs.EachObjectLaws.{one_each}
use Rattle.check_sched.proofs.ResumedLaws.{length-made}
use Rattle.check_sched.proofs.sched.Sched.saved_objects.Goals as goal

pub loop-number-preserved : goal.loop-number-preserved
loop-number-preserved c =
    let s = c.args.self.now in
    let count = ap (λ (z : State). object_count z.setup) c.self.view_is in
    let in_range : c.loop-number.number < object_count s.setup = omega (arith, count) in
    one_each s.setup (saved_object s) c.loop-number.number c.loop-number.objects.items _ _ in_range c.in_ok-push.ensures.items c.loop-number.invariant
    c.in_ok-saved_object.ensures

pub returns : goal.returns
returns c =
    let s = c.args.self.now in
    let count = ap (λ (z : State). object_count z.setup) c.self.view_is in
    c.loop-number.invariant ∙ take_all c.loop-number.number _ (let l = length-made s.setup (saved_object s) in omega (arith, l, count))
