use Rattle.std.proofs.Common.{ap, arith, length}
use Rattle.check_saved_state.specs.Saved.{saved_by_name}
use Rattle.check_sched.specs.Saved.{scheduling_after_resume, time_among}
use Rattle.check_sched.proofs.OpeningLaws.{count_is}
use Rattle.check_sched.proofs.ResumedLaws.{length-made}
use Rattle.check_sched.proofs.sched.resuming.resumed_objects.Goals as goal

pub abandon_over_limit-requires : goal.abandon_over_limit-requires
abandon_over_limit-requires c =
    let setup = c.args.setup.now in
    let long = ap length c.in_ok-objects.ensures in
    let each = length-made setup (λ p. scheduling_after_resume setup (time_among c.deref.result.now p.0) p.1.object (saved_by_name c.args.saved.now p.1.name)) in
    let count = count_is setup in
    omega (arith, long, each, count)
