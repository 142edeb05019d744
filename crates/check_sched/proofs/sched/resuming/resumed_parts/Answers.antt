use Rattle.std.proofs.Common.{ap, arith, length}
use Rattle.check_sched.proofs.OpeningLaws.{count_is}
use Rattle.check_sched.proofs.ResumedLaws.{length-state_after_resume}
use Rattle.check_sched.proofs.sched.resuming.resumed_parts.Goals as goal

pub new-requires-clause-bounded : goal.new-requires-clause-bounded
new-requires-clause-bounded c =
    let long = ap length c.in_ok-objects.ensures in
    let each = length-state_after_resume c.args.setup.now c.args.saved.now c.args.start in
    omega (arith, long, each, c.len.ensures.count, c.len.ensures.bounded)

pub new-requires-clause-hosts : goal.new-requires-clause-hosts
new-requires-clause-hosts c =
    let long = ap length c.in_ok-objects.ensures in
    let each = length-state_after_resume c.args.setup.now c.args.saved.now c.args.start in
    let count = count_is c.args.setup.now in
    omega (arith, long, each, count, c.hosts.ensures.count)
