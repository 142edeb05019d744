use Rattle.std.proofs.Common.{arith}
use Rattle.check_spread.specs.Spread.{initial_times}
use Rattle.check_sched.proofs.OpeningLaws.{opened_few, opened_hosts}
use Rattle.check_sched.proofs.sched.opening_parts.Goals as goal

pub new-requires-clause-bounded : goal.new-requires-clause-bounded
new-requires-clause-bounded c =
    let made = c.in_ok-objects.ensures in
    opened_few c.args.setup.now (initial_times c.args.setup.now c.args.start) c.in_ok-objects.objects.items made.valid_setup made.one_each made.items

pub new-requires-clause-hosts : goal.new-requires-clause-hosts
new-requires-clause-hosts c =
    let made = c.in_ok-objects.ensures in
    let least = opened_hosts c.args.setup.now (initial_times c.args.setup.now c.args.start) c.in_ok-objects.objects.items made.one_each made.items in
    omega (arith, least, c.hosts.ensures.count)
