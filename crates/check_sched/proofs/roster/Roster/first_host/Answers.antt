use Rattle.std.proofs.Common.{ap, ◌∙◌}
use Rattle.check_queue.specs.Order.{least}
use Rattle.check_queue.specs.Times.{pairs_of}
use Rattle.check_sched.proofs.RosterLaws.{first_of_hosts}
use Rattle.check_sched.proofs.roster.Roster.first_host.Goals as goal

pub returns : goal.returns
returns c =
    rw (← c.self.view_is) (c.first.ensures.least ∙ ap (λ times. least (pairs_of times)) c.self.invariant.waiting_hosts
    ∙ first_of_hosts c.self.inside.hosts c.self.inside.objects.items)
