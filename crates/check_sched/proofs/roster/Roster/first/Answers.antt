use Rattle.std.proofs.Common.{◌∙◌}
use Rattle.check_queue.specs.Order.{least}
use Rattle.check_queue.specs.Times.{pairs_of}
use Rattle.check_sched.specs.Candidate.{earlier_of}
use Rattle.check_sched.proofs.RosterLaws.{first_of_both}
use Rattle.check_sched.proofs.roster.Roster.first.Goals as goal

pub returns : goal.returns
returns c =
    let kept = c.self.invariant in
    rw (← c.self.view_is) (c.earlier.ensures ∙ (λ i. earlier_of (c.first.ensures.least i) (c.first-2.ensures.least i))
    ∙ (λ i. earlier_of (least (pairs_of (kept.waiting_hosts i))) (least (pairs_of (kept.waiting_services i))))
    ∙ first_of_both c.self.inside.hosts c.self.inside.objects.items)
