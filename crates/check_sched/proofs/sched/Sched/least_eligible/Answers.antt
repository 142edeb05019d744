use Rattle.std.proofs.Common.{◌≡◌, true, false, take, ap, sym, ◌∙◌}
use Rattle.check_objects.specs.Configuration.{host_count}
use Rattle.check_sched.specs.Candidate.{candidates_among, if_due}
use Rattle.check_queue.specs.Order.{least}
use Rattle.check_sched.specs.State.{is_below_limit}
use Rattle.check_sched.specs.Sched.{state_of}
use Rattle.check_sched.specs.Step.{eligible_candidates}
use Rattle.check_sched.proofs.CandidateLaws.{least_due}
use Rattle.check_sched.proofs.EligibleLaws.{eligible_is}
use Rattle.check_sched.proofs.TakeLaws.{found_open, found_within}
use Rattle.check_sched.proofs.sched.Sched.least_eligible.Goals as goal

-- what was found is the least that may be checked, by whether there is room
with_room : (c : goal.After-if_due) → c.if_due.result ≡ least (eligible_candidates c.args.now (state_of c.self.inside))
with_room c =
    let room = ap is_below_limit c.self.view_is ∙ sym c.if-is_below_limit.ensures in
    c.if_due.ensures ∙ ap (if_due c.args.now) c.first.ensures ∙ least_due c.args.now (candidates_among c.self.inside.roster.objects)
    ∙ ap least (sym (eligible_is c.args.now (state_of c.self.inside) true room))

without_room : (c : goal.After-if_due-else-is_below_limit) → c.if_due-else-is_below_limit.result ≡ least (eligible_candidates c.args.now (state_of c.self.inside))
without_room c =
    let room = ap is_below_limit c.self.view_is ∙ sym c.if-is_below_limit.ensures in
    c.if_due-else-is_below_limit.ensures
    ∙ ap (if_due c.args.now) (c.first_host.ensures ∙ (λ i. least (candidates_among (take (c.self.invariant.hosts i) c.self.inside.roster.objects))))
    ∙ least_due c.args.now (candidates_among (take (host_count c.self.inside.setup) c.self.inside.roster.objects))
    ∙ ap least (sym (eligible_is c.args.now (state_of c.self.inside) false room))

pub returns-then-is_below_limit-clause-value : goal.returns-then-is_below_limit-clause-value
returns-then-is_below_limit-clause-value c = rw (← c.self.view_is) (with_room c)

pub returns-then-is_below_limit-clause-in_range : goal.returns-then-is_below_limit-clause-in_range
returns-then-is_below_limit-clause-in_range c =
    rw (← c.self.view_is) (found_within c.args.now (state_of c.self.inside) c.if_due.result c.self.invariant.state (with_room c))

pub returns-then-is_below_limit-clause-open : goal.returns-then-is_below_limit-clause-open
returns-then-is_below_limit-clause-open c = rw (← c.self.view_is) (found_open c.args.now (state_of c.self.inside) c.if_due.result (with_room c))

pub returns-else-is_below_limit-clause-value : goal.returns-else-is_below_limit-clause-value
returns-else-is_below_limit-clause-value c = rw (← c.self.view_is) (without_room c)

pub returns-else-is_below_limit-clause-in_range : goal.returns-else-is_below_limit-clause-in_range
returns-else-is_below_limit-clause-in_range c =
    rw (← c.self.view_is) (found_within c.args.now (state_of c.self.inside) c.if_due-else-is_below_limit.result c.self.invariant.state (without_room c))

pub returns-else-is_below_limit-clause-open : goal.returns-else-is_below_limit-clause-open
returns-else-is_below_limit-clause-open c = rw (← c.self.view_is) (found_open c.args.now (state_of c.self.inside) c.if_due-else-is_below_limit.result (without_room c))
