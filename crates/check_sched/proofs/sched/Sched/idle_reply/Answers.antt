use Rattle.std.proofs.Common.{ap, sym, ◌∙◌}
use Rattle.check_queue.specs.Order.{least}
use Rattle.check_sched.specs.Sched.{state_of}
use Rattle.check_sched.specs.Step.{eligible_candidates}
use Rattle.check_sched.proofs.EligibleLaws.{waiting_at_limit, waiting_early, waiting_none}
use Rattle.check_sched.proofs.TakeLaws.{least_time}
use Rattle.check_sched.proofs.sched.Sched.idle_reply.Goals as goal

pub returns-in-Some-clause-reply : goal.returns-in-Some-clause-reply
returns-in-Some-clause-reply c =
    let found = sym c.in-Some.ensures in
    let none = ap (λ s. least (eligible_candidates c.args.now s)) c.self.view_is ∙ c.requires in
    rw (← c.self.view_is) (sym (waiting_at_limit c.args.now (state_of c.self.inside) (c.in-Some.time, c.in-Some._number) none found c.if-time-now.true))

pub returns-in-Some-2-clause-reply : goal.returns-in-Some-2-clause-reply
returns-in-Some-2-clause-reply c =
    let found = sym c.in-Some.ensures in
    rw (← c.self.view_is) (sym (waiting_early c.args.now (state_of c.self.inside) (c.in-Some.time, c.in-Some._number) found c.if-time-now.false))

pub returns-in-Some-2-clause-times : goal.returns-in-Some-2-clause-times
returns-in-Some-2-clause-times c =
    let found = sym c.in-Some.ensures in
    let least_is = least_time (state_of c.self.inside) c.self.invariant.state in
    rw found at least_is

pub returns-in-None-clause-reply : goal.returns-in-None-clause-reply
returns-in-None-clause-reply c =
    let found = sym c.in-None.ensures in
    rw (← c.self.view_is) (sym (waiting_none c.args.now (state_of c.self.inside) found))
