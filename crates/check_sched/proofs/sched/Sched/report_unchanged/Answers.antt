use Rattle.std.proofs.Common.{◌≡◌, ◌∙◌, ap, arith, false, subst, sym}
use Rattle.check_states.specs.declared.state.Code.TheVariants as code
use Rattle.check_sched.specs.declared.call.Reply.{Reply}
use Rattle.check_sched.specs.declared.call.Reply.TheVariants as reply
use Rattle.check_sched.specs.Report.{next_after}
use Rattle.check_sched.specs.Scheduling.{object_after_run}
use Rattle.check_sched.specs.Sched.{state_of}
use Rattle.check_sched.specs.State.{State, next_of, standing_at}
use Rattle.check_sched.specs.Steady.{IsSteadyIn}
use Rattle.check_sched.specs.Step.{report_result, with_object}
use Rattle.check_sched.proofs.IntervalLaws.{count_there, intervals_there, next_there, read_there}
use Rattle.check_sched.proofs.SteadyLaws.{report_timed, steady_answer}
use Rattle.check_sched.proofs.sched.Sched.report_unchanged.Goals as goal

pub index-requires : goal.index-requires
index-requires c = let in_range = intervals_there c.self.inside c.args.object _ c.self.invariant c.self.view_is c.requires.in_range in omega (arith, in_range)

pub next_check_time-next-requires-clause-bounded : goal.next_check_time-next-requires-clause-bounded
next_check_time-next-requires-clause-bounded c =
    (read_there c.self.inside c.args.object _ c.index.result.now c.self.invariant c.self.view_is c.requires.in_range c.index.ensures).bounded

pub change-requires-clause-timed : goal.change-requires-clause-timed
change-requires-clause-timed c =
    let s = state_of c.self.inside in
    let already = ap (λ (t : State). next_of c.args.object t) c.self.view_is ∙ c.requires.already in
    let next =
    next_there c.self.inside c.args.object c.args.start c.args.already c.next_check_time-next.result _ c.index.result.now c.standing-standing.result
    c.self.invariant c.self.view_is c.requires.in_range c.index.ensures c.standing-standing.ensures.value c.next_check_time-next.ensures.value in
    rw (next, ← c.self.view_is)
    (report_timed s c.args.object c.args.start (standing_at s.standings c.args.object) c.args.already c.self.invariant.state already)

next : (c : goal.After-change) → let s = state_of c.self.inside in
    c.next_check_time-next.result ≡ next_after s.setup c.args.object (standing_at s.standings c.args.object) c.args.start c.args.already
next c =
    next_there c.self.inside c.args.object c.args.start c.args.already c.next_check_time-next.result _ c.index.result.now c.standing-standing.result
    c.self.invariant c.self.view_is c.requires.in_range c.index.ensures c.standing-standing.ensures.value c.next_check_time-next.ensures.value

-- what is answered
answer : (c : goal.After-change) → let s = state_of c.self.inside in
    report_result c.args.object c.args.start code.Ok c.args.already s
    ≡ (with_object c.args.object (object_after_run c.next_check_time-next.result) s, reply.Standing (standing_at s.standings c.args.object) false c.next_check_time-next.result)
answer c =
    let s = state_of c.self.inside in
    let steady = subst (λ t. IsSteadyIn t c.args.object) (sym c.self.view_is) c.requires.steady in
    steady_answer s c.args.object c.args.start c.args.already (count_there c.self.inside c.args.object _ c.self.view_is c.requires.in_range) steady
    ∙ (λ i. (with_object c.args.object (object_after_run (sym (next c) i)) s, reply.Standing (standing_at s.standings c.args.object) false (sym (next c) i)))

pub returns-clause-state : goal.returns-clause-state
returns-clause-state c = rw (c.change.ensures, ← c.self.view_is) (ap (λ (a : State × Reply). a.0) (sym (answer c)))

pub returns-clause-reply : goal.returns-clause-reply
returns-clause-reply c =
    let standing = c.standing-standing.ensures.value ∙ ap (λ (t : State). standing_at t.standings c.args.object) (sym c.self.view_is) in
    rw (← c.self.view_is)
    (ap (λ standing. reply.Standing standing false c.next_check_time-next.result) standing ∙ ap (λ (a : State × Reply). a.1) (sym (answer c)))
