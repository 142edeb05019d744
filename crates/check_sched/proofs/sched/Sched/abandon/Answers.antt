use Rattle.std.proofs.Common.{sym, ◌∙◌}
use Rattle.check_sched.proofs.OperatorLaws.{abandon_answers}
use Rattle.check_sched.proofs.sched.Sched.abandon.Goals as goal

pub returns-clause-state : goal.returns-clause-state
returns-clause-state c =
    let answer = abandon_answers c.args.object c.args.run c.args.now c.args.self.now c.in_ok-state.state.now c.in_ok-test_moment.field-0 c.in_ok-run_under.field-0
    c.in_ok-state.ensures.value (sym c.test_moment.ensures.value ∙ c.in_ok-test_moment.was)
    (sym c.run_under.ensures ∙ c.in_ok-run_under.was) in
    rw (answer, ← c.freed_time-next.ensures) c.change.ensures
