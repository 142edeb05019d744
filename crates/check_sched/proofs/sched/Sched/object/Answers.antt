use Rattle.std.proofs.Common.{ap, option_map, sym, ◌∙◌}
use Rattle.check_sched.specs.Sched.{state_of}
use Rattle.check_sched.proofs.ReportLaws.{next_of_state, run_of_state}
use Rattle.check_sched.proofs.sched.Sched.object.Goals as goal

pub returns-in-Some-clause-times : goal.returns-in-Some-clause-times
returns-in-Some-clause-times c =
    let is = sym c.get.ensures ∙ ap (option_map (λ object. object.now)) c.in-Some.is in
    next_of_state (state_of c.self.inside) c.args.number c.in-Some.object.now c.self.invariant.state is

pub returns-in-Some-clause-moments : goal.returns-in-Some-clause-moments
returns-in-Some-clause-moments c =
    let is = sym c.get.ensures ∙ ap (option_map (λ object. object.now)) c.in-Some.is in
    run_of_state (state_of c.self.inside) c.args.number c.in-Some.object.now c.self.invariant.state is
