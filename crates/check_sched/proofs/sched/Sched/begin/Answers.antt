use Rattle.std.proofs.Common.{◌<◌, ap, arith, refl, ◌∙◌}
use Rattle.check_sched.specs.Sched.{state_of}
use Rattle.check_sched.specs.State.{State}
use Rattle.check_sched.specs.Step.{is_startable}
use Rattle.check_saved_state.specs.declared.saved.TheConstants.{MAX_RUNS}
use Rattle.check_sched.proofs.TakeLaws.{taken_is_state}
use Rattle.check_sched.proofs.sched.Sched.begin.Goals as goal

pub invariant_of-self : goal.invariant_of-self
invariant_of-self c =
    let s = state_of c.self.inside in
    let runs = ap (λ (t : State). t.runs) c.self.view_is in
    let spare : c.self.inside.runs < MAX_RUNS = let m = c.requires.spare in omega (arith, m, runs) in
    let may = ap (λ (t : State). is_startable t c.args.object) c.self.view_is ∙ c.requires.«open» in
    record {
      state = rw c.change.ensures
          (taken_is_state c.args.now c.args.object s c.self.invariant.state c.requires.moment spare may);
      marks = c.self.invariant.marks;
      hosts = rw c.change.ensures c.self.invariant.hosts;
      intervals = c.self.invariant.intervals;
      steady_each = c.self.invariant.steady_each;
      steady = c.self.invariant.steady;
    }

pub returns-clause-state : goal.returns-clause-state
returns-clause-state c =
    let s = state_of c.self.inside in
    rw (← c.self.view_is, c.change.ensures) refl
