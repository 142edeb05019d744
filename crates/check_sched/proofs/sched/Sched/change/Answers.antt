use Rattle.std.proofs.Common.{◌∙◌, ap, false, sym}
use Rattle.std.specs.Option.{option_map_or}
use Rattle.check_sched.specs.Change.{object_after_change, keeps_timed}
use Rattle.check_sched.specs.Sched.{state_of}
use Rattle.check_sched.specs.State.{State}
use Rattle.check_sched.specs.Step.{is_forced}
use Rattle.check_sched.proofs.ChangeLaws.{quiet_begins_none, quiet_in_time, stays_timed}
use Rattle.check_sched.proofs.OperatorLaws.{with_object_is_state}
use Rattle.check_sched.proofs.sched.Sched.change.Goals as goal

pub invariant_of-self : goal.invariant_of-self
invariant_of-self c =
    let s = state_of c.self.inside in
    record {
      state =
          rw (c.change.ensures) (with_object_is_state c.args.object (object_after_change c.args.change) s c.self.invariant.state
          (λ o e. quiet_in_time c.args.change o c.requires.valid e) (quiet_begins_none c.args.change c.requires.valid)
          (λ o in_range. stays_timed c.args.change o
          (sym (ap (λ found. keeps_timed c.args.change (option_map_or (λ x. x.forced) found false)) in_range)
          ∙ ap (λ (t : State). keeps_timed c.args.change (is_forced t c.args.object)) c.self.view_is ∙ c.requires.timed)));
      marks = c.self.invariant.marks;
      hosts = rw c.change.ensures c.self.invariant.hosts;
      intervals = c.self.invariant.intervals;
      steady_each = c.self.invariant.steady_each;
      steady = c.self.invariant.steady;
    }
