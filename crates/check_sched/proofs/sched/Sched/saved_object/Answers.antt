use Rattle.std.proofs.Common.{◌≡◌, ◌<◌, length, ap, arith, subst, IfOk, ◌∙◌}
use Rattle.std.specs.Prelude.{string_bytes}
use Rattle.check_objects.specs.Configuration.{object_count}
use Rattle.check_sched.specs.Sched.{state_of}
use Rattle.check_saved_state.specs.Scheduling.{Scheduling}
use Rattle.check_sched.specs.State.{State, results_at}
use Rattle.check_sched.proofs.EachObjectLaws.{saved_made}
use Rattle.check_sched.proofs.ReportLaws.{check_in_range, few_attempts, object_read_in_range, standing_read}
use Rattle.check_sched.proofs.sched.Sched.saved_object.Goals as goal

pub milliseconds-requires-clause-interval : goal.milliseconds-requires-clause-interval
milliseconds-requires-clause-interval c =
    check_in_range c.object-object.result.now
    (object_read_in_range c.self.inside.setup c.args.number c.object-object.result.now c.self.invariant.state.valid_setup c.object-object.ensures)

pub attempts_of-requires : goal.attempts_of-requires
attempts_of-requires c =
    few_attempts c.object-object.result.now
    (object_read_in_range c.self.inside.setup c.args.number c.object-object.result.now c.self.invariant.state.valid_setup c.object-object.ensures)

pub returns : goal.returns
returns c =
    let s = state_of c.self.inside in
    let n = c.args.number in
    let count = ap (λ (z : State). object_count z.setup) c.self.view_is in
    let each = c.self.invariant.state.one_standing_each in
    let in_range : n < length s.standings = omega (arith, c.requires, count, each) in
    let stands = standing_read s.standings n c.index.result.now in_range c.index.ensures in
    let kept = subst (λ r. IfOk r (λ copy. copy.items ≡ results_at s.results n)) c.in_ok-results.was c.copy.ensures in
    let state : Scheduling = record { next = c.next.result; run = c.run.result; enabled = c.is_enabled.result; forced = c.is_forced.result } in
    let same : state ≡ c.at-state.result.now = λ i. record {
      next = c.next.ensures i;
      run = c.run.ensures i;
      enabled = c.is_enabled.ensures i;
      forced = c.is_forced.ensures i;
    } in
    rw (← c.self.view_is)
    (λ o e. saved_made s n o c.object-object.result.now (string_bytes c.in_ok-name.name) c.index.result.now c.in_ok-results.results.items c.at-state.result.now state
    c.milliseconds.result c.attempts_of.result e c.object-object.ensures (c.in_ok-name.ensures.ok ∙ c.name.ensures) stands kept c.at-state.ensures same
    c.milliseconds.ensures.value c.attempts_of.ensures)
