-- Laws of what is done to one object.
use Rattle.std.proofs.Common.{◌≡◌, true, Some, refl}
use Rattle.std.proofs.lemmas.Bool.{and_parts, and_from}
use Rattle.check_sched.specs.declared.object_state.Change.{Change}
use Rattle.check_sched.specs.declared.object_state.Change.TheVariants as change
use Rattle.check_sched.specs.Change.{object_after_change, is_valid_change, keeps_timed}
use Rattle.check_saved_state.specs.Scheduling.{Scheduling, is_in_time, is_moment, is_time, is_timed_if_forced}
use Rattle.check_sched.proofs.LimitLaws.{BeginsNone}

-- a quiet change keeps an object within its limits
pub quiet_in_time : (c : Change) (o : Scheduling) → is_valid_change c ≡ true → is_in_time o ≡ true → is_in_time (object_after_change c o) ≡ true
quiet_in_time (change.Begin run) o q e = cc
quiet_in_time (change.End next) o q e = and_from (is_time next) true q refl
quiet_in_time (change.PutOff until) o q e = and_from (is_time until) (is_moment o.run) q (and_parts (is_time o.next) (is_moment o.run) e).1
quiet_in_time (change.Reschedule time forced) o q e = and_from (is_time (Some time)) (is_moment o.run) q (and_parts (is_time o.next) (is_moment o.run) e).1
quiet_in_time (change.Enable on) o q e = e

pub quiet_begins_none : (c : Change) → is_valid_change c ≡ true → BeginsNone (object_after_change c)
quiet_begins_none (change.Begin run) q o r e = cc
quiet_begins_none (change.End next) q o r e = cc
quiet_begins_none (change.PutOff until) q o r e = e
quiet_begins_none (change.Reschedule time forced) q o r e = e
quiet_begins_none (change.Enable on) q o r e = e

-- a change that leaves no forced mark without a time
pub stays_timed : (c : Change) (o : Scheduling) → keeps_timed c o.forced ≡ true → is_timed_if_forced o ≡ true → is_timed_if_forced (object_after_change c o) ≡ true
stays_timed (change.Begin run) o k e = refl
stays_timed (change.End next) o k e = k
stays_timed (change.PutOff until) o k e = k
stays_timed (change.Reschedule time forced) o k e = refl
stays_timed (change.Enable on) o k e = e
