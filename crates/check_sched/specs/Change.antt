-- The changes of one object.
use Rattle.std.specs.Prelude.{Bool, true, false, Some}
use Rattle.check_sched.specs.declared.object_state.Change.{Change}
use Rattle.check_sched.specs.declared.object_state.Change.TheVariants as change
use Rattle.check_sched.specs.Scheduling.{object_with_run, object_after_run, put_off_to, object_after_reschedule, enabled_as}
use Rattle.check_saved_state.specs.Scheduling.{Scheduling, is_time, is_timed}

-- the object after a change
abbrev pub object_after_change : Change → Scheduling → Scheduling
object_after_change (change.Begin run) o = object_with_run run o
object_after_change (change.End next) o = object_after_run next o
object_after_change (change.PutOff until) o = put_off_to until o
object_after_change (change.Reschedule time forced) o = object_after_reschedule time forced o
object_after_change (change.Enable on) o = enabled_as on o

-- whether a change begins no run, and sets no time above 2^61
abbrev pub is_valid_change : Change → Bool
is_valid_change (change.Begin run) = false
is_valid_change (change.End next) = is_time next
is_valid_change (change.PutOff until) = is_time until
is_valid_change (change.Reschedule time forced) = is_time (Some time)
is_valid_change (change.Enable on) = true

-- whether a change of an object, forced before it or not, leaves no forced mark without a time
abbrev pub keeps_timed : Change → Bool → Bool
keeps_timed (change.Begin run) forced = true
keeps_timed (change.End next) forced = is_timed next forced
keeps_timed (change.PutOff until) forced = is_timed until forced
keeps_timed (change.Reschedule time forced) was = true
keeps_timed (change.Enable on) forced = true
