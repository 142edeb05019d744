-- Objects that always have a next check, and the replies that say that there is none.
use Rattle.std.specs.Prelude.{◌≡◌, ℕ, ◌<◌, ◌||◌, Bool, Some, None, is_some, slice_get}
use Rattle.check_objects.specs.Configuration.{Configuration, NamedObject, objects_of}
use Rattle.check_saved_state.specs.Scheduling.{Scheduling}
use Rattle.check_sched.specs.declared.call.Call.{Call}
use Rattle.check_sched.specs.declared.call.Call.TheVariants as call
use Rattle.check_sched.specs.declared.call.Reply.{Reply}
use Rattle.check_sched.specs.declared.call.Reply.TheVariants as reply
use Rattle.check_sched.specs.Intervals.{intervals_for}

-- whether the object has a next check: a time is set for it, or it is being checked
abbrev pub has_next_check : Scheduling → Bool
has_next_check o = is_some o.next || is_some o.run

-- the setup has an object with this number that is checked at intervals: neither its check interval nor its retry interval is 0
pub record IsCheckedAtIntervals (setup : Configuration) (number : ℕ) : Type 0 where
  pub object : NamedObject
  pub there : slice_get (objects_of setup) number ≡ Some object
  pub check : 0 < (intervals_for setup object.object).check
  pub retry : 0 < (intervals_for setup object.object).retry

-- The reply to this call says that the object with this number has no next time: the object was put off without a time, or the call was a report of it,
-- answered without a next time.
abbrev pub ShowsNoTime : ℕ → Call → Reply → Type 0
ShowsNoTime number c (reply.PutOff object until) = (object ≡ number) × (until ≡ None)
ShowsNoTime number (call.Report object run code) (reply.Standing standing changed next) = (object ≡ number) × (next ≡ None)
ShowsNoTime number c r = ⊥
