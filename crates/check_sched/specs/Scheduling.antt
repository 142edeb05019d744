-- The scheduling of one object at the start, and its changes.
use Rattle.std.specs.Prelude.{ℕ, Bool, false, ◌&&◌, ◌||◌, ◌==◌, Option, Some, None, Result, Ok, Err, is_none, unwrap_or, if◌then◌else◌}
use Rattle.check_saved_state.specs.Scheduling.{OpenRun, Scheduling}
use Rattle.check_sched.specs.declared.call.Refusal.{Refusal}
use Rattle.check_sched.specs.declared.call.Refusal.TheVariants as refusal

-- An object when scheduling starts. Its first check is at this time, if one is given. It isn't being checked, its active checks are enabled or not,
-- and its next check isn't forced. (Our own profile.)
abbrev pub opening_object : Option ℕ → Bool → Scheduling
opening_object first enabled = record { next = first; run = None; enabled = enabled; forced = false }

-- The time for which an object waits. It is the object's next time, if it has one, isn't being checked, and its active checks are enabled or its next
-- check is forced. ("Service and Host Check Scheduling"; in our own profile a forced check ignores that the object is disabled.)
abbrev pub candidate_time : Scheduling → Option ℕ
candidate_time o = if is_none o.run && (o.enabled || o.forced) then o.next else None

-- The object is being checked: it has a run and no next time, and isn't forced any more.
abbrev pub object_with_run : OpenRun → Scheduling → Scheduling
object_with_run run o = record { next = None; run = Some run; enabled = o.enabled; forced = false }

-- The object isn't being checked any more, and has its next check at this time, if one is given.
abbrev pub object_after_run : Option ℕ → Scheduling → Scheduling
object_after_run next o = record { next = next; run = None; enabled = o.enabled; forced = o.forced }

-- The run of this number. An object that isn't being checked is refused. So is an object that is being checked under another number.
abbrev pub run_under : ℕ → Option OpenRun → Result OpenRun Refusal
run_under number None = Err refusal.NotRunning
run_under number (Some r) = if r.number == number then Ok r else Err refusal.WrongRun

-- The time of the next check of an object whose run is abandoned at this moment. A time that was set during the run stays. Without such a time the
-- object is due at once. (Our own profile.)
abbrev pub freed_time : ℕ → Scheduling → ℕ
freed_time now o = unwrap_or o.next now

-- The next check is at this time, and is forced or not, independent of its former time and mark.
abbrev pub object_after_reschedule : ℕ → Bool → Scheduling → Scheduling
object_after_reschedule time forced o = record { next = Some time; run = o.run; enabled = o.enabled; forced = forced }

-- The next check is at this time, if one is given; the rest stays as it was.
abbrev pub put_off_to : Option ℕ → Scheduling → Scheduling
put_off_to until o = record { next = until; run = o.run; enabled = o.enabled; forced = o.forced }

-- The active checks are on or off; a next time stays as it was.
abbrev pub enabled_as : Bool → Scheduling → Scheduling
enabled_as on o = record { next = o.next; run = o.run; enabled = on; forced = o.forced }
