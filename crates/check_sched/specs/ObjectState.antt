-- The scheduling of one object, as contracts see it.
use Rattle.std.specs.Prelude.{Some, None, if◌then◌else◌}
use Rattle.check_sched.specs.declared.object_state.ObjectState.TheInside.{Inside}
use Rattle.check_saved_state.specs.Scheduling.{Scheduling}

-- the next time and the run are the values of the fields, if they are present
abbrev pub scheduling_view : Inside → Scheduling
scheduling_view o = record {
  next = if o.has_time then Some o.time else None;
  run = if o.has_run then Some o.run else None;
  enabled = o.enabled;
  forced = o.forced;
}
