-- The intervals of each object in milliseconds, and the time that follows from one.
use Rattle.std.specs.Prelude.{ℕ, ◌+◌, ◌≤◌, ◌==◌, List, Option, Some, None, map, if◌then◌else◌}
use Rattle.setup_model.specs.declared.parsed_setup.Object.{Object}
use Rattle.check_objects.specs.Configuration.{Configuration, objects_of}
use Rattle.check_states.specs.declared.standing.Standing.{Standing}
use Rattle.check_states.specs.Standing.{is_soft_problem}
use Rattle.check_sched.specs.declared.intervals.Intervals.{Intervals}
use Rattle.check_spread.specs.Spread.{milliseconds}

-- the intervals of one object
abbrev pub intervals_for : Configuration → Object → Intervals
intervals_for setup o = record { check = milliseconds setup o.check_interval; retry = milliseconds setup o.retry_interval }

-- the intervals of each object, by number
abbrev pub intervals_of : Configuration → List Intervals
intervals_of setup = map (λ o. intervals_for setup o.object) (objects_of setup)

-- The interval to the next check: the retry interval while the object is a soft problem, otherwise the check interval. ("Service and Host Check
-- Scheduling", "State Types".)
abbrev pub interval_for_standing : Intervals → Standing → ℕ
interval_for_standing intervals standing = if is_soft_problem standing then intervals.retry else intervals.check

-- The time that is an interval after start, and None if the interval is 0. (Our own profile.)
abbrev pub time_after : ℕ → ℕ → Option ℕ
time_after start interval = if interval == 0 then None else Some (start + interval)

-- an object's intervals are within the limits of a setup
pub record AreBounded (intervals : Intervals) : Type 0 where
  pub check : intervals.check ≤ 45411840000000
  pub retry : intervals.retry ≤ 45411840000000
