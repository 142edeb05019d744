-- The scheduler of the code, as contracts see it.
use Rattle.std.specs.Prelude.{ℕ, ◌≡◌, length, false, true, replicate, Some, slice_get}
use Rattle.check_objects.specs.Configuration.{Configuration, host_count, object_count}
use Rattle.check_sched.specs.State.{State, IsState}
use Rattle.check_sched.specs.Intervals.{intervals_of}
use Rattle.check_sched.specs.Steady.{IsSteadyIn}
use Rattle.check_sched.specs.declared.sched.Parts.{Parts}
use Rattle.check_sched.specs.declared.sched.Sched.TheInside.{Inside}

-- the state in the fields; the marks are scratch space, and not part of it
abbrev pub state_of : Inside → State
state_of s = record {
  setup = s.setup;
  start = s.start;
  objects = s.roster.objects;
  standings = s.standings.items;
  results = s.results;
  runs = s.runs;
}

-- the facts of the fields of every scheduler
pub record IsWellFormed (s : Inside) : Type 0 where
  pub state : IsState (state_of s)
  -- one mark for each object
  pub marks : length s.marks.items ≡ object_count s.setup
  -- the first objects are the hosts
  pub hosts : s.roster.hosts ≡ host_count s.setup
  -- the intervals in milliseconds are those of the setup
  pub intervals : s.intervals.items ≡ intervals_of s.setup
  -- each object that is marked as steady is steady
  pub steady_each : length s.steady.items ≡ object_count s.setup
  pub steady : (number : ℕ) → slice_get s.steady.items number ≡ Some true → IsSteadyIn (state_of s) number

-- ---- a new scheduler

-- the state with these parts
abbrev pub state_with : Configuration → ℕ → ℕ → Parts → State
state_with setup start runs parts = record {
  setup = setup;
  start = start;
  objects = parts.roster.objects;
  standings = parts.standings.items;
  results = parts.results;
  runs = runs;
}

-- the facts of the parts of a new scheduler over this setup
pub record AreParts (setup : Configuration) (parts : Parts) : Type 0 where
  pub marks : length parts.marks.items ≡ object_count setup
  pub hosts : parts.roster.hosts ≡ host_count setup
  pub intervals : parts.intervals.items ≡ intervals_of setup
  -- no object is marked as steady
  pub steady : parts.steady.items ≡ replicate (object_count setup) false
