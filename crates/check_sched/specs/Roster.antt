-- The scheduling of all objects, with the queues of those that wait for a check.
use Rattle.std.specs.Prelude.{ℕ, ◌≡◌, ◌≤◌, Bool, not, List, length, map, drop, count_by, Option, None, is_some, nat_lt, if◌then◌else◌}
use Rattle.std.specs.List.{enumerate_from}
use Rattle.check_sched.specs.Scheduling.{candidate_time}
use Rattle.check_saved_state.specs.Scheduling.{Scheduling}
use Rattle.check_sched.specs.declared.roster.Roster.TheInside.{Inside}
use Rattle.setup_model.specs.declared.limits.TheConstants.{MAX_OBJECTS}

pub record RosterState : Type 0 where
  -- the number of hosts among the objects; they have the first numbers
  pub hosts : ℕ
  -- the scheduling of each object, by number
  pub objects : List Scheduling

-- the number of these objects that are being checked
abbrev pub running_among : List Scheduling → ℕ
running_among objects = count_by (λ o. is_some o.run) objects

-- the waiting times of the objects whose numbers pass the test; the numbers of the objects begin at k
abbrev pub waiting_from : ℕ → (ℕ → Bool) → List Scheduling → List (Option ℕ)
waiting_from k picked objects = map (λ p. if picked p.0 then candidate_time p.1 else None) (enumerate_from k objects)

abbrev pub waiting_times : (ℕ → Bool) → List Scheduling → List (Option ℕ)
waiting_times picked objects = waiting_from 0 picked objects

-- the roster in the fields
abbrev pub roster_of : Inside → RosterState
roster_of r = record { hosts = r.hosts; objects = r.objects.items }

-- the facts of the fields of every roster
pub record IsWellFormed (r : Inside) : Type 0 where
  -- each queue has the objects of its sort that wait, each with its time, and no others
  pub waiting_hosts : r.waiting_hosts ≡ waiting_times (λ number. nat_lt number r.hosts) r.objects.items
  pub waiting_services : r.waiting_services ≡ waiting_times (λ number. not (nat_lt number r.hosts)) r.objects.items
  -- the count of services that are being checked is right
  pub running_services : r.running_services ≡ running_among (drop r.hosts r.objects.items)
  pub bounded : length r.objects.items ≤ MAX_OBJECTS
