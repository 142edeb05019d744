-- The stored results of an object, and whether it flaps, by a history.
use Rattle.std.specs.Prelude.{ℕ, ◌==◌, Bool, false, List, [], ◌∷◌, Option, Some, None, if◌then◌else◌}
use Rattle.std.specs.List.{filter_map}
use Rattle.ticket_steps.specs.declared.books.Entry.{Entry}
use Rattle.check_states.specs.declared.state.State.{State}
use Rattle.check_states.specs.Flapping.{is_flapping, results_after}
use Rattle.check_sched.specs.declared.call.Call.{Call}
use Rattle.check_sched.specs.declared.call.Call.TheVariants as call
use Rattle.check_sched.specs.declared.call.Reply.{Reply}
use Rattle.check_sched.specs.declared.call.Reply.TheVariants as reply
use Rattle.check_sched.specs.State as sched
use Rattle.check_sched.specs.State.{results_at, standing_at}

-- ---- the states of a history

-- the state in an answer, if it is the standing in the answer to a report of the object
abbrev pub reported_state : ℕ → Call → Reply → Option State
reported_state object (call.Report o run code) (reply.Standing standing changed next) = if o == object then Some standing.state else None
reported_state object c r = None

-- the states in the answers to the reports of an object, in their order
abbrev pub reported_states : ℕ → List (Entry Call Reply) → List State
reported_states object history = filter_map (λ e. reported_state object e.call e.reply) history

-- ---- the effect of these states, one result after another

-- the stored results of an object, and whether it flaps
pub record Flapping : Type 0 where
  pub results : List State
  pub flapping : Bool

-- both, for the object with this number in a state
abbrev pub flapping_in : sched.State → ℕ → Flapping
flapping_in s object = record { results = results_at s.results object; flapping = (standing_at s.standings object).flapping }

-- both, for an object that was never checked: no results, and not flapping
abbrev pub never_checked : Flapping
never_checked = record { results = []; flapping = false }

-- both after one more result, under these thresholds
abbrev pub with_result : ℕ × ℕ → Flapping → State → Flapping
with_result thresholds was found = record {
  results = results_after was.results found;
  flapping = is_flapping (results_after was.results found) was.flapping thresholds.0 thresholds.1;
}

-- both after these results, one after another
abbrev pub with_results : ℕ × ℕ → Flapping → List State → Flapping
with_results thresholds was [] = was
with_results thresholds was (found ∷ later) = with_results thresholds (with_result thresholds was found) later
