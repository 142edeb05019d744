-- An object that an OK leaves unchanged.
use Rattle.std.specs.Prelude.{ℕ, ◌≡◌, true, List}
use Rattle.check_objects.specs.Configuration.{Configuration}
use Rattle.check_states.specs.declared.standing.Standing.{Standing}
use Rattle.check_states.specs.declared.state.State as rules
use Rattle.check_states.specs.Flapping.{is_flapping, results_after}
use Rattle.check_states.specs.State.{ok_or_up_state}
use Rattle.check_states.specs.Verdict.{verdict_on}
use Rattle.check_sched.specs.State.{State, flap_thresholds_of, is_host, max_attempts_of, results_at, standing_at}

-- An OK leaves an object with this standing and these results unchanged. All stored results are OK, or UP for a host, and the verdict on one more is
-- the present standing.
pub record IsSteady (setup : Configuration) (number : ℕ) (standing : Standing) (results : List rules.State) : Type 0 where
  pub kept : results_after results (ok_or_up_state (is_host setup number)) ≡ results
  pub stands : verdict_on standing (ok_or_up_state (is_host setup number)) (max_attempts_of setup number) true
      (is_flapping results standing.flapping (flap_thresholds_of setup number).0 (flap_thresholds_of setup number).1) ≡ standing

-- the same for the object with this number, in a state
abbrev pub IsSteadyIn : State → ℕ → Type 0
IsSteadyIn s number = IsSteady s.setup number (standing_at s.standings number) (results_at s.results number)
