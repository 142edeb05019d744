-- The standing of an object.
use Rattle.std.specs.Prelude.{ℕ, ◌≡◌, Bool, true, false, not, ◌&&◌, ◌==◌, nat_lt, nat_le, if◌then◌else◌}
use Rattle.check_states.specs.declared.state.State.{State}
use Rattle.check_states.specs.declared.standing.Kind.{Kind}
use Rattle.check_states.specs.declared.standing.Kind.TheVariants as kind
use Rattle.check_states.specs.declared.standing.ProblemPhase.{ProblemPhase}
use Rattle.check_states.specs.declared.standing.ProblemPhase.TheVariants as phase
use Rattle.check_states.specs.declared.standing.Standing.{Standing}
use Rattle.check_states.specs.State.{is_problem, is_host_state, is_down_state, ok_or_up_state}

-- a host or a service that was never checked (our own profile)
abbrev pub pending_standing : Bool → Standing
pending_standing is_host = record {
  checked = false;
  state = ok_or_up_state is_host;
  kind = kind.Hard;
  attempt = 1;
  last_hard = ok_or_up_state is_host;
  flapping = false;
}

-- an object that was never checked is pending
abbrev pub as_checked : Standing → Standing
as_checked s = if s.checked then s else pending_standing (is_host_state s.state)

-- Whether a host is down: it was checked, and its state is DOWN or UNREACHABLE. (In our own profile a
-- host that was never checked counts as up.)
abbrev pub is_down : Standing → Bool
is_down s = s.checked && is_down_state s.state

-- The phase of a problem, by its kind.
abbrev pub problem_phase : Kind → ProblemPhase
problem_phase kind.Soft = phase.SoftProblem
problem_phase kind.Hard = phase.HardProblem

-- The phase of an object: fine at OK and UP, otherwise a soft or a hard problem. ("State Types".)
abbrev pub phase_of : Standing → ProblemPhase
phase_of s = if is_problem s.state then problem_phase s.kind else phase.NoProblem

abbrev pub is_soft_problem_phase : ProblemPhase → Bool
is_soft_problem_phase phase.NoProblem = false
is_soft_problem_phase phase.SoftProblem = true
is_soft_problem_phase phase.HardProblem = false

-- whether an object is a soft problem
abbrev pub is_soft_problem : Standing → Bool
is_soft_problem s = is_soft_problem_phase (phase_of s)

-- The attempts of a phase. A problem is soft before the last attempt and hard at it. ("State Types"; the attempt of OK and UP is our own profile.)
abbrev pub is_attempt_of : ProblemPhase → ℕ → ℕ → Bool
is_attempt_of phase.NoProblem attempt max = nat_le 1 attempt && nat_le attempt max
is_attempt_of phase.SoftProblem attempt max = nat_le 1 attempt && nat_lt attempt max
is_attempt_of phase.HardProblem attempt max = attempt == max

-- Unless there is a hard problem, the last hard state is OK or UP.
abbrev pub is_last_hard_of : ProblemPhase → State → Bool
is_last_hard_of phase.NoProblem last_hard = not (is_problem last_hard)
is_last_hard_of phase.SoftProblem last_hard = not (is_problem last_hard)
is_last_hard_of phase.HardProblem last_hard = true

-- whether an object with this maximum of attempts can have this standing
abbrev pub is_lawful : Standing → ℕ → Bool
is_lawful s max = is_attempt_of (phase_of s) s.attempt max && is_last_hard_of (phase_of s) s.last_hard

-- An object, a host or a service, with this maximum of attempts can have this standing. It is lawful for that
-- maximum, its states are of the object's sort, and until the object is checked it is pending.
pub record IsStandingFor (host : Bool) (max : ℕ) (standing : Standing) : Type 0 where
  pub lawful : is_lawful standing max ≡ true
  pub sort : is_host_state standing.state ≡ host
  pub last_hard_sort : is_host_state standing.last_hard ≡ host
  pub until_checked : standing.checked ≡ false → standing ≡ pending_standing host
