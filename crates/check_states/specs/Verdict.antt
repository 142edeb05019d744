-- The verdict on a result, as a table. The first row that fits decides. (Our own profile, after the manual's "State Types".)
use Rattle.std.specs.Prelude.{ℕ, ◌+◌, Bool, true, false, not, ◌&&◌, ◌==◌, List, [], ◌∷◌, find, Option, Some, None, if◌then◌else◌}
use Rattle.check_states.specs.declared.state.State.{State}
use Rattle.check_states.specs.declared.standing.Kind.{Kind}
use Rattle.check_states.specs.declared.standing.Kind.TheVariants as kind
use Rattle.check_states.specs.declared.standing.ProblemPhase.{ProblemPhase}
use Rattle.check_states.specs.declared.standing.ProblemPhase.TheVariants as phase
use Rattle.check_states.specs.declared.standing.Standing.{Standing}
use Rattle.check_states.specs.State.{is_problem, is_host_state}
use Rattle.check_states.specs.Standing.{phase_of, as_checked}

-- ---- the values in the columns

-- the result
pub data Result : Type 0 where
  OkOrUp : Result
  Problem : Result
  ProblemOfServiceWhoseHostIsNotUp : Result

-- the phase before
pub data Before : Type 0 where
  WasOkOrUp : Before
  WasSoftProblem : Before
  WasHardProblem : Before
  WasAny : Before

-- the kind after
pub data KindAfter : Type 0 where
  Hard : KindAfter
  Soft : KindAfter
  HardAtLastAttempt : KindAfter

-- the attempt after
pub data AttemptAfter : Type 0 where
  First : AttemptAfter
  OneMore : AttemptAfter
  Last : AttemptAfter

pub record Row : Type 0 where
  pub result : Result
  pub before : Before
  pub kind_after : KindAfter
  pub attempt_after : AttemptAfter

abbrev pub row : Result → Before → KindAfter → AttemptAfter → Row
row result before kind_after attempt_after = record { result = result; before = before; kind_after = kind_after; attempt_after = attempt_after }

-- ---- the table

abbrev pub table : List Row
table =
    row OkOrUp WasOkOrUp Hard First
    ∷ row OkOrUp WasSoftProblem Soft OneMore
    ∷ row OkOrUp WasHardProblem Hard First
    ∷ row ProblemOfServiceWhoseHostIsNotUp WasAny Hard Last
    ∷ row Problem WasOkOrUp HardAtLastAttempt First
    ∷ row Problem WasSoftProblem HardAtLastAttempt OneMore
    ∷ row Problem WasHardProblem Hard Last
    ∷ []

-- ---- the meaning of the columns

-- whether a result fits the column
abbrev pub is_result : Result → State → Bool → Bool
is_result OkOrUp found host_up = not (is_problem found)
is_result Problem found host_up = is_problem found
is_result ProblemOfServiceWhoseHostIsNotUp found host_up = is_problem found && (not (is_host_state found) && not host_up)

-- whether a phase fits the column
abbrev pub is_before : Before → ProblemPhase → Bool
is_before WasOkOrUp phase.NoProblem = true
is_before WasSoftProblem phase.SoftProblem = true
is_before WasHardProblem phase.HardProblem = true
is_before WasAny any = true
is_before other any = false

-- the attempt that the column gives
abbrev pub attempt_of : AttemptAfter → ℕ → ℕ → ℕ
attempt_of First before max = 1
attempt_of OneMore before max = before + 1
attempt_of Last before max = max

-- a problem is hard at the last attempt and soft before it
abbrev pub kind_at : ℕ → ℕ → Kind
kind_at attempt max = if attempt == max then kind.Hard else kind.Soft

-- the kind that the column gives, at the attempt after
abbrev pub kind_of : KindAfter → ℕ → ℕ → Kind
kind_of Hard attempt max = kind.Hard
kind_of Soft attempt max = kind.Soft
kind_of HardAtLastAttempt attempt max = kind_at attempt max

-- ---- the verdict

-- whether the row fits
abbrev pub is_row_for : ProblemPhase → State → Bool → Row → Bool
is_row_for before found host_up r = is_result r.result found host_up && is_before r.before before

-- the kind and the attempt that a row gives
abbrev pub row_values : Option Row → Standing → ℕ → Kind × ℕ
row_values None before max = (before.kind, before.attempt)
row_values (Some r) before max = (kind_of r.kind_after (attempt_of r.attempt_after before.attempt max) max, attempt_of r.attempt_after before.attempt max)

-- the kind and the attempt of the first row that fits; there always is one
abbrev pub kind_and_attempt : Standing → State → ℕ → Bool → Kind × ℕ
kind_and_attempt before found max host_up = row_values (find (is_row_for (phase_of before) found host_up) table) before max

-- the last hard state after a result: the result if the kind is hard, otherwise the last hard state before
abbrev pub last_hard_after : Kind → State → State → State
last_hard_after kind.Hard found before = found
last_hard_after kind.Soft found before = before

abbrev pub standing_after : Kind × ℕ → State → State → Bool → Standing
standing_after after found last_hard flapping = record {
  checked = true;
  state = found;
  kind = after.0;
  attempt = after.1;
  last_hard = last_hard_after after.0 found last_hard;
  flapping = flapping;
}

-- the standing after a result: its state is the result, it is checked, and it flaps as the caller says
abbrev pub verdict_on : Standing → State → ℕ → Bool → Bool → Standing
verdict_on before found max host_up flapping =
    standing_after (kind_and_attempt (as_checked before) found max host_up) found (as_checked before).last_hard flapping
