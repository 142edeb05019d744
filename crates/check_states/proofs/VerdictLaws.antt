-- Laws of the verdict: its answer is lawful.
use Rattle.std.proofs.Common.{◌≡◌, ℕ, ◌+◌, ◌≤◌, Bool, true, false, not, ◌&&◌, ◌==◌, cond, refl, ap, ◌∙◌, arith}
use Rattle.std.proofs.lemmas.Bool.Decides.{nat_tests}
use Rattle.check_states.specs.declared.state.State.{State}
use Rattle.check_states.specs.declared.standing.Kind.{Kind}
use Rattle.check_states.specs.declared.standing.Kind.TheVariants as kind
use Rattle.check_states.specs.declared.standing.ProblemPhase.{ProblemPhase}
use Rattle.check_states.specs.declared.standing.ProblemPhase.TheVariants as phase
use Rattle.check_states.specs.declared.standing.Standing.{Standing}
use Rattle.check_states.specs.State.{is_problem, is_host_state}
use Rattle.check_states.specs.Standing.{as_checked, phase_of, is_attempt_of, is_last_hard_of, is_lawful, pending_standing}
use Rattle.check_states.specs.Verdict.{kind_and_attempt, kind_at, last_hard_after, standing_after, verdict_on}

-- ---- the rows, by the phase before, whether the result is a problem, and whether it is one of a
-- ---- service whose host isn't up

-- the kind and the attempt that a result gives
abbrev answer : ProblemPhase → Bool → Bool → ℕ → ℕ → Kind × ℕ
answer phase.NoProblem false under attempt max = (kind.Hard, 1)
answer phase.SoftProblem false under attempt max = (kind.Soft, attempt + 1)
answer phase.HardProblem false under attempt max = (kind.Hard, 1)
answer phase.NoProblem true true attempt max = (kind.Hard, max)
answer phase.SoftProblem true true attempt max = (kind.Hard, max)
answer phase.HardProblem true true attempt max = (kind.Hard, max)
answer phase.NoProblem true false attempt max = (kind_at 1 max, 1)
answer phase.SoftProblem true false attempt max = (kind_at (attempt + 1) max, attempt + 1)
answer phase.HardProblem true false attempt max = (kind.Hard, max)

answers : (s : Standing) (found : State) (max : ℕ) (host_up : Bool) (p : ProblemPhase) (b under : Bool) → phase_of s ≡ p → is_problem found ≡ b
    → (not (is_host_state found) && not host_up) ≡ under
    → kind_and_attempt s found max host_up ≡ answer p b under s.attempt max
answers s found max host_up phase.NoProblem false under e f g = rw (e, f) refl
answers s found max host_up phase.SoftProblem false under e f g = rw (e, f) refl
answers s found max host_up phase.HardProblem false under e f g = rw (e, f) refl
answers s found max host_up phase.NoProblem true true e f g = rw (e, f, g) refl
answers s found max host_up phase.SoftProblem true true e f g = rw (e, f, g) refl
answers s found max host_up phase.HardProblem true true e f g = rw (e, f, g) refl
answers s found max host_up phase.NoProblem true false e f g = rw (e, f, g) refl
answers s found max host_up phase.SoftProblem true false e f g = rw (e, f, g) refl
answers s found max host_up phase.HardProblem true false e f g = rw (e, f, g) refl

-- ---- lawful answers

-- the standing after a result; whether it flaps decides nothing here
abbrev steady_after : Kind × ℕ → State → State → Standing
steady_after after found last_hard = standing_after after found last_hard false

fine_after : (found last_hard : State) (k : Kind) (attempt max : ℕ) → is_problem found ≡ false → 1 ≤ attempt → attempt ≤ max
    → is_problem (last_hard_after k found last_hard) ≡ false
    → is_lawful (steady_after (k, attempt) found last_hard) max ≡ true
fine_after found last_hard k attempt max f low high h = rw f (grind (arith, nat_tests, low, high, h))

hard_after : (found last_hard : State) (max : ℕ) → is_problem found ≡ true → is_lawful (steady_after (kind.Hard, max) found last_hard) max ≡ true
hard_after found last_hard max f = rw f (grind (arith, nat_tests))

problem_by : (found last_hard : State) (attempt max : ℕ) (last : Bool) → (attempt == max) ≡ last → is_problem found ≡ true → 1 ≤ attempt
    → attempt ≤ max → is_problem last_hard ≡ false
    → is_lawful (steady_after (cond last kind.Hard kind.Soft, attempt) found last_hard) max ≡ true
problem_by found last_hard attempt max true e f low high h = rw f (grind (arith, nat_tests, e))
problem_by found last_hard attempt max false e f low high h = rw f (grind (arith, nat_tests, e, low, high, h))

problem_after : (found last_hard : State) (attempt max : ℕ) → is_problem found ≡ true → 1 ≤ attempt → attempt ≤ max → is_problem last_hard ≡ false
    → is_lawful (steady_after (kind_at attempt max, attempt) found last_hard) max ≡ true
problem_after found last_hard attempt max f low high h = problem_by found last_hard attempt max (attempt == max) refl f low high h

-- what a lawful standing in a phase has
abbrev IsLawfulAt : ProblemPhase → ℕ → State → ℕ → Type 0
IsLawfulAt p attempt last_hard max = (is_attempt_of p attempt max && is_last_hard_of p last_hard) ≡ true

lawful_answer : (found last_hard : State) (attempt max : ℕ) (p : ProblemPhase) (b under : Bool) → 1 ≤ max → IsLawfulAt p attempt last_hard max
    → is_problem found ≡ b → is_lawful (steady_after (answer p b under attempt max) found last_hard) max ≡ true
lawful_answer found last_hard attempt max phase.NoProblem false under m h f = fine_after found last_hard kind.Hard 1 max f (omega arith) m f
lawful_answer found last_hard attempt max phase.SoftProblem false under m h f =
    fine_after found last_hard kind.Soft (attempt + 1) max f (omega arith) (grind (arith, nat_tests, h)) (grind (arith, nat_tests, h))
lawful_answer found last_hard attempt max phase.HardProblem false under m h f = fine_after found last_hard kind.Hard 1 max f (omega arith) m f
lawful_answer found last_hard attempt max phase.NoProblem true true m h f = hard_after found last_hard max f
lawful_answer found last_hard attempt max phase.SoftProblem true true m h f = hard_after found last_hard max f
lawful_answer found last_hard attempt max phase.HardProblem true true m h f = hard_after found last_hard max f
lawful_answer found last_hard attempt max phase.NoProblem true false m h f = problem_after found last_hard 1 max f (omega arith) m (grind (arith, nat_tests, h))
lawful_answer found last_hard attempt max phase.SoftProblem true false m h f =
    problem_after found last_hard (attempt + 1) max f (omega arith) (grind (arith, nat_tests, h)) (grind (arith, nat_tests, h))
lawful_answer found last_hard attempt max phase.HardProblem true false m h f = hard_after found last_hard max f

-- an object that was never checked has a lawful standing
pub pending_is_lawful : (is_host : Bool) (max : ℕ) → 1 ≤ max → is_lawful (pending_standing is_host) max ≡ true
pending_is_lawful true max m = grind (arith, nat_tests, m)
pending_is_lawful false max m = grind (arith, nat_tests, m)

checked_is_lawful_by : (s : Standing) (max : ℕ) (checked : Bool) → 1 ≤ max → is_lawful s max ≡ true
    → is_lawful (cond checked s (pending_standing (is_host_state s.state))) max ≡ true
checked_is_lawful_by s max true m h = h
checked_is_lawful_by s max false m h = pending_is_lawful (is_host_state s.state) max m

-- and read as pending where it was never checked, it stays lawful
pub checked_is_lawful : (s : Standing) (max : ℕ) → 1 ≤ max → is_lawful s max ≡ true → is_lawful (as_checked s) max ≡ true
checked_is_lawful s max m h = checked_is_lawful_by s max s.checked m h

lawful_of : (s : Standing) (found : State) (max : ℕ) (host_up : Bool) → 1 ≤ max → is_lawful s max ≡ true
    → is_lawful (steady_after (kind_and_attempt s found max host_up) found s.last_hard) max ≡ true
lawful_of s found max host_up m h =
    ap (λ a. is_lawful (steady_after a found s.last_hard) max)
    (answers s found max host_up (phase_of s) (is_problem found) (not (is_host_state found) && not host_up) refl refl refl)
    ∙ lawful_answer found s.last_hard s.attempt max (phase_of s) (is_problem found) _ m h refl

-- the verdict on a result is lawful
pub verdict_is_lawful : (before : Standing) (found : State) (max : ℕ) (host_up flapping : Bool) → 1 ≤ max → is_lawful before max ≡ true
    → is_lawful (verdict_on before found max host_up flapping) max ≡ true
verdict_is_lawful before found max host_up flapping m h = lawful_of (as_checked before) found max host_up m (checked_is_lawful before max m h)

-- ---- hosts and services

-- a host that was never checked has a state of hosts, and a service one of services
pub pending_sort : (is_host : Bool) → is_host_state (pending_standing is_host).state ≡ is_host
pending_sort true = refl
pending_sort false = refl
