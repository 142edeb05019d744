-- An object that was never checked stands as pending, whatever calls are made.
use Rattle.std.proofs.Common.{◌≡◌, ℕ, ◌+◌, List, [], ◌∷◌, Some, sym, ap, subst, ◌∙◌, arith}
use Rattle.std.specs.Prelude.{slice_get}
use Rattle.check_objects.specs.Configuration.{Configuration, objects_of}
use Rattle.check_states.specs.declared.standing.Standing.{Standing}
use Rattle.check_states.specs.Standing.{pending_standing}
use Rattle.check_sched.specs.declared.call.Call.{Call}
use Rattle.check_sched.specs.declared.call.Call.TheVariants as call
use Rattle.check_sched.specs.State.{State, IsPendingUntilChecked, is_host, opening}
use Rattle.check_sched.specs.Step.{after, state_found_in, new_standing_in, step}
use Rattle.check_sched.proofs.OpeningLaws.{pending_at}
use Rattle.check_sched.proofs.OperatorLaws.{abandon_cases, enable_cases, reschedule_cases, status_cases}
use Rattle.check_sched.proofs.ReportLaws.{report_cases}
use Rattle.check_sched.proofs.StepLaws.{after_setup}
use Rattle.check_sched.proofs.TakeLaws.{take_cases}
use Rattle.check_sched.proofs.UpdateLaws.{each-update_at}

-- each object of a state that was never checked stands as pending
abbrev pub ArePending : State → Type 0
ArePending s = (n : ℕ) (t : Standing) → slice_get s.standings n ≡ Some t → IsPendingUntilChecked s.setup n t

-- no call makes another standing of one that was never checked
step_pending : (s : State) (c : Call) → ArePending s → ArePending (step s c).0
step_pending s (call.Take now) was = take_cases (λ a. ArePending a.0) now s (λ why. was) (λ c m e. was) (λ c m r e. was) (λ e. was)
step_pending s (call.Report n run c) was =
    report_cases (λ a. ArePending a.0) n run c s (λ why. was)
    (λ o r e f. each-update_at (IsPendingUntilChecked s.setup) n (new_standing_in s n (state_found_in s n c)) s.standings was (λ never. cc))
step_pending s (call.Abandon n run now) was = abandon_cases (λ a. ArePending a.0) n run now s (λ why. was) (λ o e m. was)
step_pending s (call.Reschedule n time forced) was = reschedule_cases (λ a. ArePending a.0) n time forced s (λ why. was) (λ m. was)
step_pending s (call.Enable n on) was = enable_cases (λ a. ArePending a.0) n on s (λ why. was) was
step_pending s (call.Status n) was = status_cases (λ a. ArePending a.0) n s (λ why. was) (λ o e. was)

pub after_pending : (s : State) (calls : List Call) → ArePending s → ArePending (after s calls)
after_pending s [] was = was
after_pending s (c ∷ calls) was = after_pending (step s c).0 calls (step_pending s c was)

opening_pending : (setup : Configuration) (start : ℕ) → ArePending (opening setup start)
opening_pending setup start n t e never =
    let z : 0 + n ≡ n = omega arith in
    sym (pending_at setup 0 (objects_of setup) n t e) ∙ ap (λ j. pending_standing (is_host setup j)) z

-- Whatever calls are made of a scheduler that was opened, an object that was never checked stands as pending.
pub opened_pending : (setup : Configuration) (start : ℕ) (calls : List Call) (n : ℕ) (t : Standing)
    → slice_get (after (opening setup start) calls).standings n ≡ Some t → IsPendingUntilChecked setup n t
opened_pending setup start calls n t e =
    subst (λ c. IsPendingUntilChecked c n t) (after_setup (opening setup start) calls)
    (after_pending (opening setup start) calls (opening_pending setup start) n t e)
