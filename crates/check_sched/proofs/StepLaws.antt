-- Laws of the step: what stays, and that no call passes the limit.
use Rattle.std.proofs.Common.{◌≡◌, List, [], ◌∷◌, refl, ◌∙◌, Some}
use Rattle.check_sched.specs.declared.call.Call.{Call}
use Rattle.check_sched.specs.declared.call.Call.TheVariants as call
use Rattle.check_sched.specs.declared.call.Refusal.{Refusal}
use Rattle.check_sched.specs.declared.call.Reply.{Reply}
use Rattle.check_sched.specs.declared.call.Reply.TheVariants as reply
use Rattle.check_sched.specs.Scheduling.{object_after_run, enabled_as, freed_time, object_after_reschedule}
use Rattle.check_sched.specs.State.{State, IsWithinLimit}
use Rattle.check_sched.proofs.LimitLaws.{limit_kept, limit_taken}
use Rattle.check_sched.specs.Reply.{OnRefused}
use Rattle.check_sched.specs.Step.{step, after}
use Rattle.check_sched.proofs.EligibleLaws.{eligible_open, waiting_cases}
use Rattle.check_sched.proofs.OperatorLaws.{abandon_cases, enable_cases, reschedule_cases, status_cases}
use Rattle.check_sched.proofs.TakeLaws.{take_cases}
use Rattle.check_sched.proofs.ReportLaws.{report_cases}

-- ---- what stays

-- what stays, whatever a call leaves and answers: the setup and the start, and after a refusal the
-- whole state
pub record Keeps (s : State) (a : State × Reply) : Type 0 where
  pub setup : a.0.setup ≡ s.setup
  pub start : a.0.start ≡ s.start
  pub refused : OnRefused a.1 (a.0 ≡ s)

refusal_keeps : (s : State) (why : Refusal) → Keeps s (s, reply.Refused why)
refusal_keeps s why = record { setup = refl; start = refl; refused = refl }

pub step_keeps : (s : State) (c : Call) → Keeps s (step s c)
step_keeps s (call.Take now) = take_cases (Keeps s) now s (refusal_keeps s) (λ c m e. record { setup = refl; start = refl; refused = tt })
    (λ c m r e. record { setup = refl; start = refl; refused = tt })
    (λ e. record { setup = refl; start = refl; refused = waiting_cases (λ r. OnRefused r (s ≡ s)) now s tt tt })
step_keeps s (call.Report n run c) = report_cases (Keeps s) n run c s (refusal_keeps s) (λ o r e f. record { setup = refl; start = refl; refused = tt })
step_keeps s (call.Abandon n run now) = abandon_cases (Keeps s) n run now s (refusal_keeps s) (λ o e m. record { setup = refl; start = refl; refused = tt })
step_keeps s (call.Reschedule n time forced) =
    reschedule_cases (Keeps s) n time forced s (refusal_keeps s) (λ m. record { setup = refl; start = refl; refused = tt })
step_keeps s (call.Enable n on) = enable_cases (Keeps s) n on s (refusal_keeps s) (record { setup = refl; start = refl; refused = tt })
step_keeps s (call.Status n) = status_cases (Keeps s) n s (refusal_keeps s) (λ o e. record { setup = refl; start = refl; refused = tt })

-- ---- the limit

-- no call passes the limit
pub step_limit : (s : State) (c : Call) → IsWithinLimit s → IsWithinLimit (step s c).0
step_limit s (call.Take now) within =
    take_cases (λ a. IsWithinLimit a.0) now s (λ why. within) (λ c m e. limit_kept c.1 _ s (λ o r b. b) within)
    (λ c m r e. limit_taken now c.1 s (eligible_open now s c e) within) (λ e. within)
step_limit s (call.Report n run c) within =
    report_cases (λ a. IsWithinLimit a.0) n run c s (λ why. within) (λ o r e f. limit_kept n (object_after_run _) s (λ x r b. cc) within)
step_limit s (call.Abandon n run now) within =
    abandon_cases (λ a. IsWithinLimit a.0) n run now s (λ why. within) (λ o e m. limit_kept n (object_after_run (Some (freed_time now o))) s (λ x r b. cc) within)
step_limit s (call.Reschedule n time forced) within =
    reschedule_cases (λ a. IsWithinLimit a.0) n time forced s (λ why. within) (λ m. limit_kept n (object_after_reschedule time forced) s (λ x r b. b) within)
step_limit s (call.Enable n on) within = enable_cases (λ a. IsWithinLimit a.0) n on s (λ why. within) (limit_kept n (enabled_as on) s (λ x r b. b) within)
step_limit s (call.Status n) within = status_cases (λ a. IsWithinLimit a.0) n s (λ why. within) (λ o e. within)

-- ---- calls one after another

pub after_setup : (s : State) (calls : List Call) → (after s calls).setup ≡ s.setup
after_setup s [] = refl
after_setup s (c ∷ calls) = after_setup (step s c).0 calls ∙ (step_keeps s c).setup

-- nor do calls one after another
pub after_limit : (s : State) (calls : List Call) → IsWithinLimit s → IsWithinLimit (after s calls)
after_limit s [] h = h
after_limit s (c ∷ calls) h = after_limit (step s c).0 calls (step_limit s c h)
