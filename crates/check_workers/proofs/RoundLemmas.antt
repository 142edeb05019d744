-- The work of one moment, from its calls.
use Rattle.std.proofs.Common.{◌≡◌, ℕ, ◌+◌, List, [], ◌∷◌, Some, None, refl, sym, subst, arith}
use Rattle.ticket_steps.specs.declared.books.Entry.{Entry}
use Rattle.ticket_steps.specs.History.{entry}
use Rattle.ticket_lock.specs.Callers.{Caller}
use Rattle.check_states.specs.declared.state.Code.{Code}
use Rattle.check_sched.specs.declared.call.Call.{Call}
use Rattle.check_sched.specs.declared.call.Call.TheVariants as call
use Rattle.check_sched.specs.declared.call.Reply.{Reply}
use Rattle.check_sched.specs.declared.call.Reply.TheVariants as reply
use Rattle.check_desk.specs.Desks.{HasRecorded}
use Rattle.check_sched.proofs.ReplyCases.{each_reply}
use Rattle.check_workers.specs.declared.round.Progress.{Progress}
use Rattle.check_workers.specs.declared.round.Progress.TheVariants as progress
use Rattle.check_workers.specs.declared.tally.Tally.{Tally}
use Rattle.check_workers.specs.Progress.{HasProgressed, HasReported, IsDone}
use Rattle.check_workers.specs.Shifts.{HasMadeCalls, IsResult, report_entries}
use Rattle.check_workers.specs.Tallies.{IsBounded, plus, tally_of}
use Rattle.check_workers.proofs.CallerLemmas.{made_reply, made_then}
use Rattle.check_workers.proofs.TallyLemmas.{few_tally, tally_append}

-- a report counts few answers
pub reported_few : (allows : ℕ → ℕ → ℕ → Code → Type 0) (now object run room : ℕ) (before after : Caller Call Reply) (t : Tally) (p : Progress)
    → HasReported allows now object run room before after t p → IsBounded t
reported_few allows now object run room before after t progress.Done h =
    subst IsBounded (sym h.counted) (few_tally (entry before.own (call.Report object run h.code) h.answer ∷ []) [] (omega arith) (omega arith))
reported_few allows now object run room before after t (progress.Stopped stop given) h =
    subst IsBounded (sym h.counted) (few_tally [] [] (omega arith) (omega arith))

-- the number under which a caller records stays
made_own : (c : Call) (r : Reply) (fs : List (Entry Call Reply)) (n : ℕ) (before mid after : Caller Call Reply) → HasRecorded c r before mid
    → HasMadeCalls fs n mid after
    → HasMadeCalls (entry before.own c r ∷ fs) n before after
made_own c r fs n before mid after h g =
    let same : 0 + n ≡ n = omega arith in
    subst (λ k. HasMadeCalls (entry before.own c r ∷ fs) k before after) same
    (made_then (entry before.own c r ∷ []) fs 0 n before mid after (made_reply c r before mid h) g)

same_own : (c : Call) (r : Reply) (before mid : Caller Call Reply) → HasRecorded c r before mid → mid.own ≡ before.own
same_own c r before mid h = (made_reply c r before mid h).own

tally_two : (e : Entry Call Reply) (fs : List (Entry Call Reply)) (t u : Tally) → t ≡ tally_of (e ∷ []) [] → u ≡ tally_of fs []
    → plus t u ≡ tally_of (e ∷ fs) []
tally_two e fs t u p q = rw (p, q) (sym (tally_append (e ∷ []) fs [] []))

-- a check that was taken, and then its report
pub came_taken : (allows : ℕ → ℕ → ℕ → Code → Type 0) (now object run room : ℕ) (before mid after : Caller Call Reply) (t u : Tally) (p : Progress)
    → HasRecorded (call.Take now) (reply.Taken object run) before mid → t ≡ tally_of (entry before.own (call.Take now) (reply.Taken object run) ∷ []) []
    → HasReported allows now object run room mid after u p → HasProgressed allows now room before after (plus t u) p
came_taken allows now object run room before mid after t u progress.Done h first r =
    let own = same_own (call.Take now) (reply.Taken object run) before mid h in
    let e = entry before.own (call.Report object run r.code) r.answer in
    record {
      round = record { now = now; reply = reply.Taken object run; result = Some (r.code, r.answer) };
      at = refl;
      allowed = r.allowed;
      made =
          made_own (call.Take now) (reply.Taken object run) (e ∷ []) 0 before mid after h
          (subst (λ number. HasMadeCalls (entry number (call.Report object run r.code) r.answer ∷ []) 0 mid after) own r.made);
      counted = tally_two (entry before.own (call.Take now) (reply.Taken object run)) (e ∷ []) t u first r.counted;
    }
came_taken allows now object run room before mid after t u (progress.Stopped stop given) h first r = record {
  left_open = Some (record { now = now; object = object; run = run });
  run_is = r.run_is;
  at = refl;
  made = made_own (call.Take now) (reply.Taken object run) [] _ before mid after h r.made;
  reason = r.reason;
  counted = tally_two (entry before.own (call.Take now) (reply.Taken object run)) [] t u first r.counted;
}

-- a take that began no run
no_run : (allows : ℕ → ℕ → ℕ → Code → Type 0) (now : ℕ) (r : Reply) → ((object run : ℕ) → r ≡ reply.Taken object run → ⊥) → IsResult allows now r None
no_run allows now =
    each_reply (λ r. ((object run : ℕ) → r ≡ reply.Taken object run → ⊥) → IsResult allows now r None)
    (λ object run h. h object run refl) (λ object until h. refl) (λ next h. refl) (λ h. refl) (λ standing changed next h. refl) (λ next h. refl) (λ h. refl) (λ why h. refl)

untaken : (number : ℕ) (r : Reply) → ((object run : ℕ) → r ≡ reply.Taken object run → ⊥) → report_entries number r None ≡ []
untaken number =
    each_reply (λ r. ((object run : ℕ) → r ≡ reply.Taken object run → ⊥) → report_entries number r None ≡ [])
    (λ object run h. absurd (h object run refl)) (λ object until h. refl) (λ next h. refl) (λ h. refl) (λ standing changed next h. refl) (λ next h. refl) (λ h. refl)
    (λ why h. refl)

pub came_other : (allows : ℕ → ℕ → ℕ → Code → Type 0) (now : ℕ) (r : Reply) (before after : Caller Call Reply) (t : Tally)
    → ((object run : ℕ) → r ≡ reply.Taken object run → ⊥)
    → HasRecorded (call.Take now) r before after → t ≡ tally_of (entry before.own (call.Take now) r ∷ []) [] → IsDone allows now before after t
came_other allows now r before after t other h counted =
    let none = untaken before.own r other in record {
      round = record { now = now; reply = r; result = None };
      at = refl;
      allowed = no_run allows now r other;
      made = rw none (made_reply (call.Take now) r before after h);
      counted = rw none counted;
    }
