-- No object is taken while it runs: what a history says of runs is what the state says that its calls leave.
use Rattle.std.proofs.Common.{◌≡◌, ℕ, suc, ◌+◌, ◌<◌, ◌==◌, ◌&&◌, ◌||◌, Bool, true, false, not, cond, List, [], ◌∷◌, ◌++◌, length, Option, Some}
use Rattle.std.proofs.Common.{None, Ok, Err, option_map, refl, sym, ap, ◌∙◌, arith, inl, inr}
use Rattle.std.specs.Prelude.{is_none, nat_le, nat_lt, slice_get}
use Rattle.std.specs.List.{cons_option, enumerate_from, filter_map, list_all, list_any}
use Rattle.std.proofs.lemmas.Bool.Decides.{nat_tests}
use Rattle.std.proofs.lemmas.Bool.{and_from, eqb-true, eq-eqb, cases_eq, or_parts}
use Rattle.std.proofs.lemmas.List.Sums.{sum_by-cons}
use Rattle.ticket_steps.specs.declared.books.Entry.{Entry}
use Rattle.ticket_steps.specs.History.{replay, IsLegal}
use Rattle.check_sched.specs.declared.call.Call.{Call}
use Rattle.check_sched.specs.declared.call.Call.TheVariants as call
use Rattle.check_sched.specs.declared.call.Reply.{Reply}
use Rattle.check_sched.specs.declared.call.Reply.TheVariants as reply
use Rattle.check_sched.specs.declared.call.Refusal.TheVariants as refusal
use Rattle.check_sched.specs.Candidate.{Candidate, candidate, candidates_among}
use Rattle.check_queue.specs.Order.{least}
use Rattle.check_sched.specs.Scheduling.{candidate_time, run_under}
use Rattle.check_saved_state.specs.Scheduling.{Scheduling, OpenRun}
use Rattle.check_sched.specs.State.{State, is_host}
use Rattle.check_sched.specs.Step.{candidates, due_candidates, eligible_candidates, is_startable, existing_object, step, state_after_take, update_at}
use Rattle.check_sched.specs.Step.{waiting_reply, moment_test}
use Rattle.check_sched.specs.Runs.{begins, begins_by, ends, ends_by, runs_begun, runs_under, takes_by}
use Rattle.check_sched.proofs.AnswerLaws.{by_test, known_is, under_is}
use Rattle.check_queue.proofs.LeastLaws.{all_at_least, all_filtered}
use Rattle.check_sched.proofs.CandidateLaws.{candidates_within}
use Rattle.check_sched.proofs.OperatorLaws.{abandon_cases, enable_cases, reschedule_cases, status_cases}
use Rattle.check_sched.proofs.RunningLaws.{run_apart, run_begun, run_in, run_kept}
use Rattle.check_sched.proofs.ReportLaws.{report_cases}
use Rattle.check_sched.proofs.TakeLaws.{take_cases}

-- ---- what waits doesn't run

none_number : (r : Option OpenRun) → is_none r ≡ true → is_none (option_map (λ x. x.number) r) ≡ true
none_number None h = refl
none_number (Some x) h = h

waits_by : (free may : Bool) (next : Option ℕ) (t : ℕ) → cond (free && may) next None ≡ Some t → free ≡ true
waits_by true may next t e = refl
waits_by false may next t e = cc

waits_free : (x : Scheduling) (t : ℕ) → candidate_time x ≡ Some t → is_none x.run ≡ true
waits_free x t e = waits_by (is_none x.run) (x.enabled || x.forced) x.next t e

free_by : (test : ℕ → Bool) (k : ℕ) (t : Option ℕ) (cs : List Candidate) → ((time : ℕ) → t ≡ Some time → test k ≡ true)
    → list_all (λ c. test c.1) cs ≡ true → list_all (λ c. test c.1) (cons_option (option_map (λ time. (time, k)) t) cs) ≡ true
free_by test k None cs f h = h
free_by test k (Some t) cs f h = and_from (test k) _ (f t refl) h

free_from : (test : ℕ → Bool) (k : ℕ) (xs : List Scheduling) → ((i : ℕ) → i < length xs → is_none (run_in i xs) ≡ true → test (k + i) ≡ true)
    → list_all (λ c. test c.1) (filter_map (λ p. candidate p.0 p.1) (enumerate_from k xs)) ≡ true
free_from test k [] f = refl
free_from test k (x ∷ xs) f =
    free_by test k (candidate_time x) _
    (λ t e. let here = f 0 (omega arith) (none_number x.run (waits_free x t e)) in let at : k + 0 ≡ k = omega arith in rw at at here)
    (free_from test (k + 1) xs (λ i l h. let in_range = f (suc i) (omega arith) h in let at : k + suc i ≡ k + 1 + i = omega arith in rw at at in_range))

-- whatever waits for its check isn't being checked
pub waiting_free : (xs : List Scheduling) → list_all (λ c. is_none (run_in c.1 xs)) (candidates_among xs) ≡ true
waiting_free xs = free_from (λ n. is_none (run_in n xs)) 0 xs (λ i l h. let at : 0 + i ≡ i = omega arith in rw at h)

-- neither is what may be checked now
pub eligible_free : (now : ℕ) (s : State) (c : Candidate) → least (eligible_candidates now s) ≡ Some c → is_none (run_in c.1 s.objects) ≡ true
eligible_free now s c e =
    all_at_least (λ x. is_none (run_in x.1 s.objects)) c (eligible_candidates now s) e
    (all_filtered (λ x. is_none (run_in x.1 s.objects)) (λ x. is_startable s x.1) (due_candidates now s)
    (all_filtered (λ x. is_none (run_in x.1 s.objects)) (λ x. nat_le x.0 now) (candidates s) (waiting_free s.objects)))

pub eligible_there : (now : ℕ) (s : State) (c : Candidate) → least (eligible_candidates now s) ≡ Some c → c.1 < length s.objects
eligible_there now s c e =
    let within = all_at_least (λ x. nat_lt x.1 (length s.objects)) c (eligible_candidates now s) e
    (all_filtered (λ x. nat_lt x.1 (length s.objects)) (λ x. is_startable s x.1) (due_candidates now s)
    (all_filtered (λ x. nat_lt x.1 (length s.objects)) (λ x. nat_le x.0 now) (candidates s) (candidates_within s.objects))) in
    grind (arith, nat_tests, within)

-- ---- one call

none_some : (x : Option ℕ) (r : ℕ) → is_none x ≡ true → x ≡ Some r → ⊥
none_some None r f e = cc
none_some (Some x) r f e = cc

under_number_by : (number : ℕ) (x q : OpenRun) (b : Bool) → (x.number == number) ≡ b → cond b (Ok x) (Err refusal.WrongRun) ≡ Ok q → q.number ≡ number
under_number_by number x q true h e = let same : x ≡ q = cc in ap (λ r. r.number) (sym same) ∙ eqb-true x.number number h
under_number_by number x q false h e = cc

under_number : (number : ℕ) (running : Option OpenRun) (q : OpenRun) → run_under number running ≡ Ok q → q.number ≡ number
under_number number None q e = cc
under_number number (Some x) q e = under_number_by number x q (x.number == number) refl e

-- the run that a passed test names is the object's
run_named : (s : State) (n run : ℕ) (x : Scheduling) (q : OpenRun) → slice_get s.objects n ≡ Some x → run_under run x.run ≡ Ok q → run_in n s.objects ≡ Some run
run_named s n run x q in_range under = rw (in_range, under_is run x.run q under) (ap Some (under_number run x.run q under))

some_same : (x : Option ℕ) (a b : ℕ) → x ≡ Some a → x ≡ Some b → a ≡ b
some_same x a b e f = let same : Some a ≡ Some b = sym e ∙ f in cc

-- a run that isn't the one that ends continues
run_goes_on : (s : State) (n run o r : ℕ) (f : Scheduling → Scheduling) (x : Scheduling) (q : OpenRun) → slice_get s.objects n ≡ Some x
    → run_under run x.run ≡ Ok q → run_in o s.objects ≡ Some r → (n == o && (run == r)) ≡ false → run_in o (update_at n f s.objects) ≡ Some r
run_goes_on s n run o r f x q in_range under h e = elim (cases_eq n o) [
  | inl same ↦
      let named : run_in o s.objects ≡ Some run = rw (← same) (run_named s n run x q in_range under) in
      let is : run ≡ r = some_same (run_in o s.objects) run r named h in
      let ends : (n == o && (run == r)) ≡ true = rw (eq-eqb n o same, eq-eqb run r is) refl in
      absurd (let clash : true ≡ false = sym ends ∙ e in cc)
  | inr other ↦ run_apart n o f s.objects other ∙ h
]

-- a run continues until a call ends it
step_keeps_run : (s : State) (c : Call) (o r : ℕ) → run_in o s.objects ≡ Some r → ends_by o r c (step s c).1 ≡ false → run_in o (step s c).0.objects ≡ Some r
step_keeps_run s (call.Take now) o r h =
    take_cases (λ a. ends_by o r (call.Take now) a.1 ≡ false → run_in o a.0.objects ≡ Some r) now s
    (λ why e. h)
    (λ c m f e. run_kept c.1 o _ s.objects (λ x. refl) ∙ h)
    (λ c m q f e. run_apart c.1 o _ s.objects (λ same. none_some (run_in c.1 s.objects) r (eligible_free now s c f)
    (ap (λ k. run_in k s.objects) same ∙ h)) ∙ h)
    (λ f e. h)
step_keeps_run s (call.Report n run c) o r h =
    by_test (λ a. ends_by o r (call.Report n run c) a.1 ≡ false → run_in o a.0.objects ≡ Some r) s (existing_object n s) _ (λ why e. h)
    (λ x k. by_test (λ a. ends_by o r (call.Report n run c) a.1 ≡ false → run_in o a.0.objects ≡ Some r) s (run_under run x.run) _ (λ why e. h)
    (λ q f e. run_goes_on s n run o r _ x q (known_is n s x k) f h e))
step_keeps_run s (call.Abandon n run now) o r h =
    by_test (λ a. ends_by o r (call.Abandon n run now) a.1 ≡ false → run_in o a.0.objects ≡ Some r) s (existing_object n s) _ (λ why e. h)
    (λ x k. by_test (λ a. ends_by o r (call.Abandon n run now) a.1 ≡ false → run_in o a.0.objects ≡ Some r) s (moment_test now) _ (λ why e. h)
    (λ u m. by_test (λ a. ends_by o r (call.Abandon n run now) a.1 ≡ false → run_in o a.0.objects ≡ Some r) s (run_under run x.run) _ (λ why e. h)
    (λ q f e. run_goes_on s n run o r _ x q (known_is n s x k) f h e)))
step_keeps_run s (call.Reschedule n time forced) o r h =
    reschedule_cases (λ a. ends_by o r (call.Reschedule n time forced) a.1 ≡ false → run_in o a.0.objects ≡ Some r) n time forced s
    (λ why e. h) (λ m e. run_kept n o _ s.objects (λ x. refl) ∙ h)
step_keeps_run s (call.Enable n on) o r h =
    enable_cases (λ a. ends_by o r (call.Enable n on) a.1 ≡ false → run_in o a.0.objects ≡ Some r) n on s
    (λ why e. h) (λ e. run_kept n o _ s.objects (λ x. refl) ∙ h)
step_keeps_run s (call.Status n) o r h =
    status_cases (λ a. ends_by o r (call.Status n) a.1 ≡ false → run_in o a.0.objects ≡ Some r) n s (λ why e. h) (λ x k e. h)

-- The call before which the object was free and after which it runs under this number, the next one.
record IsBegun (o r : ℕ) (before after : State) : Type 0 where
  free : is_none (run_in o before.objects) ≡ true
  running : run_in o after.objects ≡ Some r
  next : r ≡ before.runs + 1

and_left : (a b : Bool) → (a && b) ≡ true → a ≡ true
and_left true b h = refl
and_left false b h = h

and_right : (a b : Bool) → (a && b) ≡ true → b ≡ true
and_right true b h = h
and_right false b h = cc

taken_begins : (now : ℕ) (s : State) (c : Candidate) (o r : ℕ) → least (eligible_candidates now s) ≡ Some c → (c.1 == o && ((s.runs + 1) == r)) ≡ true
    → IsBegun o r s (state_after_take now c.1 s)
taken_begins now s c o r f e =
    let here : c.1 ≡ o = eqb-true c.1 o (and_left (c.1 == o) _ e) in
    let number : s.runs + 1 ≡ r = eqb-true (s.runs + 1) r (and_right (c.1 == o) _ e) in
    record {
      free = rw (← here) (eligible_free now s c f);
      running = rw (← here, ← number) (run_begun c.1 (record { number = s.runs + 1; start = now }) s.objects (eligible_there now s c f));
      next = sym number;
    }

-- the reply where none may be checked begins nothing
waiting_by : (limited : Bool) (s : State) (next : Option ℕ) (o r : ℕ) → begins_by o r (cond limited reply.AtLimit (reply.Idle next)) ≡ true → IsBegun o r s s
waiting_by true s next o r e = cc
waiting_by false s next o r e = cc

waiting_begins : (now : ℕ) (s : State) (o r : ℕ) → begins_by o r (waiting_reply now s) ≡ true → IsBegun o r s s
waiting_begins now s o r e = waiting_by (list_any (λ c. not (is_host s.setup c.1)) (due_candidates now s)) s (option_map (λ c. c.0) (least (candidates s))) o r e

step_begins : (s : State) (c : Call) (o r : ℕ) → begins_by o r (step s c).1 ≡ true → IsBegun o r s (step s c).0
step_begins s (call.Take now) o r =
    take_cases (λ a. begins_by o r a.1 ≡ true → IsBegun o r s a.0) now s
    (λ why e. cc) (λ c m f e. cc) (λ c m q f e. taken_begins now s c o r f e)
    (λ f e. waiting_begins now s o r e)
step_begins s (call.Report n run c) o r = report_cases (λ a. begins_by o r a.1 ≡ true → IsBegun o r s a.0) n run c s (λ why e. cc) (λ x q k f e. cc)
step_begins s (call.Abandon n run now) o r = abandon_cases (λ a. begins_by o r a.1 ≡ true → IsBegun o r s a.0) n run now s (λ why e. cc) (λ x k m e. cc)
step_begins s (call.Reschedule n time forced) o r =
    reschedule_cases (λ a. begins_by o r a.1 ≡ true → IsBegun o r s a.0) n time forced s (λ why e. cc) (λ m e. cc)
step_begins s (call.Enable n on) o r = enable_cases (λ a. begins_by o r a.1 ≡ true → IsBegun o r s a.0) n on s (λ why e. cc) (λ e. cc)
step_begins s (call.Status n) o r = status_cases (λ a. begins_by o r a.1 ≡ true → IsBegun o r s a.0) n s (λ why e. cc) (λ x k e. cc)

-- ---- histories

not_false : (a : Bool) → not a ≡ true → a ≡ false
not_false true h = cc
not_false false h = refl

none_more : (s : State) → s.runs ≡ s.runs + 0
none_more s = omega arith

waiting_runs_by : (limited : Bool) (s : State) (next : Option ℕ) → s.runs ≡ s.runs + cond (takes_by (cond limited reply.AtLimit (reply.Idle next))) 1 0
waiting_runs_by true s next = none_more s
waiting_runs_by false s next = none_more s

waiting_runs : (now : ℕ) (s : State) → s.runs ≡ s.runs + cond (takes_by (waiting_reply now s)) 1 0
waiting_runs now s = waiting_runs_by (list_any (λ c. not (is_host s.setup c.1)) (due_candidates now s)) s (option_map (λ c. c.0) (least (candidates s)))

-- a run continues through a history that doesn't end it
pub keeps_running : (s : State) (h : List (Entry Call Reply)) (o r : ℕ) → IsLegal step s h → run_in o s.objects ≡ Some r → list_any (ends o r) h ≡ false
    → run_in o (replay step s h).objects ≡ Some r
keeps_running s [] o r legal runs none = runs
keeps_running s (e ∷ h) o r legal runs none =
    let goes_on : ends_by o r e.call (step s e.call).1 ≡ false = rw (← legal.0) (or_parts (ends o r e) _ none).0 in
    keeps_running (step s e.call).0 h o r legal.1 (step_keeps_run s e.call o r runs goes_on) (or_parts (ends o r e) _ none).1

begun_by : (s : State) (e : Entry Call Reply) (o r : ℕ) → e.reply ≡ (step s e.call).1 → begins o r e ≡ true → IsBegun o r s (step s e.call).0
begun_by s e o r legal is = step_begins s e.call o r (rw (← legal) is)

runs_by : (s : State) (e : Entry Call Reply) (h : List (Entry Call Reply)) (o r : ℕ) (first : Bool)
    → (begins o r e && not (list_any (ends o r) h)) ≡ first → (first || runs_under o r h) ≡ true → IsLegal step s (e ∷ h)
    → (runs_under o r h ≡ true → run_in o (replay step (step s e.call).0 h).objects ≡ Some r)
    → run_in o (replay step (step s e.call).0 h).objects ≡ Some r
runs_by s e h o r true is any legal more =
    keeps_running (step s e.call).0 h o r legal.1 (begun_by s e o r legal.0 (and_left (begins o r e) _ is)).running
    (not_false (list_any (ends o r) h) (and_right (begins o r e) _ is))
runs_by s e h o r false is any legal more = more any

-- what runs by the history runs in the state that it leaves
runs_in_state : (s : State) (h : List (Entry Call Reply)) (o r : ℕ) → IsLegal step s h → runs_under o r h ≡ true → run_in o (replay step s h).objects ≡ Some r
runs_in_state s [] o r legal runs = cc
runs_in_state s (e ∷ h) o r legal runs =
    runs_by s e h o r (begins o r e && not (list_any (ends o r) h)) refl runs legal (runs_in_state (step s e.call).0 h o r legal.1)

-- the runs handed out are those begun
step_runs : (s : State) (c : Call) → (step s c).0.runs ≡ s.runs + cond (takes_by (step s c).1) 1 0
step_runs s (call.Take now) =
    take_cases (λ a. a.0.runs ≡ s.runs + cond (takes_by a.1) 1 0) now s (λ why. none_more s) (λ c m f. none_more s) (λ c m q f. refl) (λ f. waiting_runs now s)
step_runs s (call.Report n run c) = report_cases (λ a. a.0.runs ≡ s.runs + cond (takes_by a.1) 1 0) n run c s (λ why. none_more s) (λ x q k f. none_more s)
step_runs s (call.Abandon n run now) = abandon_cases (λ a. a.0.runs ≡ s.runs + cond (takes_by a.1) 1 0) n run now s (λ why. none_more s) (λ x k m. none_more s)
step_runs s (call.Reschedule n time forced) =
    reschedule_cases (λ a. a.0.runs ≡ s.runs + cond (takes_by a.1) 1 0) n time forced s (λ why. none_more s) (λ m. none_more s)
step_runs s (call.Enable n on) = enable_cases (λ a. a.0.runs ≡ s.runs + cond (takes_by a.1) 1 0) n on s (λ why. none_more s) (none_more s)
step_runs s (call.Status n) = status_cases (λ a. a.0.runs ≡ s.runs + cond (takes_by a.1) 1 0) n s (λ why. none_more s) (λ x k. none_more s)

pub runs_count : (s : State) (h : List (Entry Call Reply)) → IsLegal step s h → (replay step s h).runs ≡ s.runs + runs_begun h
runs_count s [] legal = none_more s
runs_count s (e ∷ h) legal =
    let first : (step s e.call).0.runs ≡ s.runs + cond (takes_by e.reply) 1 0 = rw legal.0 (step_runs s e.call) in
    let rest = runs_count (step s e.call).0 h legal.1 in
    let sum = sum_by-cons (λ x. cond (takes_by x.reply) 1 0) e h in
    omega (arith, first, rest, sum)

-- ---- a history and what comes after it

pub legal_front : (s : State) (front back : List (Entry Call Reply)) → IsLegal step s (front ++ back) → IsLegal step s front
legal_front s [] back legal = tt
legal_front s (e ∷ front) back legal = (legal.0, legal_front (step s e.call).0 front back legal.1)

pub legal_back : (s : State) (front back : List (Entry Call Reply)) → IsLegal step s (front ++ back) → IsLegal step (replay step s front) back
legal_back s [] back legal = legal
legal_back s (e ∷ front) back legal = legal_back (step s e.call).0 front back legal.1

not_running : (other : ℕ) (x : Option ℕ) (b : Bool) → is_none x ≡ true → (b ≡ true → x ≡ Some other) → b ≡ false
not_running other x true free f = absurd (none_some x other free (f refl))
not_running other x false free f = refl

-- an object that is taken wasn't running before
pub taken_once : (s : State) (front back : List (Entry Call Reply)) (e : Entry Call Reply) (o r other : ℕ) → IsLegal step s (front ++ e ∷ back)
    → begins o r e ≡ true → runs_under o other front ≡ false
taken_once s front back e o r other legal is =
    let begun = begun_by (replay step s front) e o r (legal_back s front (e ∷ back) legal).0 is in
    not_running other (run_in o (replay step s front).objects) (runs_under o other front) begun.free
    (runs_in_state s front o other (legal_front s front (e ∷ back) legal))

-- its run has the next number
pub taken_number : (s : State) (front back : List (Entry Call Reply)) (e : Entry Call Reply) (o r : ℕ) → IsLegal step s (front ++ e ∷ back)
    → begins o r e ≡ true → r ≡ s.runs + runs_begun front + 1
taken_number s front back e o r legal is =
    let begun = begun_by (replay step s front) e o r (legal_back s front (e ∷ back) legal).0 is in
    let count = runs_count s front (legal_front s front (e ∷ back) legal) in
    omega (arith, begun.next, count)

pub taken_next : (s : State) (front back : List (Entry Call Reply)) (e : Entry Call Reply) (o r : ℕ) → s.runs ≡ 0
    → IsLegal step s (front ++ e ∷ back) → begins o r e ≡ true → r ≡ runs_begun front + 1
taken_next s front back e o r none legal is = let next = taken_number s front back e o r legal is in omega (arith, next, none)

or_else : (b : Bool) → (b ≡ false → ⊥) → b ≡ true
or_else true none = refl
or_else false none = absurd (none refl)

-- neither is one that was running before all taken, until that run has ended
pub taken_after : (s : State) (front back : List (Entry Call Reply)) (e : Entry Call Reply) (o r other : ℕ) → IsLegal step s (front ++ e ∷ back)
    → begins o r e ≡ true → run_in o s.objects ≡ Some other → list_any (ends o other) front ≡ true
taken_after s front back e o r other legal is out =
    let begun = begun_by (replay step s front) e o r (legal_back s front (e ∷ back) legal).0 is in
    or_else (list_any (ends o other) front)
    (λ f. none_some (run_in o (replay step s front).objects) other begun.free
    (keeps_running s front o other (legal_front s front (e ∷ back) legal) out f))
