-- No object is passed over twice in favour of the same other one. An object that is chosen while another one waits and is due comes after it from then on,
-- and isn't chosen before it again.
use Rattle.std.proofs.Common.{◌≡◌, ◌≢◌, ℕ, zero, suc, ◌+◌, ◌<◌, ◌≤◌, ◌^◌, ◌==◌, ◌&&◌, ◌||◌, Bool, true, false, not, cond, List, [], ◌∷◌, length, Option, Some}
use Rattle.std.proofs.Common.{None}
use Rattle.std.proofs.Common.{refl, sym, ap, ◌∙◌, subst, arith, inl, inr, IfSome, is_some, option_and_then, option_map}
use Rattle.std.specs.Prelude.{count_by, is_none, nat_le, nat_lt, slice_get, unwrap_or}
use Rattle.std.specs.List.{cons_option, enumerate_from, filter_map, list_all, list_any}
use Rattle.std.specs.Option.{option_map_or, option_or}
use Rattle.std.proofs.lemmas.Bool.Decides.{nat_tests}
use Rattle.std.proofs.lemmas.Bool.{and_from, and_parts, cases_Bool, cases_eq, cases_lt, eq-eqb, eqb-true, or_left, or_parts}
use Rattle.std.proofs.lemmas.List.Sums.{sum_by-cons}
use Rattle.ticket_steps.specs.declared.books.Entry.{Entry}
use Rattle.ticket_steps.specs.History.{IsLegal}
use Rattle.check_objects.specs.Configuration.{Configuration, NamedObject, objects_of}
use Rattle.check_states.specs.declared.standing.Standing.{Standing}
use Rattle.check_queue.specs.Order.{least}
use Rattle.check_queue.proofs.LeastLaws.{FoundLeast, IsLeast, all_at, all_at_least, all_filtered, any_filtered, is_no_later, is_same, least_is_found}
use Rattle.check_queue.proofs.LeastLaws.{no_later_time, or_true}
use Rattle.check_saved_state.specs.Scheduling.{OpenRun, Scheduling}
use Rattle.check_sched.specs.declared.call.Call.{Call}
use Rattle.check_sched.specs.declared.call.Call.TheVariants as call
use Rattle.check_sched.specs.declared.call.Reply.{Reply}
use Rattle.check_sched.specs.declared.call.Reply.TheVariants as reply
use Rattle.check_sched.specs.Candidate.{Candidate, candidate, candidates_among}
use Rattle.check_sched.specs.Intervals.{interval_for_standing, intervals_for, time_after}
use Rattle.check_sched.specs.PassedOver.{can_choose, chosen_by, choices_with, is_among, is_due, lets_none_in}
use Rattle.check_sched.specs.Report.{next_after, put_off_until}
use Rattle.check_sched.specs.Scheduling.{candidate_time, enabled_as, freed_time, object_after_reschedule, object_after_run, object_with_run, put_off_to}
use Rattle.check_sched.specs.Scheduling.{run_under}
use Rattle.check_sched.specs.State.{State, scheduling_at}
use Rattle.check_sched.specs.Step.{candidates, due_candidates, eligible_candidates, existing_object, is_held_back, is_startable, moment_test, new_standing_in}
use Rattle.check_sched.specs.Step.{put_off}
use Rattle.check_sched.specs.Step.{state_after_take, state_found_in, step, take_least, update_at}
use Rattle.check_sched.proofs.AnswerLaws.{by_test, known_is, under_is}
use Rattle.check_sched.proofs.EligibleLaws.{eligible_open, filtered_meet, waiting_cases}
use Rattle.check_sched.proofs.LastingLaws.{changed}
use Rattle.check_sched.proofs.OperatorLaws.{enable_cases, reschedule_cases, status_cases}
use Rattle.check_sched.proofs.ReportLaws.{report_cases}
use Rattle.check_sched.proofs.TakeLaws.{take_cases}

-- ---- what a candidate is

timed_by : (test : Candidate → Bool) (k : ℕ) (t : Option ℕ) (cs : List Candidate) → ((time : ℕ) → t ≡ Some time → test (time, k) ≡ true)
    → list_all test cs ≡ true → list_all test (cons_option (option_map (λ time. (time, k)) t) cs) ≡ true
timed_by test k None cs f h = h
timed_by test k (Some t) cs f h = and_from (test (t, k)) _ (f t refl) h

timed_from : (test : Candidate → Bool) (k : ℕ) (xs : List Scheduling)
    → ((i time : ℕ) → candidate_time (scheduling_at xs i) ≡ Some time → test (time, k + i) ≡ true)
    → list_all test (filter_map (λ p. candidate p.0 p.1) (enumerate_from k xs)) ≡ true
timed_from test k [] f = refl
timed_from test k (x ∷ xs) f =
    timed_by test k (candidate_time x) _ (λ t e. let here = f 0 t e in let at : k + 0 ≡ k = omega arith in rw at at here)
    (timed_from test (k + 1) xs (λ i t e. let more = f (suc i) t e in let at : k + suc i ≡ k + 1 + i = omega arith in rw at at more))

-- whether the object of this number waits for this time
abbrev has_its_time : List Scheduling → Candidate → Bool
has_its_time xs c = option_map_or (λ t. t == c.0) (candidate_time (scheduling_at xs c.1)) false

time_is : (t : Option ℕ) (time : ℕ) → option_map_or (λ u. u == time) t false ≡ true → t ≡ Some time
time_is None time e = cc
time_is (Some u) time e = ap Some (eqb-true u time e)

candidates_timed : (xs : List Scheduling) → list_all (has_its_time xs) (candidates_among xs) ≡ true
candidates_timed xs = timed_from (has_its_time xs) 0 xs (λ i t e.
    let at : 0 + i ≡ i = omega arith in
    let same : (t == t) ≡ true = eq-eqb t t refl in
    ap (λ j. has_its_time xs (t, j)) at ∙ ap (λ o. option_map_or (λ u. u == t) o false) e ∙ same)

eligible_timed : (now : ℕ) (s : State) → list_all (has_its_time s.objects) (eligible_candidates now s) ≡ true
eligible_timed now s =
    all_filtered (has_its_time s.objects) (λ x. is_startable s x.1) (due_candidates now s)
    (all_filtered (has_its_time s.objects) (λ x. nat_le x.0 now) (candidates s) (candidates_timed s.objects))

eligible_due : (now : ℕ) (s : State) → list_all (λ x. nat_le x.0 now) (eligible_candidates now s) ≡ true
eligible_due now s =
    all_filtered (λ x. nat_le x.0 now) (λ x. is_startable s x.1) (due_candidates now s) (filtered_meet (λ x. nat_le x.0 now) (candidates s))

free_by : (free may : Bool) (next : Option ℕ) (t : ℕ) → cond (free && may) next None ≡ Some t → (free ≡ true) × (next ≡ Some t)
free_by true true next t e = (refl, e)
free_by true false next t e = cc
free_by false may next t e = cc

none_is : (run : Option OpenRun) → is_none run ≡ true → run ≡ None
none_is None e = refl
none_is (Some r) e = cc

-- an object that waits isn't being checked, and has its time
waiting_is : (o : Scheduling) (t : ℕ) → candidate_time o ≡ Some t → (o.run ≡ None) × (o.next ≡ Some t)
waiting_is o t e = let both = free_by (is_none o.run) (o.enabled || o.forced) o.next t e in (none_is o.run both.0, both.1)

-- ---- who is a candidate

first_among : (k : ℕ) (o : Option ℕ) (t : ℕ) (cs : List Candidate) → o ≡ Some t
    → list_any (is_same (t, k + 0)) (cons_option (option_map (λ time. (time, k)) o) cs) ≡ true
first_among k None t cs e = cc
first_among k (Some u) t cs e =
    let same : t ≡ u = cc in or_left _ _ (and_from (t == u) _ (eq-eqb t u same) (eq-eqb (k + 0) k (omega arith)))

later_among : (c : Candidate) (k : ℕ) (o : Option ℕ) (cs : List Candidate) → list_any (is_same c) cs ≡ true
    → list_any (is_same c) (cons_option (option_map (λ time. (time, k)) o) cs) ≡ true
later_among c k None cs h = h
later_among c k (Some u) cs h = or_true _ _ h

among_from : (k : ℕ) (xs : List Scheduling) (i t : ℕ) → candidate_time (scheduling_at xs i) ≡ Some t
    → list_any (is_same (t, k + i)) (filter_map (λ p. candidate p.0 p.1) (enumerate_from k xs)) ≡ true
among_from k [] i t e = cc
among_from k (x ∷ xs) zero t e = first_among k (candidate_time x) t _ e
among_from k (x ∷ xs) (suc i) t e =
    let at : k + 1 + i ≡ k + suc i = omega arith in
    later_among (t, k + suc i) k (candidate_time x) _
    (ap (λ (j : ℕ). list_any (is_same (t, j)) (filter_map (λ p. candidate p.0 p.1) (enumerate_from (k + 1) xs))) (sym at) ∙ among_from (k + 1) xs i t e)

-- an object that is due and whose check may begin is among those of which a take chooses one
due_is_among : (now w t : ℕ) (s : State) → candidate_time (scheduling_at s.objects w) ≡ Some t → nat_le t now ≡ true → is_startable s w ≡ true
    → list_any (is_same (t, w)) (eligible_candidates now s) ≡ true
due_is_among now w t s e due may =
    let at : 0 + w ≡ w = omega arith in
    any_filtered (t, w) (λ x. is_startable s x.1) (due_candidates now s) may
    (any_filtered (t, w) (λ x. nat_le x.0 now) (candidates s) due
    (ap (λ (j : ℕ). list_any (is_same (t, j)) (candidates s)) (sym at) ∙ among_from 0 s.objects w t e))

due_time : (now : ℕ) (o : Option ℕ) → option_map_or (λ t. nat_le t now) o false ≡ true → (t : ℕ) × (o ≡ Some t) × (nat_le t now ≡ true)
due_time now None e = cc
due_time now (Some t) e = (t, refl, e)

-- ---- an object that comes after a time

abbrev is_later : ℕ → Option ℕ → Bool
is_later time next = option_map_or (λ t. nat_lt time t) next true

abbrev began_later : ℕ → Option OpenRun → Bool
began_later time run = option_map_or (λ r. nat_le time r.start) run true

-- whether an object isn't due up to this time: its next time is later, and its run didn't begin before
abbrev is_after : ℕ → Scheduling → Bool
is_after time o = is_later time o.next && began_later time o.run

interval_by : (time start interval : ℕ) (b : Bool) → (interval == 0) ≡ b → time ≤ start → is_later time (cond b None (Some (start + interval))) ≡ true
interval_by time start interval true e l = refl
interval_by time start interval false e l = grind (arith, nat_tests, e, l)

interval_later : (time start interval : ℕ) → time ≤ start → is_later time (time_after start interval) ≡ true
interval_later time start interval l = interval_by time start interval (interval == 0) refl l

found_later : (time start : ℕ) (interval : NamedObject → ℕ) (found : Option NamedObject) → time ≤ start
    → is_later time (option_and_then (λ o. time_after start (interval o)) found) ≡ true
found_later time start interval None l = refl
found_later time start interval (Some o) l = interval_later time start (interval o) l

until_later : (setup : Configuration) (n now time : ℕ) → time ≤ now → is_later time (put_off_until setup n now) ≡ true
until_later setup n now time l = found_later time now (λ o. (intervals_for setup o.object).check) (slice_get (objects_of setup) n) l

already_later : (time : ℕ) (already next : Option ℕ) → is_later time already ≡ true → is_later time next ≡ true → is_later time (option_or already next) ≡ true
already_later time None next e f = f
already_later time (Some t) next e f = e

report_later : (setup : Configuration) (n : ℕ) (standing : Standing) (start time : ℕ) (already : Option ℕ) → is_later time already ≡ true → time ≤ start
    → is_later time (next_after setup n standing start already) ≡ true
report_later setup n standing start time already e l =
    already_later time already _ e
    (found_later time start (λ o. interval_for_standing (intervals_for setup o.object) standing) (slice_get (objects_of setup) n) l)

freed_later : (time now : ℕ) (next : Option ℕ) → is_later time next ≡ true → time < now → nat_lt time (unwrap_or next now) ≡ true
freed_later time now None e l = grind (arith, nat_tests, l)
freed_later time now (Some t) e l = e

-- ---- one call

-- the object that is there has become what f makes of it
here_is : (P : Scheduling → Type 0) (n t : ℕ) (f : Scheduling → Scheduling) (xs : List Scheduling) → (scheduling_at xs n).next ≡ Some t
    → P (f (scheduling_at xs n)) → P (scheduling_at (update_at n f xs) n)
here_is P n t f [] e new = cc
here_is P zero t f (x ∷ xs) e new = new
here_is P (suc n) t f (x ∷ xs) e new = here_is P n t f xs e new

-- the object that a take chooses, if the take could choose the object of this number
abbrev chosen_of : Bool → Reply → Option ℕ
chosen_of could r = cond could (chosen_by r) None

module _ (w time : ℕ) where
  abbrev Waits : List Scheduling → Type 0
  Waits xs = ((scheduling_at xs w).next ≡ Some time) × ((scheduling_at xs w).run ≡ None)

  -- What a call does. The object continues waiting, unless it was chosen. What comes after it continues doing so. What was chosen came before it, and comes
  -- after it now.
  record Goes (before : List Scheduling) (chosen : Option ℕ) (after : List Scheduling) : Type 0 where
    waits : chosen ≢ Some w → Waits after
    keeps : (k : ℕ) → is_after time (scheduling_at before k) ≡ true → is_after time (scheduling_at after k) ≡ true
    moves : IfSome chosen (λ x. (is_after time (scheduling_at before x) ≡ false) × (is_after time (scheduling_at after x) ≡ true))

  stays : (could : Bool) (xs : List Scheduling) → Waits xs → Goes xs (cond could None None) xs
  stays true xs h = record { waits = λ _. h; keeps = λ k e. e; moves = tt }
  stays false xs h = record { waits = λ _. h; keeps = λ k e. e; moves = tt }

  edited : (n : ℕ) (f : Scheduling → Scheduling) (xs : List Scheduling) → Waits xs
      → (n ≡ w → (o : Scheduling) → scheduling_at xs w ≡ o → ((f o).next ≡ o.next) × ((f o).run ≡ o.run))
      → ((k : ℕ) (o : Scheduling) → n ≡ k → scheduling_at xs k ≡ o → is_after time o ≡ true → is_after time (f o) ≡ true)
      → Goes xs None (update_at n f xs)
  edited n f xs h same later = record {
    waits = λ _. changed (λ o. (o.next ≡ Some time) × (o.run ≡ None)) n w f xs h (λ here o e.
        ((same here o e).0 ∙ ap (λ x. x.next) (sym e) ∙ h.0, (same here o e).1 ∙ ap (λ x. x.run) (sym e) ∙ h.1));
    keeps = λ k is. changed (λ o. is_after time o ≡ true) n k f xs is (λ here o e. later k o here e (ap (is_after time) (sym e) ∙ is));
    moves = tt;
  }

  -- an object that isn't being checked, and isn't due later
  not_after : (o : Scheduling) (t : ℕ) → o.next ≡ Some t → t ≤ time → is_after time o ≡ false
  not_after o t e l =
      let early : nat_lt time t ≡ false = grind (arith, nat_tests, l) in
      ap (λ next. is_later time next && began_later time o.run) e ∙ ap (λ b. b && began_later time o.run) early

  chosen_goes : (could : Bool) (c : Candidate) (now : ℕ) (f : Scheduling → Scheduling) (xs : List Scheduling) → Waits xs
      → candidate_time (scheduling_at xs c.1) ≡ Some c.0 → c.0 ≤ now → (could ≡ true → (c.0 ≤ time) × (time ≤ now)) → (c.1 ≡ w → could ≡ true)
      → ((o : Scheduling) → o.run ≡ None → time ≤ now → is_after time (f o) ≡ true)
      → Goes xs (cond could (Some c.1) None) (update_at c.1 f xs)
  chosen_goes true c now f xs h is due first mine new =
      let was = waiting_is (scheduling_at xs c.1) c.0 is in
      let l = first refl in
      record {
        waits = λ other. changed (λ o. (o.next ≡ Some time) × (o.run ≡ None)) c.1 w f xs h (λ here o e. absurd (other (ap Some here)));
        keeps = λ k after. changed (λ o. is_after time o ≡ true) c.1 k f xs after (λ here o e.
            new o (ap (λ x. x.run) (sym e) ∙ ap (λ (j : ℕ). (scheduling_at xs j).run) (sym here) ∙ was.0) l.1);
        moves = (
          not_after (scheduling_at xs c.1) c.0 was.1 l.0,
          here_is (λ o. is_after time o ≡ true) c.1 c.0 f xs was.1 (new (scheduling_at xs c.1) was.0 l.1),
        );
      }
  chosen_goes false c now f xs h is due first mine new =
      let was = waiting_is (scheduling_at xs c.1) c.0 is in
      record {
        waits = λ _. changed (λ o. (o.next ≡ Some time) × (o.run ≡ None)) c.1 w f xs h (λ here o e. absurd (let clash : false ≡ true = mine here in cc));
        keeps = λ k after. changed (λ o. is_after time o ≡ true) c.1 k f xs after (λ here o e.
            let later : is_after time (scheduling_at xs c.1) ≡ true = ap (λ (j : ℕ). is_after time (scheduling_at xs j)) here ∙ after in
            let next = (and_parts (is_later time (scheduling_at xs c.1).next) _ later).0 in
            let than : nat_lt time c.0 ≡ true = ap (is_later time) (sym was.1) ∙ next in
            let less : time ≤ now = grind (arith, nat_tests, than, due) in
            new o (ap (λ x. x.run) (sym e) ∙ ap (λ (j : ℕ). (scheduling_at xs j).run) (sym here) ∙ was.0) less);
        moves = tt;
      }

  -- what a take chooses comes no later than the object that it could choose, which is due
  first_is : (now : ℕ) (s : State) (c : Candidate) → Waits s.objects → IsLeast c (eligible_candidates now s) → can_choose w s (call.Take now) ≡ true
      → (c.0 ≤ time) × (time ≤ now)
  first_is now s c h is_least could =
      let parts = and_parts (is_due now (scheduling_at s.objects w)) (is_startable s w) could in
      let due = due_time now (candidate_time (scheduling_at s.objects w)) parts.0 in
      let next : Some due.0 ≡ Some time = sym (waiting_is (scheduling_at s.objects w) due.0 due.1).1 ∙ h.0 in
      let same : due.0 ≡ time = cc in
      let order = no_later_time c (due.0, w) (all_at (is_no_later c) (due.0, w) (eligible_candidates now s)
      (due_is_among now w due.0 s due.1 due.2 parts.1) is_least.first) in
      let early : due.0 ≤ now = grind (arith, nat_tests, due.2) in
      (omega arith, omega arith)

  least_goes : (now : ℕ) (s : State) (c : Candidate) (f : Scheduling → Scheduling) → Waits s.objects → least (eligible_candidates now s) ≡ Some c
      → ((o : Scheduling) → o.run ≡ None → time ≤ now → is_after time (f o) ≡ true)
      → Goes s.objects (cond (can_choose w s (call.Take now)) (Some c.1) None) (update_at c.1 f s.objects)
  least_goes now s c f h e new =
      let is_least : IsLeast c (eligible_candidates now s) =
      subst (λ first. FoundLeast first (eligible_candidates now s)) e (least_is_found (eligible_candidates now s)) in
      let due : nat_le c.0 now ≡ true = all_at_least (λ x. nat_le x.0 now) c (eligible_candidates now s) e (eligible_due now s) in
      let timed = time_is (candidate_time (scheduling_at s.objects c.1)) c.0
      (all_at_least (has_its_time s.objects) c (eligible_candidates now s) e (eligible_timed now s)) in
      let chosen : can_choose c.1 s (call.Take now) ≡ true =
      and_from (is_due now (scheduling_at s.objects c.1)) (is_startable s c.1) (ap (λ o. option_map_or (λ t. nat_le t now) o false) timed ∙ due)
      (eligible_open now s c e) in
      chosen_goes (can_choose w s (call.Take now)) c now f s.objects h timed (grind (arith, nat_tests, due)) (first_is now s c h is_least)
      (λ here. ap (λ (j : ℕ). can_choose j s (call.Take now)) (sym here) ∙ chosen) new

  run_is : (s : State) (n run : ℕ) (x : Scheduling) (r : OpenRun) → Waits s.objects → slice_get s.objects n ≡ Some x → x.run ≡ Some r → n ≡ w → ⊥
  run_is s n run x r h there runs here =
      let same : scheduling_at s.objects n ≡ x = rw there refl in
      let none : x.run ≡ None = ap (λ o. o.run) (sym same) ∙ ap (λ (j : ℕ). (scheduling_at s.objects j).run) here ∙ h.1 in
      cc

  goes : (s : State) (c : Call) → Waits s.objects → lets_none_in w time c ≡ true
      → Goes s.objects (chosen_of (can_choose w s c) (step s c).1) (step s c).0.objects
  goes s (call.Take now) h l =
      take_cases (λ a. Goes s.objects (chosen_of (can_choose w s (call.Take now)) a.1) a.0.objects) now s
      (λ why. stays (can_choose w s (call.Take now)) s.objects h)
      (λ c m e. least_goes now s c (put_off_to (put_off_until s.setup c.1 now)) h e (λ o free le.
      and_from _ _ (until_later s.setup c.1 now time le) (ap (began_later time) free)))
      (λ c m r e. least_goes now s c (object_with_run (record { number = s.runs + 1; start = now })) h e (λ o free le.
      let began : nat_le time now ≡ true = grind (arith, nat_tests, le) in began))
      (λ e. waiting_cases (λ r. Goes s.objects (chosen_of (can_choose w s (call.Take now)) r) s.objects) now s
      (stays (can_choose w s (call.Take now)) s.objects h) (stays (can_choose w s (call.Take now)) s.objects h))
  goes s (call.Report n run code) h l = report_cases (λ a. Goes s.objects None a.0.objects) n run code s (λ why. stays true s.objects h)
      (λ x r there runs.
      let standing = new_standing_in s n (state_found_in s n code) in
      edited n (object_after_run (next_after s.setup n standing r.start x.next)) s.objects h
      (λ here. absurd (run_is s n run x r h there runs here))
      (λ k o here e after.
      let same : x ≡ o = (let there_is : scheduling_at s.objects n ≡ x = rw there refl in sym there_is ∙ ap (λ (j : ℕ). scheduling_at s.objects j) here ∙ e) in
      let parts = and_parts (is_later time o.next) (began_later time o.run) after in
      let next : is_later time x.next ≡ true = ap (λ y. is_later time y.next) same ∙ parts.0 in
      let began : nat_le time r.start ≡ true = ap (began_later time) (sym runs) ∙ ap (λ y. began_later time y.run) same ∙ parts.1 in
      and_from _ true (report_later s.setup n standing r.start time x.next next (grind (arith, nat_tests, began))) refl))
  goes s (call.Abandon n run now) h l =
      by_test (λ a. Goes s.objects None a.0.objects) s (existing_object n s) _ (λ why. stays true s.objects h)
      (λ x k. by_test (λ a. Goes s.objects None a.0.objects) s (moment_test now) _ (λ why. stays true s.objects h)
      (λ u m. by_test (λ a. Goes s.objects None a.0.objects) s (run_under run x.run) _ (λ why. stays true s.objects h)
      (λ r f.
      let there = known_is n s x k in
      edited n (object_after_run (Some (freed_time now x))) s.objects h
      (λ here. absurd (run_is s n run x r h there (under_is run x.run r f) here))
      (λ j o here e after.
      let same : x ≡ o = (let there_is : scheduling_at s.objects n ≡ x = rw there refl in sym there_is ∙ ap (λ (i : ℕ). scheduling_at s.objects i) here ∙ e) in
      let parts = and_parts (is_later time o.next) (began_later time o.run) after in
      let next : is_later time x.next ≡ true = ap (λ y. is_later time y.next) same ∙ parts.0 in
      and_from _ true (freed_later time now x.next next (grind (arith, nat_tests, l))) refl))))
  goes s (call.Reschedule n to forced) h l =
      let parts = and_parts (nat_lt time to) (not (n == w)) l in
      reschedule_cases (λ a. Goes s.objects None a.0.objects) n to forced s (λ why. stays true s.objects h)
      (λ m. edited n (object_after_reschedule to forced) s.objects h
      (λ here. absurd (let clash : not (n == w) ≡ false = ap not (eq-eqb n w here) in cc))
      (λ k o here e after. and_from _ _ parts.0 (and_parts (is_later time o.next) (began_later time o.run) after).1))
  goes s (call.Enable n on) h l = enable_cases (λ a. Goes s.objects None a.0.objects) n on s (λ why. stays true s.objects h)
      (edited n (enabled_as on) s.objects h (λ here o e. (refl, refl)) (λ k o here e after. after))
  goes s (call.Status n) h l = status_cases (λ a. Goes s.objects None a.0.objects) n s (λ why. stays true s.objects h) (λ o e. stays true s.objects h)

-- ---- how many come before

abbrev zero_if : Bool → ℕ
zero_if b = cond b 0 1

abbrev one_if : Bool → ℕ
one_if b = cond b 1 0

-- of the numbers below n, those of objects that don't come after the time
left : (ℕ → Bool) → ℕ → ℕ
left after zero = 0
left after (suc n) = left after n + zero_if (after n)

one_at_most : (b : Bool) → zero_if b ≤ 1
one_at_most true = omega arith
one_at_most false = omega arith

left_most : (after : ℕ → Bool) (n : ℕ) → left after n ≤ n
unfolding left
left_most after zero = omega arith
left_most after (suc n) = omega (arith, left_most after n, one_at_most (after n))

fewer_at : (a b : Bool) → (a ≡ true → b ≡ true) → zero_if b ≤ zero_if a
fewer_at true b h = let e : zero_if b ≡ 0 = ap zero_if (h refl) in omega (arith, e)
fewer_at false b h = one_at_most b

left_fewer : (a b : ℕ → Bool) (n : ℕ) → ((k : ℕ) → a k ≡ true → b k ≡ true) → left b n ≤ left a n
unfolding left
left_fewer a b zero h = omega arith
left_fewer a b (suc n) h = omega (arith, left_fewer a b n h, fewer_at (a n) (b n) (h n))

left_less : (a b : ℕ → Bool) (n x : ℕ) → ((k : ℕ) → a k ≡ true → b k ≡ true) → x < n → a x ≡ false → b x ≡ true → left b n + 1 ≤ left a n
unfolding left
left_less a b zero x h l e f = absurd (omega arith)
left_less a b (suc n) x h l e f = elim (cases_eq x n) [
  | inl same ↦
      let was : zero_if (a n) ≡ 1 = ap (λ (j : ℕ). zero_if (a j)) (sym same) ∙ ap zero_if e in
      let is : zero_if (b n) ≡ 0 = ap (λ (j : ℕ). zero_if (b j)) (sym same) ∙ ap zero_if f in
      omega (arith, left_fewer a b n h, was, is)
  | inr other ↦ omega (arith, left_less a b n x h (omega arith) e f, fewer_at (a n) (b n) (h n))
]

left_one : (a : ℕ → Bool) (n x : ℕ) → x < n → a x ≡ false → 1 ≤ left a n
left_one a n x l e = let less = left_less a (λ _. true) n x (λ k h. refl) l e refl in omega (arith, less)

-- ---- histories

past_end : (time : ℕ) (xs : List Scheduling) (k : ℕ) → length xs ≤ k → is_after time (scheduling_at xs k) ≡ true
past_end time [] k l = refl
past_end time (x ∷ xs) zero l = absurd (omega arith)
past_end time (x ∷ xs) (suc k) l = past_end time xs k (omega arith)

module _ (w time : ℕ) where
  -- whether each call lets no object in before the one that waits
  abbrev LetsNoneIn : List (Entry Call Reply) → Type 0
  LetsNoneIn history = list_all (λ e. lets_none_in w time e.call) history ≡ true

  first_goes : (s : State) (e : Entry Call Reply) (es : List (Entry Call Reply)) → IsLegal step s (e ∷ es) → Waits w time s.objects → LetsNoneIn (e ∷ es)
      → Goes w time s.objects (cond (can_choose w s e.call) (chosen_by e.reply) None) (step s e.call).0.objects
  first_goes s e es legal h lets =
      subst (λ r. Goes w time s.objects (chosen_of (can_choose w s e.call) r) (step s e.call).0.objects) (sym legal.0)
      (goes w time s e.call h (and_parts (lets_none_in w time e.call) _ lets).0)

  more_lets : (e : Entry Call Reply) (es : List (Entry Call Reply)) → LetsNoneIn (e ∷ es) → LetsNoneIn es
  more_lets e es lets = (and_parts (lets_none_in w time e.call) _ lets).1

  not_chosen : (chosen : Option ℕ) (more : List ℕ) → is_among w (cons_option chosen more) ≡ false → (chosen ≢ Some w) × (is_among w more ≡ false)
  not_chosen None more e = (λ f. cc, e)
  not_chosen (Some x) more e =
      let parts = or_parts (x == w) (is_among w more) e in
      (λ f. let same : x ≡ w = cc in let is : (x == w) ≡ true = eq-eqb x w same in (let clash : true ≡ false = sym is ∙ parts.0 in cc), parts.1)

  not_same : (x other : ℕ) (xs : List Scheduling) → is_after time (scheduling_at xs x) ≡ false → is_after time (scheduling_at xs other) ≡ true → (x == other) ≡ false
  not_same x other xs e f = elim (cases_Bool (x == other)) [
    | inl same ↦ (let clash : false ≡ true = sym e ∙ ap (λ (j : ℕ). is_after time (scheduling_at xs j)) (eqb-true x other same) ∙ f in cc)
    | inr apart ↦ apart
  ]

  count_more : (other : ℕ) (chosen : Option ℕ) (more : List ℕ)
      → count_by (λ n. n == other) (cons_option chosen more) ≡ option_map_or (λ n. one_if (n == other)) chosen 0 + count_by (λ n. n == other) more
  count_more other None more = omega arith
  count_more other (Some x) more = sum_by-cons (λ n. one_if (n == other)) x more

  -- what the first call's choice adds to the choices of an object that comes after the time
  none_first : (other : ℕ) (chosen : Option ℕ) (before after : List Scheduling) → Goes w time before chosen after
      → is_after time (scheduling_at before other) ≡ true → option_map_or (λ n. one_if (n == other)) chosen 0 ≡ 0
  none_first other None before after go is = refl
  none_first other (Some x) before after go is = ap one_if (not_same x other before go.moves.0 is)

  -- an object that comes after the time isn't chosen
  none_chosen : (s : State) (history : List (Entry Call Reply)) (other : ℕ) → IsLegal step s history → Waits w time s.objects → LetsNoneIn history
      → is_among w (choices_with w s history) ≡ false → is_after time (scheduling_at s.objects other) ≡ true
      → count_by (λ n. n == other) (choices_with w s history) ≡ 0
  none_chosen s [] other legal h lets not is = refl
  none_chosen s (e ∷ es) other legal h lets not is =
      let chosen = cond (can_choose w s e.call) (chosen_by e.reply) None in
      let go = first_goes s e es legal h lets in
      let apart = not_chosen chosen (choices_with w (step s e.call).0 es) not in
      let more = none_chosen (step s e.call).0 es other legal.1 (go.waits apart.0) (more_lets e es lets) apart.1 (go.keeps other is) in
      let first = none_first other chosen s.objects (step s e.call).0.objects go is in
      let sum = count_more other chosen (choices_with w (step s e.call).0 es) in
      omega (arith, more, first, sum)

  one_by : (other : ℕ) (chosen : Option ℕ) (before after : List Scheduling) (count : ℕ) → Goes w time before chosen after → count ≤ 1
      → (is_after time (scheduling_at after other) ≡ true → count ≡ 0) → option_map_or (λ n. one_if (n == other)) chosen 0 + count ≤ 1
  one_by other None before after count go most none = omega arith
  one_by other (Some x) before after count go most none = elim (cases_Bool (x == other)) [
    | inl same ↦
        let is : is_after time (scheduling_at after other) ≡ true = ap (λ (j : ℕ). is_after time (scheduling_at after j)) (sym (eqb-true x other same)) ∙ go.moves.1 in
        let one : one_if (x == other) ≡ 1 = ap one_if same in
        omega (arith, none is, one)
    | inr apart ↦ (let one : one_if (x == other) ≡ 0 = ap one_if apart in omega (arith, one))
  ]

  pub chosen_once : (s : State) (history : List (Entry Call Reply)) (other : ℕ) → IsLegal step s history → Waits w time s.objects → LetsNoneIn history
      → is_among w (choices_with w s history) ≡ false → count_by (λ n. n == other) (choices_with w s history) ≤ 1
  chosen_once s [] other legal h lets not = omega arith
  chosen_once s (e ∷ es) other legal h lets not =
      let chosen = cond (can_choose w s e.call) (chosen_by e.reply) None in
      let later = choices_with w (step s e.call).0 es in
      let go = first_goes s e es legal h lets in
      let apart = not_chosen chosen later not in
      let most = chosen_once (step s e.call).0 es other legal.1 (go.waits apart.0) (more_lets e es lets) apart.1 in
      let sum = count_more other chosen later in
      let one = one_by other chosen s.objects (step s e.call).0.objects (count_by (λ n. n == other) later) go most
      (λ is. none_chosen (step s e.call).0 es other legal.1 (go.waits apart.0) (more_lets e es lets) apart.1 is) in
      omega (arith, sum, one)

  -- the object that waits doesn't come after its own time
  own_time : (xs : List Scheduling) → Waits w time xs → is_after time (scheduling_at xs w) ≡ false
  own_time xs h = not_after w time (scheduling_at xs w) time h.0 (omega arith)

  -- numbers from n on have no object that comes before
  abbrev NoneFrom : ℕ → List Scheduling → Type 0
  NoneFrom n xs = (k : ℕ) → n ≤ k → is_after time (scheduling_at xs k) ≡ true

  below : (n x : ℕ) (xs : List Scheduling) → NoneFrom n xs → is_after time (scheduling_at xs x) ≡ false → x < n
  below n x xs none e = elim (cases_lt x n) [
    | inl less ↦ less
    | inr past ↦ (let clash : true ≡ false = sym (none x past) ∙ e in cc)
  ]

  most_by : (n : ℕ) (chosen : Option ℕ) (more : List ℕ) (before after : List Scheduling) → Goes w time before chosen after → NoneFrom n before
      → length more + 1 ≤ left (λ k. is_after time (scheduling_at after k)) n
      → length (cons_option chosen more) + 1 ≤ left (λ k. is_after time (scheduling_at before k)) n
  most_by n None more before after go none most =
      omega (arith, most, left_fewer (λ k. is_after time (scheduling_at before k)) (λ k. is_after time (scheduling_at after k)) n go.keeps)
  most_by n (Some x) more before after go none most =
      omega (
        arith,
        most,
        left_less (λ k. is_after time (scheduling_at before k)) (λ k. is_after time (scheduling_at after k)) n x go.keeps
            (below n x before none go.moves.0) go.moves.0 go.moves.1,
      )

  -- each choice leaves one object less before the one that waits
  few_chosen : (n : ℕ) (s : State) (history : List (Entry Call Reply)) → IsLegal step s history → Waits w time s.objects → LetsNoneIn history
      → is_among w (choices_with w s history) ≡ false → NoneFrom n s.objects
      → length (choices_with w s history) + 1 ≤ left (λ k. is_after time (scheduling_at s.objects k)) n
  few_chosen n s [] legal h lets not none =
      left_one (λ k. is_after time (scheduling_at s.objects k)) n w (below n w s.objects none (own_time s.objects h)) (own_time s.objects h)
  few_chosen n s (e ∷ es) legal h lets not none =
      let chosen = cond (can_choose w s e.call) (chosen_by e.reply) None in
      let later = choices_with w (step s e.call).0 es in
      let go = first_goes s e es legal h lets in
      let apart = not_chosen chosen later not in
      most_by n chosen later s.objects (step s e.call).0.objects go none
      (few_chosen n (step s e.call).0 es legal.1 (go.waits apart.0) (more_lets e es lets) apart.1 (λ k l. go.keeps k (none k l)))

  pub chosen_at_last : (s : State) (history : List (Entry Call Reply)) → IsLegal step s history → Waits w time s.objects → LetsNoneIn history
      → length s.objects ≤ length (choices_with w s history) → is_among w (choices_with w s history) ≡ true
  chosen_at_last s history legal h lets many = elim (cases_Bool (is_among w (choices_with w s history))) [
    | inl is ↦ is
    | inr not ↦ absurd (omega (
      arith,
      many,
      few_chosen (length s.objects) s history legal h lets not (λ k l. past_end time s.objects k l),
      left_most (λ k. is_after time (scheduling_at s.objects k)) (length s.objects),
    ))
  ]

-- ---- a take that can choose

taken_or_put_off : (now n : ℕ) (s : State) (held : Bool)
    → is_some (chosen_by (cond {A = State × Reply} held (put_off now n s, reply.PutOff n (put_off_until s.setup n now))
    (state_after_take now n s, reply.Taken n (s.runs + 1))).1) ≡ true
taken_or_put_off now n s true = refl
taken_or_put_off now n s false = refl

least_chosen : (w now : ℕ) (s : State) (first : Option Candidate) → FoundLeast first (eligible_candidates now s) → can_choose w s (call.Take now) ≡ true
    → is_some (chosen_by (take_least now s first).1) ≡ true
least_chosen w now s None none could =
    let parts = and_parts (is_due now (scheduling_at s.objects w)) (is_startable s w) could in
    let due = due_time now (candidate_time (scheduling_at s.objects w)) parts.0 in
    let among = due_is_among now w due.0 s due.1 due.2 parts.1 in
    let empty : list_any (is_same (due.0, w)) (eligible_candidates now s) ≡ false = ap (list_any (is_same (due.0, w))) none in
    cc
least_chosen w now s (Some c) is could = taken_or_put_off now c.1 s (is_held_back s c.1)

-- a take that can choose an object chooses one, unless it is refused
pub chooses : (s : State) (w now : ℕ) → can_choose w s (call.Take now) ≡ true → now ≤ 2 ^ 60 → s.runs < 2 ^ 60
    → is_some (chosen_by (step s (call.Take now)).1) ≡ true
chooses s w now could moment left =
    let early : nat_lt (2 ^ 60) now ≡ false = grind (arith, nat_tests, moment) in
    let fewer : nat_lt s.runs (2 ^ 60) ≡ true = grind (arith, nat_tests, left) in
    rw (early, fewer) (least_chosen w now s (least (eligible_candidates now s)) (least_is_found (eligible_candidates now s)) could)
