-- An object that is checked at intervals always has a next check. Where an object loses its next check, the reply says so.
use Rattle.std.proofs.Common.{◌≡◌, ◌≢◌, ◌⊎◌, ℕ, zero, suc, ◌+◌, ◌*◌, ◌<◌, ◌++◌, Bool, true, false, cond, not, List, [], ◌∷◌, map, Option, Some, None, refl, sym}
use Rattle.std.proofs.Common.{ap, ◌∙◌, subst, inl, inr, ⊎_elim}
use Rattle.std.proofs.Common.{arith, ne_eqb, is_some, option_and_then}
use Rattle.std.proofs.lemmas.List.{map-append}
use Rattle.std.specs.Prelude.{slice_get, zip, ◌||◌, ◌&&◌}
use Rattle.std.specs.List.{enumerate_from}
use Rattle.std.specs.Option.{option_or}
use Rattle.setup_model.specs.declared.parsed_setup.Object.{Object}
use Rattle.check_objects.specs.Configuration.{Configuration, Host, NamedObject, Service, named_host, named_service, objects_of}
use Rattle.check_states.specs.declared.standing.Standing.{Standing}
use Rattle.check_states.specs.declared.state.Code.{Code}
use Rattle.check_states.specs.Standing.{is_soft_problem}
use Rattle.check_states.specs.State.{is_another_state}
use Rattle.check_spread.specs.Spread.{first_time, first_times, host_objects, host_spread, initial_times, is_scheduled, service_objects, service_spread}
use Rattle.check_saved_state.specs.Scheduling.{OpenRun, Scheduling}
use Rattle.check_sched.specs.declared.call.Call.{Call}
use Rattle.check_sched.specs.declared.call.Call.TheVariants as call
use Rattle.check_sched.specs.declared.call.Reply.{Reply}
use Rattle.check_sched.specs.declared.call.Reply.TheVariants as reply
use Rattle.check_sched.specs.declared.intervals.Intervals.{Intervals}
use Rattle.check_sched.specs.Intervals.{interval_for_standing, intervals_for, time_after}
use Rattle.check_sched.specs.Lasting.{IsCheckedAtIntervals, ShowsNoTime, has_next_check}
use Rattle.check_sched.specs.Report.{next_after, put_off_until}
use Rattle.check_sched.specs.Scheduling.{enabled_as, object_after_run, opening_object, put_off_to}
use Rattle.check_sched.specs.State.{State, opening, scheduling_at, standing_at}
use Rattle.check_sched.specs.Step.{after, new_standing_in, state_found_in, step, update_at}
use Rattle.check_sched.proofs.OperatorLaws.{abandon_cases, enable_cases, reschedule_cases, status_cases}
use Rattle.check_sched.proofs.ReportLaws.{report_cases}
use Rattle.check_sched.proofs.StepLaws.{step_keeps}
use Rattle.check_sched.proofs.TakeLaws.{take_cases}

-- ---- one object changed

-- what is true of an object after one was changed: of the same object as it was, or of what it became
pub changed : (P : Scheduling → Type 0) (n k : ℕ) (f : Scheduling → Scheduling) (xs : List Scheduling) → P (scheduling_at xs k)
    → (n ≡ k → (o : Scheduling) → scheduling_at xs k ≡ o → P (f o)) → P (scheduling_at (update_at n f xs) k)
changed P n k f [] was new = was
changed P zero zero f (x ∷ xs) was new = new refl x refl
changed P zero (suc k) f (x ∷ xs) was new = was
changed P (suc n) zero f (x ∷ xs) was new = was
changed P (suc n) (suc k) f (x ∷ xs) was new = changed P n k f xs was (λ e. new (ap suc e))

-- a time or none
timed_or_not : (next : Option ℕ) (run : Option OpenRun) → ((is_some next || is_some run) ≡ true) ⊎ (next ≡ None)
timed_or_not None run = inr refl
timed_or_not (Some t) run = inl refl

-- ---- what a call says

module _ (number : ℕ) where
  abbrev Has : State → Type 0
  Has s = has_next_check (scheduling_at s.objects number) ≡ true

  -- the object has a next check, or the reply says that it has no time
  abbrev HasOrShows : Call → State × Reply → Type 0
  HasOrShows c a = Has a.0 ⊎ ShowsNoTime number c a.1

  put_off_shows : (c : Call) (n : ℕ) (until : Option ℕ) (s : State) → Has s
      → (has_next_check (scheduling_at (update_at n (put_off_to until) s.objects) number) ≡ true) ⊎ ShowsNoTime number c (reply.PutOff n until)
  put_off_shows c n until s was =
      changed (λ o. (has_next_check o ≡ true) ⊎ ShowsNoTime number c (reply.PutOff n until)) n number (put_off_to until) s.objects (inl was)
      (λ here o _. ⊎_elim (λ some. inl some) (λ none. inr (here, none)) (timed_or_not until o.run))

  report_shows : (n run : ℕ) (code : Code) (standing : Standing) (has_changed : Bool) (next : Option ℕ) (s : State) → Has s
      → (has_next_check (scheduling_at (update_at n (object_after_run next) s.objects) number) ≡ true)
      ⊎ ShowsNoTime number (call.Report n run code) (reply.Standing standing has_changed next)
  report_shows n run code standing has_changed next s was =
      changed (λ o. (has_next_check o ≡ true) ⊎ ShowsNoTime number (call.Report n run code) (reply.Standing standing has_changed next)) n number
      (object_after_run next) s.objects (inl was) (λ here o _. ⊎_elim (λ some. inl some) (λ none. inr (here, none)) (timed_or_not next None))

  -- an object that gets a time has a next check
  has_changed_to : (n : ℕ) (f : Scheduling → Scheduling) (s : State) → Has s → ((o : Scheduling) → has_next_check o ≡ true → has_next_check (f o) ≡ true)
      → has_next_check (scheduling_at (update_at n f s.objects) number) ≡ true
  has_changed_to n f s was new =
      changed (λ o. has_next_check o ≡ true) n number f s.objects was (λ here o is. new o (ap has_next_check (sym is) ∙ was))

  step_shows : (s : State) (c : Call) → Has s → HasOrShows c (step s c)
  step_shows s (call.Take now) was = take_cases (HasOrShows (call.Take now)) now s (λ why. inl was)
      (λ c m e. put_off_shows (call.Take now) c.1 (put_off_until s.setup c.1 now) s was)
      (λ c m r e. inl (has_changed_to c.1 _ s was (λ o h. refl))) (λ e. inl was)
  step_shows s (call.Report n run code) was = report_cases (HasOrShows (call.Report n run code)) n run code s (λ why. inl was)
      (λ o r e f.
      let standing = new_standing_in s n (state_found_in s n code) in
      report_shows n run code standing (is_another_state standing.state (standing_at s.standings n).state) (next_after s.setup n standing r.start o.next) s was)
  step_shows s (call.Abandon n run now) was = abandon_cases (HasOrShows (call.Abandon n run now)) n run now s (λ why. inl was)
      (λ o e m. inl (has_changed_to n _ s was (λ x h. refl)))
  step_shows s (call.Reschedule n time forced) was = reschedule_cases (HasOrShows (call.Reschedule n time forced)) n time forced s (λ why. inl was)
      (λ m. inl (has_changed_to n _ s was (λ x h. refl)))
  step_shows s (call.Enable n on) was = enable_cases (HasOrShows (call.Enable n on)) n on s (λ why. inl was)
      (inl (has_changed_to n (enabled_as on) s was (λ x h. h)))
  step_shows s (call.Status n) was = status_cases (HasOrShows (call.Status n)) n s (λ why. inl was) (λ o e. inl was)

  -- where a call takes the next check from an object, its reply says so
  pub lost_is_shown : (s : State) (c : Call) → Has s → has_next_check (scheduling_at (step s c).0.objects number) ≡ false → ShowsNoTime number c (step s c).1
  lost_is_shown s c was lost = ⊎_elim (λ (has : Has (step s c).0). let no : true ≡ false = sym has ∙ lost in absurd (cc))
      (λ (shows : ShowsNoTime number c (step s c).1). shows) (step_shows s c was)

-- ---- what lasts

-- an interval above 0 ends at some time
ends_at : (start interval : ℕ) → 0 < interval → is_some (time_after start interval) ≡ true
ends_at start interval lt =
    let not_zero : interval ≢ 0 = λ e. omega (arith, lt, e) in
    ap (λ (b : Bool). is_some (cond b None (Some (start + interval)))) (ne_eqb interval 0 not_zero)

some_time : (next : Option ℕ) (run : Option OpenRun) → is_some next ≡ true → (is_some next || is_some run) ≡ true
some_time None run h = absurd (cc)
some_time (Some t) run h = refl

already_or : (already next : Option ℕ) → is_some next ≡ true → is_some (option_or already next) ≡ true
already_or None next h = h
already_or (Some t) next h = refl

by_standing : (intervals : Intervals) (soft : Bool) → 0 < intervals.check → 0 < intervals.retry → 0 < cond soft intervals.retry intervals.check
by_standing intervals true check retry = retry
by_standing intervals false check retry = check

module _ (setup : Configuration) (number : ℕ) (at : IsCheckedAtIntervals setup number) where
  put_off_timed : (now : ℕ) → is_some (put_off_until setup number now) ≡ true
  put_off_timed now =
      ap (λ (found : Option NamedObject). is_some (option_and_then (λ o. time_after now (intervals_for setup o.object).check) found)) at.there
      ∙ ends_at now (intervals_for setup at.object.object).check at.check

  report_timed : (standing : Standing) (start : ℕ) (already : Option ℕ) → is_some (next_after setup number standing start already) ≡ true
  report_timed standing start already = already_or already _
      (ap (λ (found : Option NamedObject). is_some (option_and_then (λ o. time_after start (interval_for_standing (intervals_for setup o.object) standing)) found)) at.there
      ∙ ends_at start (interval_for_standing (intervals_for setup at.object.object) standing)
      (by_standing (intervals_for setup at.object.object) (is_soft_problem standing) at.check at.retry))

module _ (number : ℕ) where
  changed_timed : (n : ℕ) (f : Scheduling → Scheduling) (s : State) → Has number s → (n ≡ number → (o : Scheduling) → has_next_check (f o) ≡ true)
      → has_next_check (scheduling_at (update_at n f s.objects) number) ≡ true
  changed_timed n f s was new = changed (λ o. has_next_check o ≡ true) n number f s.objects was (λ here o is. new here o)

  step_lasts : (s : State) (c : Call) → IsCheckedAtIntervals s.setup number → Has number s → Has number (step s c).0
  step_lasts s (call.Take now) at was = take_cases (λ a. Has number a.0) now s (λ why. was)
      (λ c m e. changed_timed c.1 (put_off_to (put_off_until s.setup c.1 now)) s was (λ here o.
      some_time (put_off_until s.setup c.1 now) o.run (ap (λ (k : ℕ). is_some (put_off_until s.setup k now)) here ∙ put_off_timed s.setup number at now)))
      (λ c m r e. has_changed_to number c.1 _ s was (λ o h. refl)) (λ e. was)
  step_lasts s (call.Report n run code) at was = report_cases (λ a. Has number a.0) n run code s (λ why. was)
      (λ o r e f.
      let standing = new_standing_in s n (state_found_in s n code) in
      changed_timed n (object_after_run (next_after s.setup n standing r.start o.next)) s was (λ here x.
      some_time (next_after s.setup n standing r.start o.next) None
      (ap (λ (k : ℕ). is_some (next_after s.setup k standing r.start o.next)) here ∙ report_timed s.setup number at standing r.start o.next)))
  step_lasts s (call.Abandon n run now) at was = abandon_cases (λ a. Has number a.0) n run now s (λ why. was)
      (λ o e m. has_changed_to number n _ s was (λ x h. refl))
  step_lasts s (call.Reschedule n time forced) at was = reschedule_cases (λ a. Has number a.0) n time forced s (λ why. was)
      (λ m. has_changed_to number n _ s was (λ x h. refl))
  step_lasts s (call.Enable n on) at was = enable_cases (λ a. Has number a.0) n on s (λ why. was) (has_changed_to number n (enabled_as on) s was (λ x h. h))
  step_lasts s (call.Status n) at was = status_cases (λ a. Has number a.0) n s (λ why. was) (λ o e. was)

  pub after_lasts : (s : State) (calls : List Call) → IsCheckedAtIntervals s.setup number → Has number s → Has number (after s calls)
  after_lasts s [] at was = was
  after_lasts s (c ∷ calls) at was = after_lasts (step s c).0 calls
      (subst (λ (setup : Configuration). IsCheckedAtIntervals setup number) (sym (step_keeps s c).setup) at) (step_lasts s c at was)

-- ---- the opening

-- there is a time for each object that is scheduled
abbrev Timed : List (Option ℕ) → List Object → Type 0
Timed [] [] = Unit {0}
Timed [] (o ∷ os) = ⊥
Timed (t ∷ ts) [] = ⊥
Timed (t ∷ ts) (o ∷ os) = (is_scheduled o ≡ true → is_some t ≡ true) × Timed ts os

timed_append : (ts ts' : List (Option ℕ)) (os os' : List Object) → Timed ts os → Timed ts' os' → Timed (ts ++ ts') (os ++ os')
timed_append [] ts' [] os' h h' = h'
timed_append [] ts' (o ∷ os) os' h h' = absurd h
timed_append (t ∷ ts) ts' [] os' h h' = absurd h
timed_append (t ∷ ts) ts' (o ∷ os) os' h h' = (h.0, timed_append ts ts' os os' h.1 h')

timed_from : (first : ℕ → Object → Option ℕ) → ((n : ℕ) (o : Object) → is_scheduled o ≡ true → is_some (first n o) ≡ true) → (k : ℕ) (os : List Object)
    → Timed (map (λ p. first p.0 p.1) (enumerate_from k os)) os
timed_from first timed k [] = tt
timed_from first timed k (o ∷ os) = (timed k o, timed_from first timed (k + 1) os)

timed_if : (scheduled : Bool) (time : ℕ) → scheduled ≡ true → is_some (cond scheduled (Some time) None) ≡ true
timed_if true time h = refl
timed_if false time h = absurd (cc)

host_parts : (hs : List Host) → map (λ h. h.object) hs ≡ map (λ o. o.object) (map named_host hs)
host_parts [] = refl
host_parts (h ∷ hs) = ap (λ (l : List Object). h.object ∷ l) (host_parts hs)

service_parts : (ss : List Service) → map (λ s. s.object) ss ≡ map (λ o. o.object) (map named_service ss)
service_parts [] = refl
service_parts (s ∷ ss) = ap (λ (l : List Object). s.object ∷ l) (service_parts ss)

-- the objects of both sorts are those of the setup
parts : (setup : Configuration) → host_objects setup ++ service_objects setup ≡ map (λ o. o.object) (objects_of setup)
parts setup =
    (λ i. host_parts setup.hosts i ++ service_parts setup.services i)
    ∙ sym (map-append (λ o. o.object) (map named_host setup.hosts) (map named_service setup.services))

first_timed : (setup : Configuration) (start : ℕ) → Timed (initial_times setup start) (map (λ o. o.object) (objects_of setup))
unfolding initial_times
first_timed setup start = subst (Timed (initial_times setup start)) (parts setup)
    (timed_append (first_times (host_spread setup start) (host_objects setup)) (first_times (service_spread setup start) (service_objects setup))
    (host_objects setup) (service_objects setup)
    (timed_from (first_time (host_spread setup start) (host_objects setup)) (λ n o scheduled. timed_if (is_scheduled o) _ scheduled) 0 (host_objects setup))
    (timed_from (first_time (service_spread setup start) (service_objects setup)) (λ n o scheduled. timed_if (is_scheduled o) _ scheduled) 0
    (service_objects setup)))

opened_has : (ts : List (Option ℕ)) (os : List NamedObject) (n : ℕ) (o : NamedObject) → Timed ts (map (λ x. x.object) os) → slice_get os n ≡ Some o
    → is_scheduled o.object ≡ true → has_next_check (scheduling_at (map (λ p. opening_object p.0 p.1.object.enabled) (zip ts os)) n) ≡ true
opened_has [] [] n o timed at scheduled = absurd (cc)
opened_has [] (x ∷ os) n o timed at scheduled = absurd timed
opened_has (t ∷ ts) [] n o timed at scheduled = absurd timed
opened_has (t ∷ ts) (x ∷ os) zero o timed at scheduled =
    let same : x ≡ o = cc in some_time t None (timed.0 (ap (λ (y : NamedObject). is_scheduled y.object) same ∙ scheduled))
opened_has (t ∷ ts) (x ∷ os) (suc n) o timed at scheduled = opened_has ts os n o timed.1 at scheduled

-- an object with a check interval that is enabled is scheduled
is_first : (setup : Configuration) (o : Object) → o.enabled ≡ true → 0 < (intervals_for setup o).check → is_scheduled o ≡ true
is_first setup o enabled check =
    let not_zero : o.check_interval ≢ 0 = λ e.
    let none : (intervals_for setup o).check ≡ 0 * setup.options.interval_length * 1000 = ap (λ (i : ℕ). i * setup.options.interval_length * 1000) e in
    omega (arith, check, none) in
    (λ i. enabled i && not (ne_eqb o.check_interval 0 not_zero i))

pub opened_lasts : (setup : Configuration) (start number : ℕ) (calls : List Call) (at : IsCheckedAtIntervals setup number) → at.object.object.enabled ≡ true
    → has_next_check (scheduling_at (after (opening setup start) calls).objects number) ≡ true
opened_lasts setup start number calls at enabled = after_lasts number (opening setup start) calls at
    (opened_has (initial_times setup start) (objects_of setup) number at.object (first_timed setup start) at.there
    (is_first setup at.object.object enabled at.check))
