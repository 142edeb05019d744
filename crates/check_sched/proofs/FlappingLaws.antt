-- Flapping by a history: what a state has of an object's results is what its history says.
use Rattle.std.proofs.Common.{◌≡◌, ◌≢◌, ℕ, zero, suc, ◌+◌, ◌-◌, ◌<◌, ◌≤◌, ◌==◌, Bool, true, false, cond, List, [], ◌∷◌, ◌++◌, length, map, drop, min}
use Rattle.std.proofs.Common.{replicate, Option, Some, None, refl, sym, ap, subst, ◌∙◌, arith}
use Rattle.std.specs.Prelude.{unwrap_or, zip}
use Rattle.std.specs.List.{cons_option, enumerate_from}
use Rattle.std.proofs.lemmas.Bool.{eqb-true, eq-eqb}
use Rattle.std.proofs.lemmas.List.{append-nil, append_assoc, drop-append-le, drop-drop, length-append, length-drop, length-map, length-replicate}
use Rattle.std.proofs.lemmas.Option.{slice_get_within}
use Rattle.std.proofs.lemmas.Slice.Zip.{length-zip}
use Rattle.circular_buffer.specs.Buffer.{keep_last}
use Rattle.ticket_steps.specs.declared.books.Entry.{Entry}
use Rattle.ticket_steps.specs.History.{replay, IsLegal}
use Rattle.check_objects.specs.Configuration.{Configuration, NamedObject, object_count, objects_of}
use Rattle.check_states.specs.declared.state.State as rules
use Rattle.check_states.specs.declared.standing.Standing.{Standing}
use Rattle.check_states.specs.declared.flapping.TheConstants.{STORED_RESULTS}
use Rattle.check_states.specs.Flapping.{results_after}
use Rattle.check_states.specs.Standing.{pending_standing}
use Rattle.check_spread.specs.Spread.{initial_times}
use Rattle.check_sched.specs.declared.call.Call.{Call}
use Rattle.check_sched.specs.declared.call.Call.TheVariants as call
use Rattle.check_sched.specs.declared.call.Reply.{Reply}
use Rattle.check_sched.specs.Report.{next_after}
use Rattle.check_sched.specs.Scheduling.{object_after_run}
use Rattle.check_saved_state.specs.Scheduling.{Scheduling}
use Rattle.check_sched.specs.State.{State, flap_thresholds_of, is_host, opening, opening_objects, opening_results, results_at, standing_at}
use Rattle.check_sched.specs.Step.{state_found_in, new_standing_in, state_after_report, step, update_at}
use Rattle.check_sched.specs.Flapping.{Flapping, flapping_in, never_checked, reported_states, reported_state, with_result, with_results}
use Rattle.check_sched.proofs.OpeningLaws.{length-opening_standings}
use Rattle.check_sched.proofs.OperatorLaws.{abandon_cases, enable_cases, reschedule_cases, status_cases}
use Rattle.check_sched.proofs.ReportLaws.{report_cases}
use Rattle.check_sched.proofs.StepLaws.{step_keeps}
use Rattle.check_sched.proofs.TakeLaws.{take_cases}
use Rattle.check_sched.proofs.UpdateLaws.{length-update_at, update_at_apart}

-- ---- a place for each object

-- each object has its standing and its results
abbrev pub HasPlaces : State → Type 0
HasPlaces s = (length s.objects ≤ length s.standings) × (length s.objects ≤ length s.results)

object_changed : (n : ℕ) (f : Scheduling → Scheduling) (s : State) → HasPlaces s
    → (length (update_at n f s.objects) ≤ length s.standings) × (length (update_at n f s.objects) ≤ length s.results)
object_changed n f s was = let same = length-update_at n f s.objects in (omega (arith, same, was.0), omega (arith, same, was.1))

object_reported : (n : ℕ) (found : rules.State) (standing : Standing) (next : Option ℕ) (s : State) → HasPlaces s → HasPlaces (state_after_report n found standing next s)
object_reported n found standing next s was =
    let objects = object_changed n (object_after_run next) s was in
    let standings = length-update_at n (λ (before : Standing). standing) s.standings in
    let results = length-update_at n (λ kept. results_after kept found) s.results in
    (omega (arith, objects.0, standings), omega (arith, objects.1, results))

step_places : (s : State) (c : Call) → HasPlaces s → HasPlaces (step s c).0
step_places s (call.Take now) was =
    take_cases (λ a. HasPlaces a.0) now s (λ why. was) (λ c m e. object_changed c.1 _ s was) (λ c m r e. object_changed c.1 _ s was) (λ e. was)
step_places s (call.Report n run c) was = report_cases (λ a. HasPlaces a.0) n run c s (λ why. was) (λ o r e f. object_reported n _ _ _ s was)
step_places s (call.Abandon n run now) was = abandon_cases (λ a. HasPlaces a.0) n run now s (λ why. was) (λ o e m. object_changed n _ s was)
step_places s (call.Reschedule n time forced) was = reschedule_cases (λ a. HasPlaces a.0) n time forced s (λ why. was) (λ m. object_changed n _ s was)
step_places s (call.Enable n on) was = enable_cases (λ a. HasPlaces a.0) n on s (λ why. was) (object_changed n _ s was)
step_places s (call.Status n) was = status_cases (λ a. HasPlaces a.0) n s (λ why. was) (λ o e. was)

opening_places : (setup : Configuration) (start : ℕ) → HasPlaces (opening setup start)
opening_places setup start =
    let times = initial_times setup start in
    let objects : length (opening_objects setup start) ≡ min (length times) (object_count setup) =
    length-map (zip times (objects_of setup)) _ ∙ length-zip times (objects_of setup) in
    let standings = length-opening_standings setup in
    let results : length (opening_results setup) ≡ object_count setup = length-replicate (object_count setup) [] in
    (omega (arith, objects, standings), omega (arith, objects, results))

-- ---- one call

pub results_here : (xs : List (List rules.State)) (n : ℕ) (found : rules.State) → n < length xs
    → results_at (update_at n (λ kept. results_after kept found) xs) n ≡ results_after (results_at xs n) found
results_here [] n found l = absurd (omega arith)
results_here (x ∷ xs) zero found l = refl
results_here (x ∷ xs) (suc n) found l = results_here xs n found (omega arith)

pub standing_here : (xs : List Standing) (n : ℕ) (t : Standing) → n < length xs → standing_at (update_at n (λ before. t) xs) n ≡ t
standing_here [] n t l = absurd (omega arith)
standing_here (x ∷ xs) zero t l = refl
standing_here (x ∷ xs) (suc n) t l = standing_here xs n t (omega arith)

-- the object that a report is of has one result more
reported_here : (s : State) (n : ℕ) (found : rules.State) (next : Option ℕ) → n < length s.standings → n < length s.results
    → flapping_in (state_after_report n found (new_standing_in s n found) next s) n ≡ with_result (flap_thresholds_of s.setup n) (flapping_in s n) found
reported_here s n found next l m i = record {
  results = results_here s.results n found m i;
  flapping = (standing_here s.standings n (new_standing_in s n found) l i).flapping;
}

-- any other is as it was
reported_apart : (s : State) (n object : ℕ) (found : rules.State) (standing : Standing) (next : Option ℕ) → n ≢ object
    → flapping_in (state_after_report n found standing next s) object ≡ flapping_in s object
reported_apart s n object found standing next h i = record {
  results = unwrap_or (update_at_apart n object (λ kept. results_after kept found) s.results h i) [];
  flapping = (unwrap_or (update_at_apart n object (λ (before : Standing). standing) s.standings h i) (pending_standing true)).flapping;
}

-- after one result more, or after none
abbrev with_reported : ℕ × ℕ → Flapping → Option rules.State → Flapping
with_reported thresholds was None = was
with_reported thresholds was (Some found) = with_result thresholds was found

reported_by : (s : State) (n object : ℕ) (found : rules.State) (next : Option ℕ) (same : Bool) → (n == object) ≡ same
    → n < length s.standings → n < length s.results
    → flapping_in (state_after_report n found (new_standing_in s n found) next s) object
    ≡ with_reported (flap_thresholds_of s.setup object) (flapping_in s object) (cond same (Some found) None)
reported_by s n object found next true e l m =
    subst (λ k. flapping_in (state_after_report n found (new_standing_in s n found) next s) k ≡ with_result (flap_thresholds_of s.setup k) (flapping_in s k) found)
    (eqb-true n object e) (reported_here s n found next l m)
reported_by s n object found next false e l m =
    reported_apart s n object found (new_standing_in s n found) next (λ same. let clash : true ≡ false = sym (eq-eqb n object same) ∙ e in cc)

-- what a call leaves of an object, by what its answer says
abbrev Adds : State → ℕ → Call → State × Reply → Type 0
Adds s object c a = flapping_in a.0 object ≡ with_reported (flap_thresholds_of s.setup object) (flapping_in s object) (reported_state object c a.1)

step_flapping : (s : State) (object : ℕ) (c : Call) → HasPlaces s → Adds s object c (step s c)
step_flapping s object (call.Take now) saved_indexes =
    take_cases (Adds s object (call.Take now)) now s (λ why. refl) (λ c m e. refl) (λ c m r e. refl) (λ e. refl)
step_flapping s object (call.Report n run c) saved_indexes =
    report_cases (Adds s object (call.Report n run c)) n run c s (λ why. refl)
    (λ o r e f. let in_range = slice_get_within s.objects n o e in
    let next = next_after s.setup n (new_standing_in s n (state_found_in s n c)) r.start o.next in
    reported_by s n object (state_found_in s n c) next (n == object) refl (omega (arith, in_range, saved_indexes.0)) (omega (arith, in_range, saved_indexes.1)))
step_flapping s object (call.Abandon n run now) saved_indexes = abandon_cases (Adds s object (call.Abandon n run now)) n run now s (λ why. refl) (λ o e m. refl)
step_flapping s object (call.Reschedule n time forced) saved_indexes =
    reschedule_cases (Adds s object (call.Reschedule n time forced)) n time forced s (λ why. refl) (λ m. refl)
step_flapping s object (call.Enable n on) saved_indexes = enable_cases (Adds s object (call.Enable n on)) n on s (λ why. refl) refl
step_flapping s object (call.Status n) saved_indexes = status_cases (Adds s object (call.Status n)) n s (λ why. refl) (λ o e. refl)

-- ---- histories

with_first : (thresholds : ℕ × ℕ) (was : Flapping) (reported : Option rules.State) (later : List rules.State)
    → with_results thresholds (with_reported thresholds was reported) later ≡ with_results thresholds was (cons_option reported later)
with_first thresholds was None later = refl
with_first thresholds was (Some found) later = refl

pub replay_flapping : (s : State) (h : List (Entry Call Reply)) (object : ℕ) → HasPlaces s → IsLegal step s h
    → flapping_in (replay step s h) object ≡ with_results (flap_thresholds_of s.setup object) (flapping_in s object) (reported_states object h)
replay_flapping s [] object saved_indexes legal = refl
replay_flapping s (e ∷ h) object saved_indexes legal =
    let next = (step s e.call).0 in
    let reported : flapping_in next object ≡ with_reported (flap_thresholds_of s.setup object) (flapping_in s object) (reported_state object e.call e.reply) =
    subst (λ r. flapping_in next object ≡ with_reported (flap_thresholds_of s.setup object) (flapping_in s object) (reported_state object e.call r))
    (sym legal.0) (step_flapping s object e.call saved_indexes) in
    replay_flapping next h object (step_places s e.call saved_indexes) legal.1
    ∙ ap (λ c. with_results (flap_thresholds_of c object) (flapping_in next object) (reported_states object h)) (step_keeps s e.call).setup
    ∙ ap (λ f. with_results (flap_thresholds_of s.setup object) f (reported_states object h)) reported
    ∙ with_first (flap_thresholds_of s.setup object) (flapping_in s object) (reported_state object e.call e.reply) (reported_states object h)

-- ---- the opening

no_results : (count n : ℕ) → results_at (replicate count []) n ≡ []
no_results zero n = refl
no_results (suc count) zero = refl
no_results (suc count) (suc n) = no_results count n

steady_from : (setup : Configuration) (k : ℕ) (os : List NamedObject) (n : ℕ)
    → (standing_at (map (λ p. pending_standing (is_host setup p.0)) (enumerate_from k os)) n).flapping ≡ false
steady_from setup k [] n = refl
steady_from setup k (o ∷ os) zero = refl
steady_from setup k (o ∷ os) (suc n) = steady_from setup (k + 1) os n

opening_flapping : (setup : Configuration) (start object : ℕ) → flapping_in (opening setup start) object ≡ never_checked
opening_flapping setup start object i = record {
  results = no_results (object_count setup) object i;
  flapping = steady_from setup 0 (objects_of setup) object i;
}

-- In a legal history from the opening on, the results that are kept of an object, and whether it flaps, are what comes of
-- the states that its reports were answered with, one after another.
pub opened_flapping : (setup : Configuration) (start : ℕ) (h : List (Entry Call Reply)) (object : ℕ) → IsLegal step (opening setup start) h
    → flapping_in (replay step (opening setup start) h) object ≡ with_results (flap_thresholds_of setup object) never_checked (reported_states object h)
opened_flapping setup start h object legal =
    replay_flapping (opening setup start) h object (opening_places setup start) legal
    ∙ ap (λ f. with_results (flap_thresholds_of setup object) f (reported_states object h)) (opening_flapping setup start object)

-- ---- the last of all

-- the last n of a list and one more, where but the last n were kept before
keep_more : {X : Type 0} (n : ℕ) (xs : List X) (x : X) → keep_last n (keep_last n xs ++ x ∷ []) ≡ keep_last n (xs ++ x ∷ [])
keep_more n xs x =
    let past = length xs - n in
    let kept = drop past xs in
    let one = length-append kept (x ∷ []) in
    let all = length-append xs (x ∷ []) in
    let long = length-drop past xs in
    let seam : kept ++ x ∷ [] ≡ drop past (xs ++ x ∷ []) = sym (drop-append-le past xs (x ∷ []) (omega arith)) in
    let count : past + (length (kept ++ x ∷ []) - n) ≡ length (xs ++ x ∷ []) - n = omega (arith, one, all, long) in
    ap (drop (length (kept ++ x ∷ []) - n)) seam ∙ drop-drop (length (kept ++ x ∷ []) - n) past (xs ++ x ∷ []) ∙ ap (λ k. drop k (xs ++ x ∷ [])) count

pub kept_of_all : (thresholds : ℕ × ℕ) (was : Flapping) (front later : List rules.State) → was.results ≡ keep_last STORED_RESULTS front
    → (with_results thresholds was later).results ≡ keep_last STORED_RESULTS (front ++ later)
kept_of_all thresholds was front [] e = e ∙ ap (keep_last STORED_RESULTS) (sym (append-nil front))
kept_of_all thresholds was front (found ∷ later) e =
    kept_of_all thresholds (with_result thresholds was found) (front ++ found ∷ []) later
    (ap (λ kept. results_after kept found) e ∙ keep_more STORED_RESULTS front found)
    ∙ ap (keep_last STORED_RESULTS) (append_assoc front (found ∷ []) later)

-- The results that are kept are the last of all.
pub opened_results : (setup : Configuration) (start : ℕ) (h : List (Entry Call Reply)) (object : ℕ) → IsLegal step (opening setup start) h
    → results_at (replay step (opening setup start) h).results object ≡ keep_last STORED_RESULTS (reported_states object h)
opened_results setup start h object legal =
    ap (λ (f : Flapping). f.results) (opened_flapping setup start h object legal)
    ∙ kept_of_all (flap_thresholds_of setup object) never_checked [] (reported_states object h) refl
