-- Laws of new objects: a scheduler continues with them as it opens with them.
use Rattle.std.proofs.Common.{◌≡◌, ℕ, zero, suc, ◌+◌, ◌<◌, ◌≤◌, ◌^◌, List, [], ◌∷◌, map, Option, Some, None, false, true, unwrap_or, refl, sym, ap, ◌∙◌, arith}
use Rattle.std.specs.Prelude.{slice_get, zip}
use Rattle.std.proofs.lemmas.List.{length-replicate}
use Rattle.check_objects.proofs.NameLemmas.{item_at}
use Rattle.check_objects.specs.Configuration.{Configuration, IsSetup, NamedObject, host_count, name_of, object_count, objects_of}
use Rattle.check_states.specs.Standing.{pending_standing}
use Rattle.check_saved_state.specs.Saved.{Saved, saved_by_name}
use Rattle.check_saved_state.specs.Scheduling.{Scheduling}
use Rattle.check_sched.specs.Saved.{first_time, object_after_abandon, objects_kept, objects_after_resume, state_after_resume, results_after_resume}
use Rattle.check_sched.specs.Saved.{result_lists_after_resume, scheduling_after_resume, standing_after_resume}
use Rattle.check_sched.specs.Saved.{standings_after_resume, time_among, within_limit}
use Rattle.check_sched.specs.Scheduling.{opening_object}
use Rattle.check_sched.specs.State.{IsState, is_host, opening, opening_objects, opening_results, results_at, scheduling_at, standing_at}
use Rattle.check_spread.proofs.BoundLemmas.{first_times_below}
use Rattle.check_spread.specs.Spread.{initial_times}
use Rattle.check_sched.proofs.EachObjectLaws.{name_is, slice_each}
use Rattle.check_sched.proofs.OpeningLaws.{none_kept, opening_is_state, opening_limit}
use Rattle.check_sched.proofs.ResumedLaws.{freed, within_cases}
use Rattle.check_sched.proofs.SavedLaws.{limit_stays, made_each}
use Rattle.check_sched.proofs.StandingLaws.{length-initial_times, opening_count}

-- a scheduler can be in the state that it opens with
pub opening_can_be : (c : Configuration) (start : ℕ) → IsSetup c → start ≤ 2 ^ 60 → IsState (opening c start)
opening_can_be c start valid moment = opening_is_state c start valid moment (length-initial_times c start) (first_times_below c start valid moment)

-- ---- nothing was saved

abbrev nothing : ℕ → Saved
nothing before = record { start = before; runs = 0; objects = [] }

opened_at : (times : List (Option ℕ)) (os : List NamedObject) (n : ℕ) (o : NamedObject) (x : Scheduling) → slice_get os n ≡ Some o
    → slice_get (map (λ p. opening_object p.0 p.1.object.enabled) (zip times os)) n ≡ Some x → opening_object (time_among times n) o.object.enabled ≡ x
opened_at [] os n o x e f = cc
opened_at (time ∷ times) [] n o x e f = cc
opened_at (time ∷ times) (p ∷ os) zero o x e f =
    let same : p ≡ o = cc in
    let is : opening_object time p.object.enabled ≡ x = cc in
    ap (λ (y : NamedObject). opening_object time y.object.enabled) (sym same) ∙ is
opened_at (time ∷ times) (p ∷ os) (suc n) o x e f = opened_at times os n o x e f

objects_new : (c : Configuration) (before start : ℕ) → objects_after_resume c (nothing before) start ≡ opening_objects c start
objects_new c before start =
    let times = initial_times c start in
    let z : (n : ℕ) → 0 + n ≡ n = λ n. omega arith in
    ap (within_limit c start)
    (made_each (λ p. scheduling_after_resume c (time_among times p.0) p.1.object None) 0 (objects_of c) (opening_objects c start) (opening_count c start)
    (λ n o x e f. ap (λ k. opening_object (time_among times k) o.object.enabled) (z n) ∙ opened_at times (objects_of c) n o x e f))
    ∙ limit_stays (opening c start) start (opening_limit c start)

results_new : (c : Configuration) (before : ℕ) → result_lists_after_resume c (nothing before) ≡ opening_results c
results_new c before =
    made_each (λ p. results_after_resume None) 0 (objects_of c) (opening_results c) (length-replicate (object_count c) [])
    (λ n o x e f. none_kept (object_count c) n x f)

-- where nothing was saved, a scheduler continues as it opens
pub resumed_nothing : (c : Configuration) (before start : ℕ) → state_after_resume c (record { start = before; runs = 0; objects = [] }) start ≡ opening c start
resumed_nothing c before start = λ i. record {
  setup = c;
  start = start;
  objects = objects_new c before start i;
  standings = standings_after_resume c (nothing before);
  results = results_new c before i;
  runs = 0;
}

-- ---- what of an object is new

freed_later : (hosts now n : ℕ) (objects : List Scheduling) (o : Scheduling) → slice_get objects n ≡ Some o → o.run ≡ None
    → slice_get (freed hosts now objects) n ≡ Some o
freed_later zero now n [] o e idle = cc
freed_later zero now zero (x ∷ objects) o e idle =
    let same : x ≡ o = cc in
    let stays : object_after_abandon now o ≡ o = rw idle refl in
    ap (λ y. Some (object_after_abandon now y)) same ∙ ap Some stays
freed_later zero now (suc n) (x ∷ objects) o e idle = freed_later zero now n objects o e idle
freed_later (suc hosts) now n [] o e idle = e
freed_later (suc hosts) now zero (x ∷ objects) o e idle = e
freed_later (suc hosts) now (suc n) (x ∷ objects) o e idle = freed_later hosts now n objects o e idle

-- the scheduling of an object whose name wasn't saved
scheduled_new : (c : Configuration) (saved : Saved) (start n : ℕ) (o : NamedObject) → slice_get (objects_of c) n ≡ Some o → saved_by_name saved o.name ≡ None
    → scheduling_at (objects_after_resume c saved start) n ≡ opening_object (first_time c start n) o.object.enabled
scheduled_new c saved start n o e new =
    let was = opening_object (first_time c start n) o.object.enabled in
    let at : slice_get (objects_kept c saved (initial_times c start)) n ≡ Some was =
    slice_each (λ p. scheduling_after_resume c (first_time c start p.0) p.1.object (saved_by_name saved p.1.name)) n (objects_of c) o e
    ∙ ap (λ found. Some (scheduling_after_resume c (first_time c start n) o.object found)) new in
    within_cases (λ objects. scheduling_at objects n ≡ was) c start (objects_kept c saved (initial_times c start))
    (λ _. ap (λ found. unwrap_or found (opening_object None false)) at)
    (ap (λ found. unwrap_or found (opening_object None false)) (freed_later (host_count c) start n (objects_kept c saved (initial_times c start)) was at refl))

-- What an object has whose name wasn't saved: what it has at the opening.
pub record IsNew (c : Configuration) (saved : Saved) (start n : ℕ) : Type 0 where
  pub scheduling : scheduling_at (state_after_resume c saved start).objects n ≡ scheduling_at (opening c start).objects n
  pub standing : standing_at (state_after_resume c saved start).standings n ≡ standing_at (opening c start).standings n
  pub results : results_at (state_after_resume c saved start).results n ≡ results_at (opening c start).results n

pub new_is : (c : Configuration) (saved : Saved) (start n : ℕ) → n < object_count c → saved_by_name saved (name_of c n) ≡ None → IsNew c saved start n
new_is c saved start n l new =
    let found = item_at (objects_of c) n l in
    let o = found.item in
    let unsaved : saved_by_name saved o.name ≡ None = ap (saved_by_name saved) (sym (name_is c n o found.at)) ∙ new in
    let stands = slice_each (λ p. standing_after_resume (is_host c p.0) p.1.object (saved_by_name saved p.1.name)) n (objects_of c) o found.at in
    let stood = slice_each (λ p. standing_after_resume (is_host c p.0) p.1.object (saved_by_name (nothing 0) p.1.name)) n (objects_of c) o found.at in
    let has = slice_each (λ p. results_after_resume (saved_by_name saved p.1.name)) n (objects_of c) o found.at in
    let had = slice_each (λ p. results_after_resume (saved_by_name (nothing 0) p.1.name)) n (objects_of c) o found.at in
    record {
      scheduling = scheduled_new c saved start n o found.at unsaved
          ∙ sym (ap (λ objects. scheduling_at objects n) (sym (objects_new c 0 start)) ∙ scheduled_new c (nothing 0) start n o found.at refl);
      standing = ap (λ x. unwrap_or x (pending_standing true)) (stands ∙ ap (λ s. Some (standing_after_resume (is_host c n) o.object s)) unsaved ∙ sym stood);
      results = ap (λ x. unwrap_or x []) (has ∙ ap (λ s. Some (results_after_resume s)) unsaved ∙ sym had)
          ∙ ap (λ results. results_at results n) (results_new c 0);
    }
