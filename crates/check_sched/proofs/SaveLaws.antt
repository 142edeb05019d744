-- What is kept of a scheduler, in whatever state it can be, is what one can continue from.
use Rattle.std.proofs.Common.{◌≡◌, ℕ, zero, suc, ◌+◌, ◌<◌, ◌++◌, true, false, List, [], ◌∷◌, length, map, Option, Some, None, option_map}
use Rattle.std.proofs.Common.{refl, sym, ap, subst, ◌∙◌, arith, inl, inr}
use Rattle.std.specs.Prelude.{slice_get, nat_lt, unwrap_or, option_and_then}
use Rattle.std.specs.List.{list_all}
use Rattle.std.proofs.lemmas.Bool.Decides.{nat_tests}
use Rattle.std.proofs.lemmas.Bool.{and_parts}
use Rattle.std.proofs.lemmas.Option.{slice_get_within}
use Rattle.setup_model.specs.Name.{is_name}
use Rattle.check_objects.specs.Configuration.{Configuration, Host, IsSetup, NamedObject, Service, name_of, named_host, named_service}
use Rattle.check_objects.specs.Configuration.{objects_of, pair_of}
use Rattle.check_objects.proofs.NameLemmas.{name_of_host}
use Rattle.check_sched.specs.Saved.{saved_object, saved_of}
use Rattle.check_saved_state.specs.Saved.{IsFullName, IsSaved, IsSavedObject, SavedObject}
use Rattle.check_sched.specs.Scheduling.{opening_object}
use Rattle.check_saved_state.specs.Scheduling.{OpenRun, Scheduling, is_in_time, is_timed_if_forced}
use Rattle.check_sched.specs.State.{IsState, State, is_host, results_at}
use Rattle.check_states.specs.Flapping.{AreResultsFor}
use Rattle.check_states.specs.Standing.{IsStandingFor}
use Rattle.check_sched.specs.State.{standing_at}
use Rattle.check_sched.proofs.IntervalLaws.{few_milliseconds}
use Rattle.check_sched.proofs.OpeningLaws.{count_is}
use Rattle.check_sched.proofs.ReportLaws.{check_in_range, object_in_range, standing_of_state}
use Rattle.check_sched.proofs.ResumedLaws.{length-made, made_at, name_sort, named_by_pair}
use Rattle.check_sched.proofs.SavedLaws.{alone, attempts_at}
use Rattle.check_sched.proofs.UpdateLaws.{none_there}
use Rattle.check_saved_state.proofs.SavedLemmas.{all_at}

-- ---- names

host_named : (c : Configuration) (n : ℕ) (h : Host) → IsSetup c → slice_get c.hosts n ≡ Some h → is_name h.name ≡ true
host_named c n h valid e = all_at (λ x. is_name x.name) c.hosts n h valid.host_names e

-- the host of a service is there
host_by : (c : Configuration) (j : ℕ) (t : Service) (found : Option Host) → IsSetup c → slice_get c.services j ≡ Some t → slice_get c.hosts t.host ≡ found
    → is_name (name_of c t.host) ≡ true
host_by c j t None valid e f =
    let hosts_in_range : nat_lt t.host (length c.hosts) ≡ true = all_at (λ x. nat_lt x.host (length c.hosts)) c.services j t valid.hosts_in_range e in
    let less : t.host < length c.hosts = grind (arith, nat_tests, hosts_in_range) in
    let past = none_there c.hosts t.host f in
    absurd (omega (arith, less, past))
host_by c j t (Some h) valid e f = ap is_name (name_of_host c t.host h f) ∙ host_named c t.host h valid f

service_named : (c : Configuration) (j : ℕ) (t : Service) → IsSetup c → slice_get c.services j ≡ Some t → IsFullName t.name
service_named c j t valid e =
    inr (
      (pair_of c t).0,
      t.description,
      named_by_pair c j t valid e,
      host_by c j t (slice_get c.hosts t.host) valid e refl,
      all_at (λ x. is_name x.description) c.services j t valid.descriptions e,
    )

full_by : (hs : List Host) (ts : List Service) (n : ℕ) (o : NamedObject) → list_all (λ h. is_name h.name) hs ≡ true
    → ((j : ℕ) (t : Service) → slice_get ts j ≡ Some t → IsFullName t.name)
    → slice_get (map named_host hs ++ map named_service ts) n ≡ Some o → IsFullName o.name
full_by [] [] n o hosts services e = cc
full_by [] (t ∷ ts) zero o hosts services e = let same : named_service t ≡ o = cc in subst (λ (x : NamedObject). IsFullName x.name) same (services 0 t refl)
full_by [] (t ∷ ts) (suc n) o hosts services e = full_by [] ts n o hosts (λ j u f. services (suc j) u f) e
full_by (h ∷ hs) ts zero o hosts services e =
    let same : named_host h ≡ o = cc in subst (λ (x : NamedObject). IsFullName x.name) same (inl (and_parts (is_name h.name) _ hosts).0)
full_by (h ∷ hs) ts (suc n) o hosts services e = full_by hs ts n o (and_parts (is_name h.name) _ hosts).1 services e

-- an object of a setup has a full name
full_named : (c : Configuration) (n : ℕ) (o : NamedObject) → IsSetup c → slice_get (objects_of c) n ≡ Some o → IsFullName o.name
full_named c n o valid e = full_by c.hosts c.services n o valid.host_names (λ j t f. service_named c j t valid f) e

-- ---- one object

-- what is there at a place
in_range : {X : Type 0} (P : X → Type 0) (xs : List X) (n : ℕ) (d : X) (found : Option X) → n < length xs → slice_get xs n ≡ found
    → ((x : X) → slice_get xs n ≡ Some x → P x) → P (unwrap_or found d)
in_range P xs n d None l e h = let past = none_there xs n e in absurd (omega (arith, l, past))
in_range P xs n d (Some x) l e h = h x e

run_there : (found : Option Scheduling) (run : ℕ) → option_map (λ r. r.number) (unwrap_or found (opening_object None false)).run ≡ Some run
    → option_map (λ r. r.number) (option_and_then (λ o. o.run) found) ≡ Some run
run_there None run e = cc
run_there (Some o) run e = e

kept_object : (s : State) (n : ℕ) (o : NamedObject) → IsState s → slice_get (objects_of s.setup) n ≡ Some o → IsSavedObject s.runs (saved_object s (n, o))
kept_object s n o is e =
    let below = slice_get_within (objects_of s.setup) n o e in
    let in_objects : n < length s.objects = let each = is.one_each in omega (arith, below, each) in
    let in_results : n < length s.results = let each = is.results_each in omega (arith, below, each) in
    let sort = name_sort s.setup n o is.valid_setup e in
    let attempts = attempts_at s.setup n o e in
    let range = object_in_range s.setup n o is.valid_setup e in
    record {
      name = full_named s.setup n o is.valid_setup e;
      standing =
          subst (λ b. IsStandingFor b o.object.max_check_attempts (standing_at s.standings n)) (sym sort)
          (subst (λ m. IsStandingFor (is_host s.setup n) m (standing_at s.standings n)) attempts (standing_of_state s n is below));
      results =
          subst (λ b. AreResultsFor b (results_at s.results n)) (sym sort)
          (in_range (AreResultsFor (is_host s.setup n)) s.results n [] (slice_get s.results n) in_results refl (λ x f. is.results n x f));
      in_time =
          in_range (λ x. is_in_time x ≡ true) s.objects n (opening_object None false) (slice_get s.objects n) in_objects refl
          (λ x f. all_at is_in_time s.objects n x is.times f);
      timed =
          in_range (λ x. is_timed_if_forced x ≡ true) s.objects n (opening_object None false) (slice_get s.objects n) in_objects refl
          (λ x f. all_at is_timed_if_forced s.objects n x is.forced f);
      numbered = λ run f. is.numbered n run (run_there (slice_get s.objects n) run f);
      nonzero_attempts = grind (arith, nat_tests, range);
      bounded_attempts = grind (arith, nat_tests, range);
      interval = few_milliseconds s.setup o.object.check_interval is.valid_setup (check_in_range o.object range);
    }

-- ---- all of it

-- what is kept at a place is what is kept of the object with this number
kept_at : (s : State) (place : ℕ) (x : SavedObject) → slice_get (saved_of s).objects place ≡ Some x
    → (o : NamedObject) × (slice_get (objects_of s.setup) place ≡ Some o) × (saved_object s (place, o) ≡ x)
kept_at s place x e =
    let found = made_at (saved_object s) 0 place (objects_of s.setup) x e in
    let z : 0 + place ≡ place = omega arith in
    (found.0, found.1, rw z at found.2)

pub saved_of_state : (s : State) → IsState s → IsSaved (saved_of s)
saved_of_state s is = record {
  bounded = let long = length-made s.setup (saved_object s) in let count = count_is s.setup in let bounded = is.valid_setup.bounded in omega (arith, long, count, bounded);
  start = is.start;
  runs = is.runs;
  each = λ place x e. let at = kept_at s place x e in subst (IsSavedObject s.runs) at.2 (kept_object s place at.0 is at.1);
  apart = λ one other x y e f same.
      let a = kept_at s one x e in
      let b = kept_at s other y f in
      alone s.setup one other a.0 b.0 is.valid_setup a.1 b.1
      (ap (λ (o : SavedObject). o.name) a.2 ∙ same ∙ ap (λ (o : SavedObject). o.name) (sym b.2));
  once = λ one other run x y e f g h.
      let a = kept_at s one x e in
      let b = kept_at s other y f in
      is.once one other run
      (run_there (slice_get s.objects one) run (ap (λ (o : SavedObject). option_map (λ (r : OpenRun). r.number) o.scheduling.run) a.2 ∙ g))
      (run_there (slice_get s.objects other) run (ap (λ (o : SavedObject). option_map (λ (r : OpenRun). r.number) o.scheduling.run) b.2 ∙ h));
}
