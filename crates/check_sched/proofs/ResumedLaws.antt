-- Laws of the state in which a scheduler continues: it is one that a scheduler can be in, whatever setup it continues over.
use Rattle.std.proofs.Common.{◌≡◌, ℕ, zero, suc, ◌+◌, ◌<◌, ◌≤◌, ◌^◌, ◌==◌, ◌&&◌, ◌||◌, ◌++◌, Bool, true, false, cond, List, [], ◌∷◌, length, map, drop}
use Rattle.std.proofs.Common.{take, min, Option, Some, None, option_map, refl, sym, ap, subst, ◌∙◌, arith, get_or, IfSome, bytes_eq}
use Rattle.std.specs.Prelude.{All, find, is_some, nat_lt, not, slice_get, unwrap_or}
use Rattle.std.specs.List.{enumerate_from, list_all}
use Rattle.std.proofs.lemmas.Bool.Decides.{nat_tests}
use Rattle.std.proofs.lemmas.Bool.{and_from, and_parts}
use Rattle.std.proofs.lemmas.List.{length-map}
use Rattle.std.proofs.lemmas.List.Folds.{list_all-append}
use Rattle.std.proofs.lemmas.List.FromFn.{length-enumerate_from}
use Rattle.std.proofs.lemmas.Option.{slice_get-get_or, slice_get_within}
use Rattle.setup_model.specs.declared.parsed_setup.Object.{Object}
use Rattle.setup_model.specs.Name.{full_name, is_host_name, is_name}
use Rattle.check_objects.specs.Configuration.{Configuration, Host, IsSetup, NamedObject, Service, host_count, named_host, named_service, object_count}
use Rattle.check_objects.specs.Configuration.{objects_of, pair_of}
use Rattle.check_objects.proofs.NameLemmas.{parted_name}
use Rattle.check_states.specs.declared.standing.Kind.{Kind}
use Rattle.check_states.specs.declared.standing.Kind.TheVariants as kind
use Rattle.check_states.specs.declared.standing.Standing.{Standing}
use Rattle.check_states.specs.Standing.{is_lawful, is_soft_problem, pending_standing, IsStandingFor}
use Rattle.check_states.specs.State.{ok_or_up_state, is_problem}
use Rattle.check_states.proofs.VerdictLaws.{pending_is_lawful, pending_sort}
use Rattle.check_sched.specs.Roster.{running_among}
use Rattle.check_sched.specs.Saved.{each_object, first_time, object_after_abandon, keeps_time, objects_after_resume, results_after_resume, state_after_resume}
use Rattle.check_saved_state.specs.Saved.{IsSaved, IsSavedObject, Saved, SavedObject, saved_by_name}
use Rattle.check_sched.specs.Saved.{scheduling_after_resume, standing_kept, standing_after_resume, within_limit}
use Rattle.check_sched.specs.Scheduling.{freed_time}
use Rattle.check_saved_state.specs.Scheduling.{OpenRun, Scheduling, is_in_time, is_moment, is_time, is_timed, is_timed_if_forced}
use Rattle.check_sched.specs.State.{AreResultsOf, IsState, is_host, max_attempts_of, run_number_of}
use Rattle.check_states.specs.Flapping.{AreResultsFor}
use Rattle.check_sched.specs.State.{limit_of}
use Rattle.check_sched.proofs.ResultLaws.{all_dropped}
use Rattle.check_sched.proofs.LimitLaws.{busy_none}
use Rattle.check_sched.proofs.OpeningLaws.{first_in_time}
use Rattle.check_sched.proofs.RunningLaws.{none_out, run_in, timed_unforced}
use Rattle.check_sched.proofs.ReportLaws.{nonzero_attempts}
use Rattle.check_sched.proofs.SavedLaws.{alone, attempts_at, text_is}
use Rattle.check_spread.specs.Spread.{initial_times}
use Rattle.check_states.specs.Times.{earlier}

-- ---- the sort of a name

-- a name with a semicolon is no host's
parted : (a b : List ℕ) → is_host_name (full_name (a, b)) ≡ false
parted [] b = refl
parted (x ∷ a) b = parted_by (not (x == 59)) (parted a b)
  where
    parted_by : (here : Bool) → is_host_name (full_name (a, b)) ≡ false → (here && is_host_name (full_name (a, b))) ≡ false
    parted_by true h = h
    parted_by false h = refl

-- ---- the standing over another maximum of attempts

fine_is_none : (host : Bool) → is_problem (ok_or_up_state host) ≡ false
fine_is_none true = refl
fine_is_none false = refl

-- an object that was never checked is no problem
never_by : (host : Bool) (max : ℕ) (was : Standing) → IsStandingFor host max was → was.checked ≡ false → is_problem was.state ≡ true → ⊥
never_by host max was is never e =
    let fine : is_problem was.state ≡ false = ap (λ (t : Standing). is_problem t.state) (is.until_checked never) ∙ fine_is_none host in
    let clash : true ≡ false = sym e ∙ fine in
    cc

soft_stands : (host : Bool) (max m : ℕ) (was : Standing) (one : Bool) → (m == 1) ≡ one → 1 ≤ m → was.kind ≡ kind.Soft → is_problem was.state ≡ true
    → IsStandingFor host max was → IsStandingFor host m (standing_kept m was)
soft_stands host max m was true o some e f is =
    let soft : is_soft_problem was ≡ true = rw (f, e) refl in
    rw (soft, o) (record {
      lawful = rw f (grind (arith, nat_tests, o));
      sort = is.sort;
      last_hard_sort = is.sort;
      until_checked = λ never. absurd (never_by host max was is never f);
    })
soft_stands host max m was false o some e f is =
    let soft : is_soft_problem was ≡ true = rw (f, e) refl in
    let lawful : is_lawful was max ≡ true = is.lawful in
    let known = rw (f, e) at lawful in
    rw (soft, o) (record {
      lawful = rw (f, e) (grind (arith, nat_tests, known, o, some));
      sort = is.sort;
      last_hard_sort = is.last_hard_sort;
      until_checked = λ never. absurd (never_by host max was is never f);
    })

stands_by : (k : Kind) (problem : Bool) (host : Bool) (max m : ℕ) (was : Standing) → was.kind ≡ k → is_problem was.state ≡ problem → 1 ≤ m
    → IsStandingFor host max was → IsStandingFor host m (standing_kept m was)
stands_by kind.Hard true host max m was e f some is =
    let soft : is_soft_problem was ≡ false = rw (f, e) refl in
    rw (soft, f) (record {
      lawful = rw (f, e) (grind (arith, nat_tests));
      sort = is.sort;
      last_hard_sort = is.last_hard_sort;
      until_checked = λ never. absurd (never_by host max was is never f);
    })
stands_by kind.Soft true host max m was e f some is = soft_stands host max m was (m == 1) refl some e f is
stands_by k false host max m was e f some is =
    let soft : is_soft_problem was ≡ false = rw f refl in
    let lawful : is_lawful was max ≡ true = is.lawful in
    let known = rw f at lawful in
    let one : min 1 m ≡ 1 = omega arith in
    rw (soft, f) (record {
      lawful = rw f (grind (arith, nat_tests, known, some));
      sort = is.sort;
      last_hard_sort = is.last_hard_sort;
      until_checked = λ never. ap (λ (t : Standing). record t { attempt = min t.attempt m }) (is.until_checked never)
          ∙ (λ i. record (pending_standing host) { attempt = one i });
    })

-- A standing that an object can have is one that it can have over another maximum of attempts, as it is kept.
pub kept_stands : (host : Bool) (max m : ℕ) (was : Standing) → 1 ≤ m → IsStandingFor host max was → IsStandingFor host m (standing_kept m was)
kept_stands host max m was some is = stands_by was.kind (is_problem was.state) host max m was refl refl some is

-- ---- the scheduling

or_right : (a b : Bool) → b ≡ true → (a || b) ≡ true
or_right true b h = refl
or_right false b h = h

timed_by : (keeps forced : Bool) (next other : Option ℕ) → (forced ≡ true → keeps ≡ true) → is_timed next forced ≡ true
    → is_timed (cond keeps next other) forced ≡ true
timed_by true forced next other h t = t
timed_by false true next other h t = let clash : false ≡ true = h refl in cc
timed_by false false next other h t = timed_unforced other

earlier_in_time : (one other : Option ℕ) → is_time one ≡ true → is_time other ≡ true → is_time (earlier one other) ≡ true
earlier_in_time None other h i = i
earlier_in_time (Some a) None h i = h
earlier_in_time (Some a) (Some b) h i = grind (arith, nat_tests, h, i)

either_in_time : (keeps : Bool) (one other : Option ℕ) → is_time one ≡ true → is_time other ≡ true → is_time (cond keeps one other) ≡ true
either_in_time true one other h i = h
either_in_time false one other h i = i

-- what becomes of an object, kept or new, has its times within their limits
made_in_time : (setup : Configuration) (first : Option ℕ) (o : Object) (found : Option SavedObject) → is_time first ≡ true
    → IfSome found (λ saved. is_in_time saved.scheduling ≡ true) → is_in_time (scheduling_after_resume setup first o found) ≡ true
made_in_time setup first o None f h = and_from (is_time first) true f refl
made_in_time setup first o (Some saved) f h =
    let both = and_parts (is_time saved.scheduling.next) (is_moment saved.scheduling.run) h in
    and_from _ (is_moment saved.scheduling.run)
    (either_in_time (keeps_time setup o saved) saved.scheduling.next (earlier saved.scheduling.next first) both.0
    (earlier_in_time saved.scheduling.next first both.0 f)) both.1

-- and a next time where it is forced
made_timed : (setup : Configuration) (first : Option ℕ) (o : Object) (found : Option SavedObject)
    → IfSome found (λ saved. is_timed_if_forced saved.scheduling ≡ true) → is_timed_if_forced (scheduling_after_resume setup first o found) ≡ true
made_timed setup first o None h = timed_unforced first
made_timed setup first o (Some saved) h =
    timed_by (keeps_time setup o saved) saved.scheduling.forced saved.scheduling.next (earlier saved.scheduling.next first)
    (λ forced. or_right _ saved.scheduling.forced forced) h

-- ---- runs that are abandoned

given_none : (now : ℕ) (o : Scheduling) (run : Option OpenRun) → o.run ≡ run → (object_after_abandon now o).run ≡ None
given_none now o None e = rw e refl
given_none now o (Some r) e = rw e refl

freed_by : (next : Option ℕ) (now : ℕ) → is_time next ≡ true → now ≤ 2 ^ 60 → is_time (Some (unwrap_or next now)) ≡ true
freed_by None now h m = grind (arith, nat_tests, m)
freed_by (Some time) now h m = h

given_in_time_by : (now : ℕ) (o : Scheduling) (out : Bool) → is_some o.run ≡ out → now ≤ 2 ^ 60 → is_in_time o ≡ true → is_in_time (object_after_abandon now o) ≡ true
given_in_time_by now o true e m h =
    rw e (and_from (is_time (Some (freed_time now o))) true (freed_by o.next now (and_parts (is_time o.next) (is_moment o.run) h).0 m) refl)
given_in_time_by now o false e m h = rw e h

given_timed_by : (now : ℕ) (o : Scheduling) (out : Bool) → is_some o.run ≡ out → is_timed_if_forced o ≡ true → is_timed_if_forced (object_after_abandon now o) ≡ true
given_timed_by now o true e h = rw e refl
given_timed_by now o false e h = rw e h

-- ---- the limit

all_taken : {X : Type 0} (p : X → Bool) (n : ℕ) (xs : List X) → list_all p xs ≡ true → list_all p (take n xs) ≡ true
all_taken p zero xs e = refl
all_taken p (suc n) [] e = refl
all_taken p (suc n) (x ∷ xs) e = let b = and_parts (p x) (list_all p xs) e in and_from (p x) _ b.0 (all_taken p n xs b.1)

all_changed : {X : Type 0} (p : X → Bool) (f : X → X) (xs : List X) → ((x : X) → p x ≡ true → p (f x) ≡ true) → list_all p xs ≡ true
    → list_all p (map f xs) ≡ true
all_changed p f [] h e = refl
all_changed p f (x ∷ xs) h e = let b = and_parts (p x) (list_all p xs) e in and_from (p (f x)) _ (h x b.0) (all_changed p f xs h b.1)

-- the objects with the runs of all services abandoned
abbrev pub freed : ℕ → ℕ → List Scheduling → List Scheduling
freed hosts now objects = take hosts objects ++ map (object_after_abandon now) (drop hosts objects)

within_by : (P : List Scheduling → Type 0) (setup : Configuration) (now : ℕ) (objects : List Scheduling) (b : Bool)
    → (limit_of setup == 0 || not (nat_lt (limit_of setup) (running_among (drop (host_count setup) objects)))) ≡ b
    → ((limit_of setup == 0 || not (nat_lt (limit_of setup) (running_among (drop (host_count setup) objects)))) ≡ true → P objects)
    → P (freed (host_count setup) now objects) → P (within_limit setup now objects)
within_by P setup now objects true e report_unchanged give = rw e (report_unchanged e)
within_by P setup now objects false e report_unchanged give = rw e give

-- what is true of the objects as they are, where they keep to the limit, and of those whose runs are abandoned
pub within_cases : (P : List Scheduling → Type 0) (setup : Configuration) (now : ℕ) (objects : List Scheduling)
    → ((limit_of setup == 0 || not (nat_lt (limit_of setup) (running_among (drop (host_count setup) objects)))) ≡ true → P objects)
    → P (freed (host_count setup) now objects) → P (within_limit setup now objects)
within_cases P setup now objects report_unchanged give = within_by P setup now objects _ refl report_unchanged give

pub length-freed : (hosts now : ℕ) (objects : List Scheduling) → length (freed hosts now objects) ≡ length objects
length-freed zero now objects = length-map objects (object_after_abandon now)
length-freed (suc hosts) now [] = refl
length-freed (suc hosts) now (o ∷ objects) = ap suc (length-freed hosts now objects)

all_freed : (p : Scheduling → Bool) (hosts now : ℕ) (objects : List Scheduling) → ((o : Scheduling) → p o ≡ true → p (object_after_abandon now o) ≡ true)
    → list_all p objects ≡ true → list_all p (freed hosts now objects) ≡ true
all_freed p hosts now objects h e =
    rw (list_all-append p (take hosts objects) (map (object_after_abandon now) (drop hosts objects)))
    (and_from _ _ (all_taken p hosts objects e) (all_changed p (object_after_abandon now) (drop hosts objects) h (all_dropped p hosts objects e)))

-- no service is out when all are abandoned
idle_freed : (hosts now : ℕ) (objects : List Scheduling) → running_among (drop hosts (freed hosts now objects)) ≡ 0
idle_freed zero now objects = busy_none (object_after_abandon now) objects (λ o. ap is_some (given_none now o o.run refl))
idle_freed (suc hosts) now [] = refl
idle_freed (suc hosts) now (o ∷ objects) = idle_freed hosts now objects

-- what is out then was out
out_freed : (hosts now n r : ℕ) (objects : List Scheduling) → run_in n (freed hosts now objects) ≡ Some r → run_in n objects ≡ Some r
out_freed zero now n r objects e = absurd (none_out (object_after_abandon now) objects n r (λ o. given_none now o o.run refl) e)
out_freed (suc hosts) now n r [] e = e
out_freed (suc hosts) now zero r (o ∷ objects) e = e
out_freed (suc hosts) now (suc n) r (o ∷ objects) e = out_freed hosts now n r objects e

-- ---- what is found

found_later : (probe : SavedObject → Bool) (y x : SavedObject) (ys : List SavedObject)
    → (place : ℕ) × (slice_get ys place ≡ Some x) × (probe x ≡ true) → (place : ℕ) × (slice_get (y ∷ ys) place ≡ Some x) × (probe x ≡ true)
found_later probe y x ys (place, at, passes) = (suc place, at, passes)

found_by_test : (probe : SavedObject → Bool) (y x : SavedObject) (ys : List SavedObject) (b : Bool) → probe y ≡ b
    → (find probe ys ≡ Some x → (place : ℕ) × (slice_get ys place ≡ Some x) × (probe x ≡ true)) → cond b (Some y) (find probe ys) ≡ Some x
    → (place : ℕ) × (slice_get (y ∷ ys) place ≡ Some x) × (probe x ≡ true)
found_by_test probe y x ys true f later g = let same : y ≡ x = cc in (0, g, ap probe (sym same) ∙ f)
found_by_test probe y x ys false f later g = found_later probe y x ys (later g)

-- what is found stands at some place, and passes the test
pub found_at : (probe : SavedObject → Bool) (xs : List SavedObject) (x : SavedObject) → find probe xs ≡ Some x
    → (place : ℕ) × (slice_get xs place ≡ Some x) × (probe x ≡ true)
found_at probe [] x e = cc
found_at probe (y ∷ ys) x e = found_by_test probe y x ys (probe y) refl (λ g. found_at probe ys x g) e

-- what was saved of an object that is found by its name
pub saved_is : (saved : Saved) (name : List ℕ) (x : SavedObject) → IsSaved saved → saved_by_name saved name ≡ Some x
    → IsSavedObject saved.runs x × (name ≡ x.name)
saved_is saved name x is e =
    let found = found_at (λ o. bytes_eq name o.name) saved.objects x e in
    (is.each found.0 x found.1, text_is name x.name found.2)

-- ---- what is made of each object

-- each is made of the object in its place
pub made_at : {X : Type 0} (made : ℕ × NamedObject → X) (k n : ℕ) (os : List NamedObject) (x : X) → slice_get (map made (enumerate_from k os)) n ≡ Some x
    → (o : NamedObject) × (slice_get os n ≡ Some o) × (made (k + n, o) ≡ x)
made_at made k n [] x e = cc
made_at made k zero (o ∷ os) x e =
    let here : k ≡ k + 0 = omega arith in
    let same : made (k, o) ≡ x = cc in
    (o, refl, subst (λ j. made (j, o) ≡ x) here same)
made_at made k (suc n) (o ∷ os) x e =
    let found = made_at made (k + 1) n os x e in
    let in_range : k + 1 + n ≡ k + suc n = omega arith in
    (found.0, found.1, subst (λ j. made (j, found.0) ≡ x) in_range found.2)

-- what all pass that are made so
all_made : {X : Type 0} (p : X → Bool) (made : ℕ × NamedObject → X) (k : ℕ) (os : List NamedObject) → ((j : ℕ) (o : NamedObject) → p (made (j, o)) ≡ true)
    → list_all p (map made (enumerate_from k os)) ≡ true
all_made p made k [] h = refl
all_made p made k (o ∷ os) h = and_from (p (made (k, o))) _ (h k o) (all_made p made (k + 1) os h)

pub length-made : {X : Type 0} (c : Configuration) (made : ℕ × NamedObject → X) → length (each_object c made) ≡ object_count c
length-made c made = length-map (enumerate_from 0 (objects_of c)) made ∙ length-enumerate_from 0 (objects_of c)

-- ---- the sort of an object's name

read_at_place : (ts : List Service) (i : ℕ) (x : Service) → slice_get ts i ≡ Some x → x ≡ get_or ts i x
read_at_place ts i x f = let l = slice_get_within ts i x f in let g = slice_get-get_or ts i x l in let both : Some x ≡ Some (get_or ts i x) = sym f ∙ g in cc

-- a service has its full name
pub named_by_pair : (c : Configuration) (j : ℕ) (t : Service) → IsSetup c → slice_get c.services j ≡ Some t → t.name ≡ full_name (pair_of c t)
named_by_pair c j t valid e =
    subst (λ (x : Service). x.name ≡ full_name (pair_of c x)) (sym (read_at_place c.services j t e))
    (valid.full_names j t (slice_get_within c.services j t e))

sort_of_service : (c : Configuration) (j : ℕ) (t : Service) → IsSetup c → slice_get c.services j ≡ Some t → is_host_name t.name ≡ false
sort_of_service c j t valid e = ap is_host_name (named_by_pair c j t valid e) ∙ parted (pair_of c t).0 (pair_of c t).1

below_suc : (a b : ℕ) (less : Bool) → nat_lt a b ≡ less → less ≡ nat_lt (suc a) (suc b)
below_suc a b true e = let more : nat_lt (suc a) (suc b) ≡ true = grind (arith, nat_tests, e) in sym more
below_suc a b false e = let more : nat_lt (suc a) (suc b) ≡ false = grind (arith, nat_tests, e) in sym more

sort_by : (hs : List Host) (ts : List Service) (n : ℕ) (o : NamedObject) → list_all (λ h. is_name h.name) hs ≡ true
    → ((j : ℕ) (t : Service) → slice_get ts j ≡ Some t → is_host_name t.name ≡ false)
    → slice_get (map named_host hs ++ map named_service ts) n ≡ Some o → is_host_name o.name ≡ nat_lt n (length hs)
sort_by [] ts n o hosts services e =
    let found = service_at ts n o e in
    let past : nat_lt n 0 ≡ false = grind (arith, nat_tests) in
    ap (λ (x : NamedObject). is_host_name x.name) (sym found.2) ∙ services n found.0 found.1 ∙ sym past
  where
    service_at : (us : List Service) (i : ℕ) (x : NamedObject) → slice_get (map named_service us) i ≡ Some x
        → (t : Service) × (slice_get us i ≡ Some t) × (named_service t ≡ x)
    service_at [] i x f = cc
    service_at (u ∷ us) zero x f = let same : named_service u ≡ x = cc in (u, refl, same)
    service_at (u ∷ us) (suc i) x f = service_at us i x f
sort_by (h ∷ hs) ts zero o hosts services e =
    let same : named_host h ≡ o = cc in
    let first : nat_lt 0 (suc (length hs)) ≡ true = grind (arith, nat_tests) in
    ap (λ (x : NamedObject). is_host_name x.name) (sym same) ∙ parted_name h.name (and_parts (is_name h.name) _ hosts).0 ∙ sym first
sort_by (h ∷ hs) ts (suc n) o hosts services e =
    sort_by hs ts n o (and_parts (is_name h.name) _ hosts).1 services e ∙ below_suc n (length hs) (nat_lt n (length hs)) refl

-- a full name has a semicolon where it is a service's
pub name_sort : (c : Configuration) (n : ℕ) (o : NamedObject) → IsSetup c → slice_get (objects_of c) n ≡ Some o → is_host_name o.name ≡ is_host c n
name_sort c n o valid e = sort_by c.hosts c.services n o valid.host_names (λ j t f. sort_of_service c j t valid f) e

-- ---- the runs that are out

-- that an object is out as what was saved of its name is
pub record IsOut (c : Configuration) (saved : Saved) (n r : ℕ) : Type 0 where
  pub object : NamedObject
  pub at : slice_get (objects_of c) n ≡ Some object
  pub place : ℕ
  pub kept : SavedObject
  pub in_range : slice_get saved.objects place ≡ Some kept
  pub name : object.name ≡ kept.name
  pub run : option_map (λ q. q.number) kept.scheduling.run ≡ Some r

made_out : (made : ℕ × NamedObject → Scheduling) (k n r : ℕ) (os : List NamedObject) → run_in n (map made (enumerate_from k os)) ≡ Some r
    → (o : NamedObject) × (slice_get os n ≡ Some o) × (option_map (λ q. q.number) (made (k + n, o)).run ≡ Some r)
made_out made k n r [] e = cc
made_out made k zero r (o ∷ os) e =
    let here : k ≡ k + 0 = omega arith in (o, refl, subst (λ j. option_map (λ q. q.number) (made (j, o)).run ≡ Some r) here e)
made_out made k (suc n) r (o ∷ os) e =
    let found = made_out made (k + 1) n r os e in
    let in_range : k + 1 + n ≡ k + suc n = omega arith in
    (found.0, found.1, subst (λ j. option_map (λ q. q.number) (made (j, found.0)).run ≡ Some r) in_range found.2)

run_saved : (c : Configuration) (first : Option ℕ) (o : Object) (found : Option SavedObject) (r : ℕ)
    → option_map (λ q. q.number) (scheduling_after_resume c first o found).run ≡ Some r
    → (x : SavedObject) × (found ≡ Some x) × (option_map (λ q. q.number) x.scheduling.run ≡ Some r)
run_saved c first o None r e = cc
run_saved c first o (Some x) r e = (x, refl, e)

pub out_saved : (c : Configuration) (saved : Saved) (start n r : ℕ) → run_number_of n (state_after_resume c saved start) ≡ Some r → IsOut c saved n r
out_saved c saved start n r e =
    let made : ℕ × NamedObject → Scheduling = λ p. scheduling_after_resume c (first_time c start p.0) p.1.object (saved_by_name saved p.1.name) in
    let was = within_cases (λ os. run_in n os ≡ Some r → run_in n (each_object c made) ≡ Some r) c start (each_object c made) (λ b f. f)
    (λ f. out_freed (host_count c) start n r (each_object c made) f) e in
    let o = made_out made 0 n r (objects_of c) was in
    let x = run_saved c (first_time c start (0 + n)) o.0.object (saved_by_name saved o.0.name) r o.2 in
    let place = found_at (λ y. bytes_eq o.0.name y.name) saved.objects x.0 x.1 in
    record { object = o.0; at = o.1; place = place.0; kept = x.0; in_range = place.1; name = text_is o.0.name x.0.name place.2; run = x.2 }

out_numbered : (c : Configuration) (saved : Saved) (n r : ℕ) → IsSaved saved → IsOut c saved n r → (1 ≤ r) × (r ≤ saved.runs)
out_numbered c saved n r is out = (is.each out.place out.kept out.in_range).numbered r out.run

out_once : (c : Configuration) (saved : Saved) (m n r : ℕ) → IsSetup c → IsSaved saved → IsOut c saved m r → IsOut c saved n r → m ≡ n
out_once c saved m n r valid is one other =
    let place = is.once one.place other.place r one.kept other.kept one.in_range other.in_range one.run other.run in
    let both : Some one.kept ≡ Some other.kept = sym one.in_range ∙ ap (slice_get saved.objects) place ∙ other.in_range in
    let kept : one.kept ≡ other.kept = cc in
    alone c m n one.object other.object valid one.at other.at (one.name ∙ ap (λ (x : SavedObject). x.name) kept ∙ sym other.name)

-- ---- the state

first_by : (found : Option (Option ℕ)) → IfSome found (λ first. is_time first ≡ true) → is_time (unwrap_or found None) ≡ true
first_by None h = refl
first_by (Some first) h = h

all_times : (times : List (Option ℕ)) (n : ℕ) → All (λ first. IfSome first (λ time. time < 2 ^ 61)) times → is_time (unwrap_or (slice_get times n) None) ≡ true
all_times [] n h = refl
all_times (first ∷ times) zero h = first_in_time first (h 0 None (omega arith))
all_times (first ∷ times) (suc n) h = all_times times n (λ k d l. h (suc k) d (omega arith))

-- what is true of everything that was saved is true of what is found
pub if_saved : (saved : Saved) (P : SavedObject → Type 0) (name : List ℕ) (found : Option SavedObject) → IsSaved saved → saved_by_name saved name ≡ found
    → ((x : SavedObject) → IsSavedObject saved.runs x → name ≡ x.name → P x) → IfSome found P
if_saved saved P name None is e h = tt
if_saved saved P name (Some x) is e h = let s = saved_is saved name x is e in h x s.0 s.1

stands_new : (host : Bool) (m : ℕ) → 1 ≤ m → IsStandingFor host m (pending_standing host)
stands_new host m some = record {
  lawful = pending_is_lawful host m some;
  sort = pending_sort host;
  last_hard_sort = pending_sort host;
  until_checked = λ never. refl;
}

stands_made : (host : Bool) (o : Object) (found : Option SavedObject) → 1 ≤ o.max_check_attempts
    → IfSome found (λ x. IsStandingFor host x.max_attempts x.standing) → IsStandingFor host o.max_check_attempts (standing_after_resume host o found)
stands_made host o None some h = stands_new host o.max_check_attempts some
stands_made host o (Some x) some h = kept_stands host x.max_attempts o.max_check_attempts x.standing some h

results_made : (host : Bool) (found : Option SavedObject) → IfSome found (λ x. AreResultsFor host x.results) → AreResultsFor host (results_after_resume found)
results_made host None h = record { bounded = omega arith; sort = refl }
results_made host (Some x) h = h

limit_open : (limit running : ℕ) → (limit == 0 || not (nat_lt limit running)) ≡ true → 0 < limit → running ≤ limit
limit_open limit running e some = grind (arith, nat_tests, e, some)

-- of each object of the setup there is one
pub length-state_after_resume : (c : Configuration) (saved : Saved) (start : ℕ) → length (objects_after_resume c saved start) ≡ object_count c
length-state_after_resume c saved start =
    let made : ℕ × NamedObject → Scheduling = λ p. scheduling_after_resume c (first_time c start p.0) p.1.object (saved_by_name saved p.1.name) in
    within_cases (λ os. length os ≡ object_count c) c start (each_object c made) (λ b. length-made c made)
    (length-freed (host_count c) start (each_object c made) ∙ length-made c made)

-- Whatever was saved, and whatever setup a scheduler continues over: the state is one that a scheduler can be in.
pub resumed_is_state : (c : Configuration) (saved : Saved) (start : ℕ) → IsSetup c → IsSaved saved → start ≤ 2 ^ 60
    → All (λ first. IfSome first (λ time. time < 2 ^ 61)) (initial_times c start) → IsState (state_after_resume c saved start)
resumed_is_state c saved start valid is m within =
    let made : ℕ × NamedObject → Scheduling = λ p. scheduling_after_resume c (first_time c start p.0) p.1.object (saved_by_name saved p.1.name) in
    record {
      valid_setup = valid;
      start = m;
      one_each = within_cases (λ os. length os ≡ object_count c) c start (each_object c made) (λ b. length-made c made)
          (length-freed (host_count c) start (each_object c made) ∙ length-made c made);
      one_standing_each = length-made c _;
      results_each = length-made c _;
      runs = is.runs;
      times =
          let all = all_made is_in_time made 0 (objects_of c)
          (λ j o. made_in_time c (first_time c start j) o.object (saved_by_name saved o.name) (all_times (initial_times c start) j within)
          (if_saved saved (λ x. is_in_time x.scheduling ≡ true) o.name _ is refl (λ x h name. h.in_time))) in
          within_cases (λ os. list_all is_in_time os ≡ true) c start (each_object c made) (λ b. all)
          (all_freed is_in_time (host_count c) start (each_object c made) (λ o h. given_in_time_by start o (is_some o.run) refl m h) all);
      limit = within_cases (λ os. 0 < limit_of c → running_among (drop (host_count c) os) ≤ limit_of c) c start (each_object c made)
          (λ b. limit_open (limit_of c) _ b) (λ some. let idle = idle_freed (host_count c) start (each_object c made) in omega (arith, idle));
      standings = λ n t e.
          let o = made_at _ 0 n (objects_of c) t e in
          let z : 0 + n ≡ n = omega arith in
          let attempts = attempts_at c n o.0 o.1 in
          let some = nonzero_attempts c n valid in
          let host = is_host c n in
          let stands : IsStandingFor host o.0.object.max_check_attempts (standing_after_resume host o.0.object (saved_by_name saved o.0.name)) =
          stands_made host o.0.object (saved_by_name saved o.0.name) (rw attempts at some)
          (if_saved saved (λ x. IsStandingFor host x.max_attempts x.standing) o.0.name _ is refl
          (λ x h name. subst (λ b. IsStandingFor b x.max_attempts x.standing) (ap is_host_name (sym name) ∙ name_sort c n o.0 valid o.1) h.standing)) in
          subst (λ y. IsStandingFor host (max_attempts_of c n) y) (rw z at o.2)
          (subst (λ y. IsStandingFor host y (standing_after_resume host o.0.object (saved_by_name saved o.0.name))) (sym attempts) stands);
      numbered = λ n r e. out_numbered c saved n r is (out_saved c saved start n r e);
      once = λ one other r e f. out_once c saved one other r valid is (out_saved c saved start one r e) (out_saved c saved start other r f);
      forced =
          let all = all_made is_timed_if_forced made 0 (objects_of c)
          (λ j o. made_timed c (first_time c start j) o.object (saved_by_name saved o.name)
          (if_saved saved (λ x. is_timed_if_forced x.scheduling ≡ true) o.name _ is refl (λ x h name. h.timed))) in
          within_cases (λ os. list_all is_timed_if_forced os ≡ true) c start (each_object c made) (λ b. all)
          (all_freed is_timed_if_forced (host_count c) start (each_object c made) (λ o h. given_timed_by start o (is_some o.run) refl h) all);
      results = λ n rs e.
          let o = made_at _ 0 n (objects_of c) rs e in
          subst (AreResultsOf c n) o.2 (results_made (is_host c n) (saved_by_name saved o.0.name)
          (if_saved saved (λ x. AreResultsFor (is_host c n) x.results) o.0.name _ is refl
          (λ x h name. subst (λ b. AreResultsFor b x.results) (ap is_host_name (sym name) ∙ name_sort c n o.0 valid o.1) h.results)));
    }
