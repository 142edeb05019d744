-- Laws of what is kept: over the same setup a scheduler continues as if it had never been put down.
use Rattle.std.proofs.Common.{◌≡◌, ℕ, zero, suc, ◌+◌, ◌-◌, ◌<◌, ◌≤◌, ◌==◌, ◌||◌, Bool, true, false, List, [], ◌∷◌, length, map, drop, min}
use Rattle.std.proofs.Common.{Option, Some, refl, sym, ap, ◌∙◌, arith, bytes_eq}
use Rattle.std.specs.Prelude.{find, nat_lt, not, slice_get}
use Rattle.std.specs.List.{enumerate_from}
use Rattle.std.proofs.lemmas.Bool.Decides.{nat_tests}
use Rattle.std.proofs.lemmas.Bool.{eq-eqb}
use Rattle.std.proofs.lemmas.Option.{slice_get_within}
use Rattle.std.proofs.lemmas.Slice.Eq.{bytes_eq-Decides}
use Rattle.check_objects.specs.Configuration.{Configuration, IsSetup, NamedObject, host_count, name_of, number_by_name, objects_of}
use Rattle.check_objects.proofs.NameLemmas.{name_leads_back, names_of_setup, same_text}
use Rattle.check_states.specs.declared.standing.Kind.{Kind}
use Rattle.check_states.specs.declared.standing.Kind.TheVariants as kind
use Rattle.check_states.specs.declared.standing.Standing.{Standing}
use Rattle.check_states.specs.Standing.{is_lawful, is_soft_problem}
use Rattle.check_states.specs.State.{is_problem}
use Rattle.check_sched.specs.Roster.{running_among}
use Rattle.check_sched.specs.Saved.{is_same_switch, objects_after_resume, state_after_resume, result_lists_after_resume, saved_object, saved_of, standing_kept}
use Rattle.check_saved_state.specs.Saved.{saved_by_name}
use Rattle.check_sched.specs.Saved.{standings_after_resume, within_limit}
use Rattle.check_saved_state.specs.Scheduling.{Scheduling}
use Rattle.check_sched.specs.State.{IsState, IsWithinLimit, State, limit_of, max_attempts_of, running_services}

-- ---- an object by its name

found_next : {X Y : Type 0} (test : X → Bool) (made : ℕ × X → Y) (probe : Y → Bool) (k n : ℕ) (y : X) (found : Y) (others : List Y) (b : Bool)
    → test y ≡ b → ((p : ℕ × X) → probe (made p) ≡ test p.1) → (test y ≡ true → 0 ≡ suc n) → find probe others ≡ Some found
    → find probe (made (k, y) ∷ others) ≡ Some found
found_next test made probe k n y found others true f same only later = let clash : 0 ≡ suc n = only f in absurd (omega arith)
found_next test made probe k n y found others false f same only later = rw (same (k, y) ∙ f) later

-- where one of a list only passes the test, what is made of it is what is found
found_by : {X Y : Type 0} (test : X → Bool) (made : ℕ × X → Y) (probe : Y → Bool) (k n : ℕ) (x : X) (xs : List X)
    → ((p : ℕ × X) → probe (made p) ≡ test p.1) → slice_get xs n ≡ Some x → test x ≡ true
    → ((m : ℕ) (y : X) → slice_get xs m ≡ Some y → test y ≡ true → m ≡ n)
    → find probe (map made (enumerate_from k xs)) ≡ Some (made (k + n, x))
found_by test made probe k n x [] same e t only = cc
found_by test made probe k zero x (y ∷ xs) same e t only =
    let is : y ≡ x = cc in
    let passes : probe (made (k, y)) ≡ true = same (k, y) ∙ ap test is ∙ t in
    let here : k ≡ k + 0 = omega arith in
    rw passes (λ i. Some (made (here i, is i)))
found_by test made probe k (suc n) x (y ∷ xs) same e t only =
    let in_range : k + 1 + n ≡ k + suc n = omega arith in
    let others = found_by test made probe (k + 1) n x xs same e t (λ m z f g. let at : suc m ≡ suc n = only (suc m) z f g in omega arith) in
    found_next test made probe k n y (made (k + suc n, x)) (map made (enumerate_from (k + 1) xs)) (test y) refl same (λ f. only 0 y refl f)
    (others ∙ ap (λ j. Some (made (j, x))) in_range)

pub text_is : (a b : List ℕ) → bytes_eq a b ≡ true → a ≡ b
text_is a b e = grind (arith, bytes_eq-Decides a b, e)

some_name : (found : Option NamedObject) (o : NamedObject) → found ≡ Some o → (c : Configuration) (n : ℕ) → slice_get (objects_of c) n ≡ found → name_of c n ≡ o.name
some_name found o e c n f = rw (f ∙ e) refl

-- no two objects of a setup have the same full name
pub alone : (c : Configuration) (m n : ℕ) (x y : NamedObject) → IsSetup c → slice_get (objects_of c) m ≡ Some x → slice_get (objects_of c) n ≡ Some y
    → x.name ≡ y.name → m ≡ n
alone c m n x y valid e f same =
    let one = name_leads_back c (names_of_setup c valid) m (slice_get_within (objects_of c) m x e) in
    let other = name_leads_back c (names_of_setup c valid) n (slice_get_within (objects_of c) n y f) in
    let names : name_of c m ≡ name_of c n = some_name (Some x) x refl c m e ∙ same ∙ sym (some_name (Some y) y refl c n f) in
    let both : Some m ≡ Some n = sym one ∙ ap (number_by_name c) names ∙ other in
    cc

-- what is saved of an object is found by its full name
pub found_saved : (s : State) (n : ℕ) (o : NamedObject) → IsSetup s.setup → slice_get (objects_of s.setup) n ≡ Some o
    → saved_by_name (saved_of s) o.name ≡ Some (saved_object s (n, o))
found_saved s n o valid e =
    let found = found_by (λ (x : NamedObject). bytes_eq o.name x.name) (saved_object s) (λ x. bytes_eq o.name x.name) 0 n o (objects_of s.setup)
    (λ p. refl) e (same_text o.name) (λ m x f t. alone s.setup m n x o valid f e (sym (text_is o.name x.name t))) in
    let here : 0 + n ≡ n = omega arith in
    rw here at found

-- ---- what is made of each object

-- this many as there are objects, each what it is made of its object
pub made_each : {X : Type 0} (made : ℕ × NamedObject → X) (k : ℕ) (os : List NamedObject) (xs : List X) → length xs ≡ length os
    → ((n : ℕ) (o : NamedObject) (x : X) → slice_get os n ≡ Some o → slice_get xs n ≡ Some x → made (k + n, o) ≡ x)
    → map made (enumerate_from k os) ≡ xs
made_each made k [] [] l h = refl
made_each made k [] (x ∷ xs) l h = absurd (omega arith)
made_each made k (o ∷ os) [] l h = absurd (omega arith)
made_each made k (o ∷ os) (x ∷ xs) l h =
    let here : k + 0 ≡ k = omega arith in
    let first : made (k, o) ≡ x = rw here at (h 0 o x refl refl) in
    let others = made_each made (k + 1) os xs (omega arith)
    (λ n p y e f. let at : k + suc n ≡ k + 1 + n = omega arith in rw at at (h (suc n) p y e f)) in
    λ i. first i ∷ others i

-- ---- the standing

-- by the kind of a problem
kept_by : (k : Kind) (problem : Bool) (max : ℕ) (was : Standing) → was.kind ≡ k → is_problem was.state ≡ problem → is_lawful was max ≡ true
    → standing_kept max was ≡ was
kept_by kind.Hard true max was e f h =
    let soft : is_soft_problem was ≡ false = rw (f, e) refl in
    let same : was.attempt ≡ max = grind (arith, nat_tests, rw (f, e) at h) in
    rw (soft, f) (λ i. record was { attempt = sym same i })
kept_by kind.Soft true max was e f h =
    let soft : is_soft_problem was ≡ true = rw (f, e) refl in
    let more : (max == 1) ≡ false = grind (arith, nat_tests, rw (f, e) at h) in
    let least : min was.attempt (max - 1) ≡ was.attempt = grind (arith, nat_tests, rw (f, e) at h) in
    rw (soft, more) (λ i. record was { attempt = least i })
kept_by k false max was e f h =
    let soft : is_soft_problem was ≡ false = rw f refl in
    let least : min was.attempt max ≡ was.attempt = grind (arith, nat_tests, rw f at h) in
    rw (soft, f) (λ i. record was { attempt = least i })

-- a lawful standing stays as it is
pub standing_stays : (max : ℕ) (was : Standing) → is_lawful was max ≡ true → standing_kept max was ≡ was
standing_stays max was h = kept_by was.kind (is_problem was.state) max was refl refl h

-- ---- the same setup

pub attempts_at : (setup : Configuration) (n : ℕ) (o : NamedObject) → slice_get (objects_of setup) n ≡ Some o → max_attempts_of setup n ≡ o.object.max_check_attempts
attempts_at setup n o e = rw e refl

standings_stay : (s : State) → IsState s → standings_after_resume s.setup (saved_of s) ≡ s.standings
standings_stay s is =
    made_each _ 0 (objects_of s.setup) s.standings is.one_standing_each
    (λ n o x e f.
    let lawful : is_lawful x o.object.max_check_attempts ≡ true = rw (attempts_at s.setup n o e) at (is.standings n x f).lawful in
    let stays = standing_stays o.object.max_check_attempts x lawful in
    rw (found_saved s n o is.valid_setup e, f) stays)

results_stay : (s : State) → IsState s → result_lists_after_resume s.setup (saved_of s) ≡ s.results
results_stay s is = made_each _ 0 (objects_of s.setup) s.results is.results_each (λ n o x e f. rw (found_saved s n o is.valid_setup e, f) refl)

switch_same : (on : Bool) → is_same_switch on on ≡ true
switch_same true = refl
switch_same false = refl

limit_by : (setup : Configuration) (start : ℕ) (objects : List Scheduling)
    → (limit_of setup == 0 || not (nat_lt (limit_of setup) (running_among (drop (host_count setup) objects)))) ≡ true → within_limit setup start objects ≡ objects
limit_by setup start objects e = rw e refl

pub limit_stays : (s : State) (start : ℕ) → IsWithinLimit s → within_limit s.setup start s.objects ≡ s.objects
limit_stays s start within = limit_by s.setup start s.objects (open_by (limit_of s.setup) (running_services s) within)
  where
    open_by : (limit running : ℕ) → (0 < limit → running ≤ limit) → (limit == 0 || not (nat_lt limit running)) ≡ true
    open_by zero running h = refl
    open_by (suc limit) running h = let bounded = h (omega arith) in grind (arith, nat_tests, bounded)

objects_stay : (s : State) (start : ℕ) → IsState s → objects_after_resume s.setup (saved_of s) start ≡ s.objects
objects_stay s start is =
    ap (within_limit s.setup start)
    (made_each _ 0 (objects_of s.setup) s.objects is.one_each
    (λ n o x e f. rw (found_saved s n o is.valid_setup e, f, eq-eqb _ _ refl, switch_same o.object.enabled) refl))
    ∙ limit_stays s start is.limit

-- Over the same setup a scheduler continues in the state in which it was put down, except for the start.
pub resumed_same : (s : State) (start : ℕ) → IsState s → state_after_resume s.setup (saved_of s) start ≡ record s { start = start }
resumed_same s start is = λ i. record {
  setup = s.setup;
  start = start;
  objects = objects_stay s start is i;
  standings = standings_stay s is i;
  results = results_stay s is i;
  runs = s.runs;
}
