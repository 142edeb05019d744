-- Laws of the runs that are out: the run of one object while another changes, their numbers, and forced marks.
use Rattle.std.proofs.Common.{◌≡◌, ◌≢◌, ℕ, zero, suc, ◌+◌, ◌<◌, ◌≤◌, ◌⊎◌, Bool, true, false, List, [], ◌∷◌, length, map, Option, Some, None}
use Rattle.std.proofs.Common.{option_map, refl, sym, ap, ◌∙◌, arith, inl, inr}
use Rattle.std.specs.Prelude.{is_some, option_and_then, slice_get}
use Rattle.std.specs.List.{list_all}
use Rattle.std.proofs.lemmas.Bool.{and_from}
use Rattle.check_sched.specs.Scheduling.{object_with_run}
use Rattle.check_saved_state.specs.Scheduling.{Scheduling, OpenRun, is_timed, is_timed_if_forced}
use Rattle.check_sched.specs.State.{State, run_number_of}
use Rattle.check_sched.specs.Step.{state_after_take, update_at, with_object}
use Rattle.check_sched.proofs.LimitLaws.{BeginsNone}

-- ---- the run of one object

-- the number of the run of the object at this place, if it is being checked
abbrev pub run_in : ℕ → List Scheduling → Option ℕ
run_in o xs = option_map (λ r. r.number) (option_and_then (λ x. x.run) (slice_get xs o))

-- another object that changes leaves it
pub run_apart : (n o : ℕ) (f : Scheduling → Scheduling) (xs : List Scheduling) → n ≢ o → run_in o (update_at n f xs) ≡ run_in o xs
run_apart n o f [] h = refl
run_apart zero zero f (x ∷ xs) h = absurd (h refl)
run_apart zero (suc o) f (x ∷ xs) h = refl
run_apart (suc n) zero f (x ∷ xs) h = refl
run_apart (suc n) (suc o) f (x ∷ xs) h = run_apart n o f xs (λ e. h (ap suc e))

-- so does a change that leaves the run
pub run_kept : (n o : ℕ) (f : Scheduling → Scheduling) (xs : List Scheduling) → ((x : Scheduling) → (f x).run ≡ x.run)
    → run_in o (update_at n f xs) ≡ run_in o xs
run_kept n o f [] h = refl
run_kept zero zero f (x ∷ xs) h = ap (option_map (λ r. r.number)) (h x)
run_kept zero (suc o) f (x ∷ xs) h = refl
run_kept (suc n) zero f (x ∷ xs) h = refl
run_kept (suc n) (suc o) f (x ∷ xs) h = run_kept n o f xs h

-- an object whose check begins runs
pub run_begun : (n : ℕ) (r : OpenRun) (xs : List Scheduling) → n < length xs → run_in n (update_at n (object_with_run r) xs) ≡ Some r.number
run_begun n r [] h = absurd (omega arith)
run_begun zero r (x ∷ xs) h = refl
run_begun (suc n) r (x ∷ xs) h = run_begun n r xs (omega arith)

-- ---- what was out before

numbered_by : (a b : Option OpenRun) (r : ℕ) → ((q : OpenRun) → a ≡ Some q → b ≡ Some q)
    → option_map (λ q. q.number) a ≡ Some r → option_map (λ q. q.number) b ≡ Some r
numbered_by None b r h e = cc
numbered_by (Some q) b r h e = rw (h q refl) e

-- what is out after a change that begins no run was out before it
run_before : (n o r : ℕ) (f : Scheduling → Scheduling) (xs : List Scheduling) → BeginsNone f → run_in o (update_at n f xs) ≡ Some r → run_in o xs ≡ Some r
run_before n o r f [] h e = e
run_before zero zero r f (x ∷ xs) h e = numbered_by (f x).run x.run r (h x) e
run_before zero (suc o) r f (x ∷ xs) h e = e
run_before (suc n) zero r f (x ∷ xs) h e = e
run_before (suc n) (suc o) r f (x ∷ xs) h e = run_before n o r f xs h e

-- what is out after a check began is that check, or was out before
begun_before : (n o r : ℕ) (q : OpenRun) (xs : List Scheduling) → run_in o (update_at n (object_with_run q) xs) ≡ Some r
    → ((o ≡ n) × (r ≡ q.number)) ⊎ (run_in o xs ≡ Some r)
begun_before n o r q [] e = inr e
begun_before zero zero r q (x ∷ xs) e = let same : r ≡ q.number = cc in inl (refl, same)
begun_before zero (suc o) r q (x ∷ xs) e = inr e
begun_before (suc n) zero r q (x ∷ xs) e = inr e
begun_before (suc n) (suc o) r q (x ∷ xs) e =
    elim (begun_before n o r q xs e) as (λ _. ((suc o ≡ suc n) × (r ≡ q.number)) ⊎ (run_in o xs ≡ Some r)) [
      | inl p ↦ inl (ap suc p.0, p.1)
      | inr was ↦ inr was
    ]

-- ---- the numbers of the runs that are out

-- each is one of the numbers that were handed out
abbrev pub AreNumbered : State → Type 0
AreNumbered s = (number run : ℕ) → run_number_of number s ≡ Some run → (1 ≤ run) × (run ≤ s.runs)

-- no two are the same
abbrev pub AreOnce : State → Type 0
AreOnce s = (one other run : ℕ) → run_number_of one s ≡ Some run → run_number_of other s ≡ Some run → one ≡ other

pub numbered_kept : (n : ℕ) (f : Scheduling → Scheduling) (s : State) → BeginsNone f → AreNumbered s → AreNumbered (with_object n f s)
numbered_kept n f s none was number run e = was number run (run_before n number run f s.objects none e)

pub once_kept : (n : ℕ) (f : Scheduling → Scheduling) (s : State) → BeginsNone f → AreOnce s → AreOnce (with_object n f s)
once_kept n f s none was one other run e g =
    was one other run (run_before n one run f s.objects none e) (run_before n other run f s.objects none g)

numbered_begun_by : (s : State) (number n run : ℕ) → AreNumbered s → ((number ≡ n) × (run ≡ s.runs + 1)) ⊎ (run_in number s.objects ≡ Some run)
    → (1 ≤ run) × (run ≤ s.runs + 1)
numbered_begun_by s number n run was (inl p) = let is = p.1 in (omega arith, omega arith)
numbered_begun_by s number n run was (inr e) = let h = was number run e in (omega arith, omega arith)

pub numbered_taken : (now n : ℕ) (s : State) → AreNumbered s → AreNumbered (state_after_take now n s)
numbered_taken now n s was number run e =
    numbered_begun_by s number n run was (begun_before n number run (record { number = s.runs + 1; start = now }) s.objects e)

once_begun_by : (s : State) (n one other run : ℕ) → AreNumbered s → AreOnce s → ((one ≡ n) × (run ≡ s.runs + 1)) ⊎ (run_in one s.objects ≡ Some run)
    → ((other ≡ n) × (run ≡ s.runs + 1)) ⊎ (run_in other s.objects ≡ Some run) → one ≡ other
once_begun_by s n one other run numbered was (inl p) (inl q) = p.0 ∙ sym q.0
once_begun_by s n one other run numbered was (inl p) (inr g) = let h = numbered other run g in let is = p.1 in absurd (omega arith)
once_begun_by s n one other run numbered was (inr e) (inl q) = let h = numbered one run e in let is = q.1 in absurd (omega arith)
once_begun_by s n one other run numbered was (inr e) (inr g) = was one other run e g

pub once_taken : (now n : ℕ) (s : State) → AreNumbered s → AreOnce s → AreOnce (state_after_take now n s)
once_taken now n s numbered was one other run e g =
    let q : OpenRun = record { number = s.runs + 1; start = now } in
    once_begun_by s n one other run numbered was (begun_before n one run q s.objects e) (begun_before n other run q s.objects g)

-- objects that are made without a run have none
pub none_out : {X : Type 0} (made : X → Scheduling) (xs : List X) (n r : ℕ) → ((x : X) → (made x).run ≡ None) → run_in n (map made xs) ≡ Some r → ⊥
none_out made [] n r h e = cc
none_out made (x ∷ xs) zero r h e = let none : option_map (λ q. q.number) (made x).run ≡ None = ap (option_map (λ q. q.number)) (h x) in cc
none_out made (x ∷ xs) (suc n) r h e = none_out made xs n r h e

-- ---- forced marks

-- a mark that is next to a time
pub timed_if : (next : Option ℕ) (forced : Bool) → (forced ≡ true → is_some next ≡ true) → is_timed next forced ≡ true
timed_if (Some time) forced h = refl
timed_if None true h = h refl
timed_if None false h = refl

pub timed_then : (next : Option ℕ) (forced : Bool) → is_timed next forced ≡ true → forced ≡ true → is_some next ≡ true
timed_then (Some time) forced h e = refl
timed_then None true h e = h
timed_then None false h e = cc

pub timed_unforced : (next : Option ℕ) → is_timed next false ≡ true
timed_unforced (Some time) = refl
timed_unforced None = refl

-- objects that are made with no forced mark
pub none_forced : {X : Type 0} (made : X → Scheduling) (xs : List X) → ((x : X) → is_timed_if_forced (made x) ≡ true)
    → list_all is_timed_if_forced (map made xs) ≡ true
none_forced made [] h = refl
none_forced made (x ∷ xs) h = and_from (is_timed_if_forced (made x)) _ (h x) (none_forced made xs h)
