-- Laws of the candidates.
use Rattle.std.proofs.Common.{◌≡◌, ℕ, ◌+◌, ◌<◌, ◌≤◌, ◌^◌, Bool, true, false, not, cond, List, [], ◌∷◌, length, Option, Some, None}
use Rattle.std.proofs.Common.{option_map, refl, arith}
use Rattle.std.specs.Prelude.{nat_lt, nat_le}
use Rattle.std.specs.List.{list_all, filter_map, enumerate_from, cons_option}
use Rattle.std.proofs.lemmas.Bool.Decides.{nat_tests}
use Rattle.std.proofs.lemmas.Bool.{and_parts, and_from}
use Rattle.check_sched.specs.Scheduling.{candidate_time}
use Rattle.check_saved_state.specs.Scheduling.{Scheduling, is_time, is_moment, is_in_time}
use Rattle.check_sched.specs.Candidate.{Candidate, candidate, candidates_among, due_among, if_due}
use Rattle.check_queue.specs.Order.{least}
use Rattle.check_queue.proofs.LeastLaws.{FoundLeast, IsLeast, all_filtered, all_weaker, any_filtered, is_no_later, least_found, least_is_found}
use Rattle.check_queue.proofs.LeastLaws.{no_later_time, none_filtered}

-- ---- those that are due

late_by : (now : ℕ) (c d : Candidate) → now < c.0 → is_no_later c d ≡ true → not (nat_le d.0 now) ≡ true
late_by now c d l e = let t = no_later_time c d e in grind (arith, nat_tests, l, t)

found_due_by : (now : ℕ) (c : Candidate) (cs : List Candidate) (b : Bool) → nat_le c.0 now ≡ b → IsLeast c cs
    → FoundLeast (cond b (Some c) None) (due_among now cs)
found_due_by now c cs true s h = record {
  among = any_filtered c (λ d. nat_le d.0 now) cs s h.among;
  first = all_filtered (is_no_later c) (λ d. nat_le d.0 now) cs h.first;
}
found_due_by now c cs false s h =
    let l : now < c.0 = grind (arith, nat_tests, s) in
    none_filtered (λ d. nat_le d.0 now) cs (all_weaker (is_no_later c) (λ d. not (nat_le d.0 now)) cs (λ d e. late_by now c d l e) h.first)

found_due : (now : ℕ) (first : Option Candidate) (cs : List Candidate) → FoundLeast first cs → FoundLeast (if_due now first) (due_among now cs)
found_due now None cs e = rw e refl
found_due now (Some c) cs h = found_due_by now c cs (nat_le c.0 now) refl h

-- The least of all that wait is the least of those that are due, where it is due; else none is.
pub least_due : (now : ℕ) (cs : List Candidate) → if_due now (least cs) ≡ least (due_among now cs)
least_due now cs = least_found (if_due now (least cs)) (due_among now cs) (found_due now (least cs) cs (least_is_found cs))

-- ---- candidates and objects

within_by : (k n : ℕ) (t : Option ℕ) (cs : List Candidate) → k < n → list_all (λ c. nat_lt c.1 n) cs ≡ true
    → list_all (λ c. nat_lt c.1 n) (cons_option (option_map (λ time. (time, k)) t) cs) ≡ true
within_by k n None cs l e = e
within_by k n (Some t) cs l e = and_from (nat_lt k n) _ (grind (arith, nat_tests, l)) e

within_from : (k n : ℕ) (objects : List Scheduling) → k + length objects ≤ n
    → list_all (λ c. nat_lt c.1 n) (filter_map (λ p. candidate p.0 p.1) (enumerate_from k objects)) ≡ true
within_from k n [] l = refl
within_from k n (o ∷ objects) l = within_by k n (candidate_time o) _ (omega arith) (within_from (k + 1) n objects (omega arith))

-- each candidate is one of the objects
pub candidates_within : (objects : List Scheduling) → list_all (λ c. nat_lt c.1 (length objects)) (candidates_among objects) ≡ true
candidates_within objects = within_from 0 (length objects) objects (omega arith)

time_by : (b : Bool) (next : Option ℕ) → is_time next ≡ true → is_time (cond b next None) ≡ true
time_by true next e = e
time_by false next e = refl

times_by : (k : ℕ) (t : Option ℕ) (cs : List Candidate) → is_time t ≡ true → list_all (λ c. nat_le c.0 (2 ^ 61)) cs ≡ true
    → list_all (λ c. nat_le c.0 (2 ^ 61)) (cons_option (option_map (λ time. (time, k)) t) cs) ≡ true
times_by k None cs l e = e
times_by k (Some t) cs l e = and_from (nat_le t (2 ^ 61)) _ l e

times_from : (k : ℕ) (objects : List Scheduling) → list_all is_in_time objects ≡ true
    → list_all (λ c. nat_le c.0 (2 ^ 61)) (filter_map (λ p. candidate p.0 p.1) (enumerate_from k objects)) ≡ true
times_from k [] e = refl
times_from k (o ∷ objects) e =
    let both = and_parts (is_in_time o) (list_all is_in_time objects) e in
    let here = and_parts (is_time o.next) (is_moment o.run) both.0 in
    times_by k (candidate_time o) _ (time_by _ o.next here.0) (times_from (k + 1) objects both.1)

-- where no next time is past the limit, no candidate's is
pub candidates_times : (objects : List Scheduling) → list_all is_in_time objects ≡ true → list_all (λ c. nat_le c.0 (2 ^ 61)) (candidates_among objects) ≡ true
candidates_times objects e = times_from 0 objects e
