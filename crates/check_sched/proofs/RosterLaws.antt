-- Laws of the roster: the queues of those that wait, and the count of services that run.
use Rattle.std.proofs.Common.{◌≡◌, ◌≢◌, ℕ, zero, suc, ◌+◌, ◌<◌, ◌≤◌, Bool, true, false, not, ◌&&◌, ◌||◌, cond, List, [], ◌∷◌, length, drop, take, get_or}
use Rattle.std.proofs.Common.{set}
use Rattle.std.proofs.Common.{replicate, Option, Some, None, option_map, refl, sym, ap, ◌∙◌, arith}
use mir.Val.{bool_byte}
use Rattle.std.specs.Prelude.{filter, is_some, nat_le, nat_lt}
use Rattle.std.specs.List.{list_all, list_any, enumerate_from, cons_option}
use Rattle.std.proofs.lemmas.Bool.Decides.{nat_tests}
use Rattle.std.proofs.lemmas.Bool.{and_parts, and_from}
use Rattle.std.proofs.lemmas.List.{drop_more, length-map, set-get_or}
use Rattle.std.proofs.lemmas.List.FromFn.{length-enumerate_from}
use Rattle.std.proofs.lemmas.List.Sums.{sum_by-set}
use Rattle.check_queue.specs.Order.{least}
use Rattle.check_queue.specs.Times.{pairs_from, pairs_of}
use Rattle.check_queue.proofs.LeastLaws.{FoundLeast, IsLeast, all_at, all_weaker, is_no_later, is_same, least_found, least_is_found, no_later_chain}
use Rattle.check_queue.proofs.LeastLaws.{no_later_holds, no_later_time, or_true}
use Rattle.check_sched.specs.Candidate.{Candidate, candidates_among, earlier_of}
use Rattle.check_sched.specs.Roster.{running_among, waiting_from, waiting_times}
use Rattle.check_sched.specs.Scheduling.{candidate_time}
use Rattle.check_saved_state.specs.Scheduling.{Scheduling}
use Rattle.check_sched.proofs.EligibleLaws.{filtered_meet, numbered, numbered_first}
use Rattle.check_sched.proofs.LimitLaws.{busy_cons}

-- ---- the times of those that wait

pub length-waiting_from : (k : ℕ) (picked : ℕ → Bool) (os : List Scheduling) → length (waiting_from k picked os) ≡ length os
length-waiting_from k picked os = length-map (enumerate_from k os) _ ∙ length-enumerate_from k os

-- the time for which an object waits, where its number is picked
abbrev time_picked : Bool → Scheduling → Option ℕ
time_picked picked o = cond picked (candidate_time o) None

-- one object written
waiting_written : (k n : ℕ) (picked : ℕ → Bool) (os : List Scheduling) (new : Scheduling) → n < length os
    → waiting_from k picked (set os n new) ≡ set (waiting_from k picked os) n (time_picked (picked (k + n)) new)
waiting_written k n picked [] new l = absurd (omega arith)
waiting_written k zero picked (o ∷ os) new l = ap (λ m. time_picked (picked m) new ∷ waiting_from (k + 1) picked os) (omega arith)
waiting_written k (suc n) picked (o ∷ os) new l =
    ap (λ ts. time_picked (picked k) o ∷ ts)
    (waiting_written (k + 1) n picked os new (omega arith)
    ∙ ap (λ m. set (waiting_from (k + 1) picked os) n (time_picked (picked m) new)) (omega arith))

-- the same of a test's answer
written_as : (n : ℕ) (picked : ℕ → Bool) (os : List Scheduling) (new : Scheduling) (is_picked : Bool) → n < length os → picked n ≡ is_picked
    → waiting_times picked (set os n new) ≡ set (waiting_times picked os) n (time_picked is_picked new)
written_as n picked os new is_picked l e =
    waiting_written 0 n picked os new l
    ∙ ap (λ b. set (waiting_times picked os) n (time_picked b new)) (ap picked (let z : 0 + n ≡ n = omega arith in z) ∙ e)

-- one object written that is picked
pub waiting_set : (n : ℕ) (picked : ℕ → Bool) (os : List Scheduling) (new : Scheduling) → n < length os → picked n ≡ true
    → set (waiting_times picked os) n (candidate_time new) ≡ waiting_times picked (set os n new)
waiting_set n picked os new l e = sym (written_as n picked os new true l e)

-- one object written that isn't: the one that was there leaves as much
pub waiting_apart : (n : ℕ) (picked : ℕ → Bool) (os : List Scheduling) (new : Scheduling) → n < length os → picked n ≡ false
    → waiting_times picked os ≡ waiting_times picked (set os n new)
waiting_apart n picked os new l e =
    ap (waiting_times picked) (sym (set-get_or os n new)) ∙ written_as n picked os (get_or os n new) false l e ∙ sym (written_as n picked os new false l e)

-- two tests that pick the same of some objects
pub waiting_agree : (k : ℕ) (p q : ℕ → Bool) (os : List Scheduling) → ((n : ℕ) → k ≤ n → n < k + length os → p n ≡ q n)
    → waiting_from k p os ≡ waiting_from k q os
waiting_agree k p q [] h = refl
waiting_agree k p q (o ∷ os) h =
    let here : p k ≡ q k = h k (omega arith) (omega arith) in
    rw here (ap (λ ts. cond (q k) (candidate_time o) None ∷ ts) (waiting_agree (k + 1) p q os (λ n l m. h n (omega arith) (omega arith))))

-- a test that picks none
pub waiting_none : (k : ℕ) (p : ℕ → Bool) (os : List Scheduling) → ((n : ℕ) → p n ≡ false) → replicate (length os) None ≡ waiting_from k p os
waiting_none k p [] h = refl
waiting_none k p (o ∷ os) h = let here : p k ≡ false = h k in rw here (ap (λ ts. None ∷ ts) (waiting_none (k + 1) p os h))

-- one number more that is picked
waiting_more_from : (k j : ℕ) (p q : ℕ → Bool) (os : List Scheduling) (d : Scheduling) → j < length os → q (k + j) ≡ true
    → ((n : ℕ) → n ≢ k + j → p n ≡ q n) → set (waiting_from k p os) j (candidate_time (get_or os j d)) ≡ waiting_from k q os
waiting_more_from k j p q [] d l e h = absurd (omega arith)
waiting_more_from k zero p q (o ∷ os) d l e h =
    let here : q k ≡ true = ap q (let z : k ≡ k + 0 = omega arith in z) ∙ e in
    rw here (ap (λ ts. candidate_time o ∷ ts) (waiting_agree (k + 1) p q os (λ n u v. h n (let w : n ≢ k + 0 = omega arith in w))))
waiting_more_from k (suc j) p q (o ∷ os) d l e h =
    let here : p k ≡ q k = h k (let w : k ≢ k + suc j = omega arith in w) in
    let same : k + 1 + j ≡ k + suc j = omega arith in
    rw here (ap (λ ts. cond (q k) (candidate_time o) None ∷ ts)
    (waiting_more_from (k + 1) j p q os d (omega arith) (ap q same ∙ e) (λ n u. h n (λ f. u (f ∙ sym same)))))

-- the numbers from one on and below another
abbrev pub between : ℕ → ℕ → ℕ → Bool
between from to n = nat_le from n && nat_lt n to

pub between_more : (from n : ℕ) (os : List Scheduling) (d : Scheduling) → from ≤ n → n < length os
    → set (waiting_times (between from n) os) n (candidate_time (get_or os n d)) ≡ waiting_times (between from (n + 1)) os
between_more from n os d a l =
    waiting_more_from 0 n (between from n) (between from (n + 1)) os d l
    (let z : 0 + n ≡ n = omega arith in rw z (grind (arith, nat_tests, a)))
    (λ m u. let v : m ≢ n = omega arith in grind (arith, nat_tests, v))

-- the same by what the loop has
pub set_next : (from n : ℕ) (times : List (Option ℕ)) (os : List Scheduling) (o d : Scheduling) → times ≡ waiting_times (between from n) os
    → o ≡ get_or os n d → from ≤ n → n < length os → set times n (candidate_time o) ≡ waiting_times (between from (n + 1)) os
set_next from n times os o d e f a l = (λ i. set (e i) n (candidate_time (f i))) ∙ between_more from n os d a l

pub between_none : (from : ℕ) (os : List Scheduling) → replicate (length os) None ≡ waiting_times (between from from) os
between_none from os = waiting_none 0 (between from from) os (λ n. grind (arith, nat_tests))

-- the hosts have the first numbers, and the services all others
pub between_hosts : (hosts : ℕ) (os : List Scheduling) → waiting_times (between 0 hosts) os ≡ waiting_times (λ n. nat_lt n hosts) os
between_hosts hosts os = waiting_agree 0 (between 0 hosts) (λ n. nat_lt n hosts) os (λ n a b. grind (arith, nat_tests))

pub between_services : (hosts : ℕ) (os : List Scheduling) → waiting_times (between hosts (length os)) os ≡ waiting_times (λ n. not (nat_lt n hosts)) os
between_services hosts os =
    waiting_agree 0 (between hosts (length os)) (λ n. not (nat_lt n hosts)) os (λ n a b. let l : n < length os = omega arith in grind (arith, nat_tests, l))

-- ---- the candidates of those that wait

picked_by : (k : ℕ) (picked : ℕ → Bool) (t : Option ℕ) (cs ds : List Candidate) (b : Bool) → picked k ≡ b → cs ≡ filter (λ c. picked c.1) ds
    → cons_option (option_map (λ time. (time, k)) (cond b t None)) cs ≡ filter (λ c. picked c.1) (cons_option (option_map (λ time. (time, k)) t) ds)
picked_by k picked None cs ds true e h = h
picked_by k picked None cs ds false e h = h
picked_by k picked (Some t) cs ds true e h = rw e (ap (λ l. (t, k) ∷ l) h)
picked_by k picked (Some t) cs ds false e h = rw e h

-- the pairs of the times of those that are picked are the candidates that are
picked_from : (k : ℕ) (picked : ℕ → Bool) (os : List Scheduling) → pairs_from k (waiting_from k picked os) ≡ filter (λ c. picked c.1) (numbered k os)
picked_from k picked [] = refl
picked_from k picked (o ∷ os) = picked_by k picked (candidate_time o) _ _ (picked k) refl (picked_from (k + 1) picked os)

pub picked_pairs : (picked : ℕ → Bool) (os : List Scheduling) → pairs_of (waiting_times picked os) ≡ filter (λ c. picked c.1) (candidates_among os)
picked_pairs picked os = picked_from 0 picked os

-- the first of the hosts' queue
pub first_of_hosts : (hosts : ℕ) (os : List Scheduling) → least (pairs_of (waiting_times (λ n. nat_lt n hosts) os)) ≡ least (candidates_among (take hosts os))
first_of_hosts hosts os = ap least (picked_pairs (λ n. nat_lt n hosts) os ∙ sym (numbered_first 0 hosts hosts os (omega arith)))

-- ---- the first of both queues

joined_by : (f : Candidate → Bool) (c : Candidate) (cs ds es : List Candidate) (b : Bool) → list_all f (cond b (c ∷ ds) ds) ≡ true
    → list_all f (cond (not b) (c ∷ es) es) ≡ true → (list_all f ds ≡ true → list_all f es ≡ true → list_all f cs ≡ true) → list_all f (c ∷ cs) ≡ true
joined_by f c cs ds es true d e more = let both = and_parts (f c) (list_all f ds) d in and_from (f c) (list_all f cs) both.0 (more both.1 e)
joined_by f c cs ds es false d e more = let both = and_parts (f c) (list_all f es) e in and_from (f c) (list_all f cs) both.0 (more d both.1)

-- what is true of those that pass a test, and of those that don't, is true of all
all_joined : (f p : Candidate → Bool) (cs : List Candidate) → list_all f (filter p cs) ≡ true → list_all f (filter (λ c. not (p c)) cs) ≡ true
    → list_all f cs ≡ true
all_joined f p [] d e = refl
all_joined f p (c ∷ cs) d e = joined_by f c cs (filter p cs) (filter (λ x. not (p x)) cs) (p c) d e (all_joined f p cs)

some_by : (a b c : Bool) → (a || b) ≡ true → (b ≡ true → c ≡ true) → (a || c) ≡ true
some_by true b c e h = refl
some_by false b c e h = h e

unfiltered_by : (f : Candidate → Bool) (c : Candidate) (cs ds : List Candidate) (b : Bool) → list_any f (cond b (c ∷ ds) ds) ≡ true
    → (list_any f ds ≡ true → list_any f cs ≡ true) → list_any f (c ∷ cs) ≡ true
unfiltered_by f c cs ds true e more = some_by (f c) (list_any f ds) (list_any f cs) e more
unfiltered_by f c cs ds false e more = or_true (f c) (list_any f cs) (more e)

any_unfiltered : (f p : Candidate → Bool) (cs : List Candidate) → list_any f (filter p cs) ≡ true → list_any f cs ≡ true
any_unfiltered f p [] e = e
any_unfiltered f p (c ∷ cs) e = unfiltered_by f c cs (filter p cs) (p c) e (any_unfiltered f p cs)

empty_by : (c : Candidate) (cs ds es : List Candidate) (b : Bool) → cond b (c ∷ ds) ds ≡ [] → cond (not b) (c ∷ es) es ≡ [] → c ∷ cs ≡ []
empty_by c cs ds es true d e = cc
empty_by c cs ds es false d e = cc

none_joined : (p : Candidate → Bool) (cs : List Candidate) → filter p cs ≡ [] → filter (λ c. not (p c)) cs ≡ [] → cs ≡ []
none_joined p [] d e = refl
none_joined p (c ∷ cs) d e = empty_by c cs (filter p cs) (filter (λ x. not (p x)) cs) (p c) d e

-- whether a candidate is a host
abbrev is_first : ℕ → Candidate → Bool
is_first hosts c = nat_lt c.1 hosts

joined : (hosts : ℕ) (c : Candidate) (cs : List Candidate) → list_any (is_same c) cs ≡ true → list_all (is_no_later c) (filter (is_first hosts) cs) ≡ true
    → list_all (is_no_later c) (filter (λ d. not (is_first hosts d)) cs) ≡ true → IsLeast c cs
joined hosts c cs e f g = record { among = e; first = all_joined (is_no_later c) (is_first hosts) cs f g }

earlier_by : (hosts : ℕ) (c d : Candidate) (cs : List Candidate) (b : Bool) → nat_lt d.0 c.0 ≡ b → IsLeast c (filter (is_first hosts) cs)
    → IsLeast d (filter (λ x. not (is_first hosts x)) cs) → FoundLeast (cond b (Some d) (Some c)) cs
earlier_by hosts c d cs true e g h =
    let less : d.0 < c.0 = grind (arith, nat_tests, e) in
    joined hosts d cs (any_unfiltered (is_same d) (λ x. not (is_first hosts x)) cs h.among)
    (all_weaker (is_no_later c) (is_no_later d) (filter (is_first hosts) cs)
    (λ x f. let t = no_later_time c x f in no_later_holds d x (omega (arith, less, t)) (λ s. absurd (omega (arith, less, t, s)))) g.first) h.first
earlier_by hosts c d cs false e g h =
    let le : c.0 ≤ d.0 = grind (arith, nat_tests, e) in
    let host : c.1 < hosts = let t = all_at (is_first hosts) c (filter (is_first hosts) cs) g.among (filtered_meet (is_first hosts) cs) in
    grind (arith, nat_tests, t) in
    let service : hosts ≤ d.1 =
    let t = all_at (λ x. not (is_first hosts x)) d (filter (λ x. not (is_first hosts x)) cs) h.among (filtered_meet (λ x. not (is_first hosts x)) cs) in
    grind (arith, nat_tests, t) in
    joined hosts c cs (any_unfiltered (is_same c) (is_first hosts) cs g.among) g.first
    (all_weaker (is_no_later d) (is_no_later c) (filter (λ x. not (is_first hosts x)) cs)
    (λ x f. no_later_chain c d x (no_later_holds c d le (λ s. omega (arith, host, service))) f) h.first)

found_joined : (hosts : ℕ) (cs : List Candidate) (c d : Option Candidate) → FoundLeast c (filter (is_first hosts) cs)
    → FoundLeast d (filter (λ x. not (is_first hosts x)) cs) → FoundLeast (earlier_of c d) cs
found_joined hosts cs None None g h = none_joined (is_first hosts) cs g h
found_joined hosts cs None (Some d) g h =
    joined hosts d cs (any_unfiltered (is_same d) (λ x. not (is_first hosts x)) cs h.among) (rw g refl) h.first
found_joined hosts cs (Some c) None g h = joined hosts c cs (any_unfiltered (is_same c) (is_first hosts) cs g.among) g.first (rw h refl)
found_joined hosts cs (Some c) (Some d) g h = earlier_by hosts c d cs (nat_lt d.0 c.0) refl g h

-- the earlier of the first of both queues is the least of all that wait
pub first_of_both : (hosts : ℕ) (os : List Scheduling)
    → earlier_of (least (pairs_of (waiting_times (λ n. nat_lt n hosts) os))) (least (pairs_of (waiting_times (λ n. not (nat_lt n hosts)) os)))
    ≡ least (candidates_among os)
first_of_both hosts os =
    ap (λ ps. earlier_of (least ps) (least (pairs_of (waiting_times (λ n. not (nat_lt n hosts)) os)))) (picked_pairs (λ n. nat_lt n hosts) os)
    ∙ ap (λ ps. earlier_of (least (filter (is_first hosts) (candidates_among os))) (least ps)) (picked_pairs (λ n. not (nat_lt n hosts)) os)
    ∙ least_found _ (candidates_among os) (found_joined hosts (candidates_among os) _ _ (least_is_found (filter (is_first hosts) (candidates_among os)))
    (least_is_found (filter (λ c. not (is_first hosts c)) (candidates_among os))))

-- ---- the count

byte_is : (b : Bool) → bool_byte b ≡ cond b 1 0
byte_is true = refl
byte_is false = refl

counted : (hosts n : ℕ) (os : List Scheduling) (old new : Scheduling) → n < length os → hosts ≤ n → old ≡ get_or os n old
    → running_among (drop hosts (set os n new)) + cond (is_some old.run) 1 0 ≡ running_among (drop hosts os) + cond (is_some new.run) 1 0
counted zero n os old new l h e =
    ap (λ (o : Scheduling). running_among (set os n new) + cond (is_some o.run) 1 0) e
    ∙ sum_by-set (λ (o : Scheduling). cond (is_some o.run) 1 0) os n new old l
counted (suc hosts) n [] old new l h e = absurd (omega arith)
counted (suc hosts) zero (o ∷ os) old new l h e = absurd (omega arith)
counted (suc hosts) (suc n) (o ∷ os) old new l h e = counted hosts n os old new (omega arith) (omega arith) e

-- one service written: the count gains whether it runs now, and loses whether it ran before
pub running_set : (hosts n : ℕ) (os : List Scheduling) (old new : Scheduling) → n < length os → hosts ≤ n → old ≡ get_or os n old
    → running_among (drop hosts (set os n new)) + bool_byte (is_some old.run) ≡ running_among (drop hosts os) + bool_byte (is_some new.run)
running_set hosts n os old new l h e = rw (byte_is (is_some old.run), byte_is (is_some new.run)) (counted hosts n os old new l h e)

-- so what is taken away is there
pub running_left : (hosts n : ℕ) (os : List Scheduling) (old new : Scheduling) → n < length os → hosts ≤ n → old ≡ get_or os n old
    → bool_byte (is_some old.run) ≤ running_among (drop hosts os) + bool_byte (is_some new.run)
running_left hosts n os old new l h e = let more = running_set hosts n os old new l h e in omega (arith, more)

-- one host written
pub running_apart : (hosts n : ℕ) (os : List Scheduling) (new : Scheduling) → n < hosts → drop hosts os ≡ drop hosts (set os n new)
running_apart zero n os new l = absurd (omega arith)
running_apart (suc hosts) n [] new l = refl
running_apart (suc hosts) zero (o ∷ os) new l = refl
running_apart (suc hosts) (suc n) (o ∷ os) new l = running_apart hosts n os new (omega arith)

-- the count of those from one on is by the first of them and the others
pub running_next : (n : ℕ) (os : List Scheduling) (o : Scheduling) → n < length os → o ≡ get_or os n o
    → running_among (drop n os) ≡ bool_byte (is_some o.run) + running_among (drop (n + 1) os)
running_next n os o l e =
    ap running_among (drop_more os n o l) ∙ busy_cons (get_or os n o) (drop (n + 1) os)
    ∙ ap (λ (x : Scheduling). cond (is_some x.run) 1 0 + running_among (drop (n + 1) os)) (sym e)
    ∙ ap (λ b. b + running_among (drop (n + 1) os)) (sym (byte_is (is_some o.run)))

pub byte_few : (b : Bool) → bool_byte b ≤ 1
byte_few true = omega arith
byte_few false = omega arith
