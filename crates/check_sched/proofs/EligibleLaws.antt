-- Laws of the candidates whose check may begin.
use Rattle.std.proofs.Common.{◌≡◌, ℕ, zero, suc, ◌+◌, ◌<◌, ◌≤◌, Bool, true, false, not, ◌||◌, cond, List, [], ◌∷◌, take, Option, Some, None, option_map}
use Rattle.std.proofs.Common.{refl, sym, ap, subst, ◌∙◌, arith}
use Rattle.std.specs.Prelude.{filter, nat_le, nat_lt}
use Rattle.std.specs.List.{list_all, list_any, filter_map, enumerate_from, cons_option}
use Rattle.std.proofs.Math.Bool.{or-false}
use Rattle.std.proofs.lemmas.Bool.Decides.{nat_tests}
use Rattle.std.proofs.lemmas.Bool.{and_from}
use Rattle.check_objects.specs.Configuration.{Configuration, host_count}
use Rattle.check_sched.specs.Scheduling.{candidate_time}
use Rattle.check_saved_state.specs.Scheduling.{Scheduling}
use Rattle.check_sched.specs.Candidate.{Candidate, candidate, candidates_among, due_among, if_due}
use Rattle.check_queue.specs.Order.{least}
use Rattle.check_sched.specs.declared.call.Reply.{Reply}
use Rattle.check_sched.specs.declared.call.Reply.TheVariants as reply
use Rattle.check_sched.specs.State.{State, is_below_limit, is_host}
use Rattle.check_sched.specs.Step.{candidates, due_candidates, eligible_candidates, is_startable, waiting_reply}
use Rattle.check_queue.proofs.LeastLaws.{FoundLeast, IsLeast, all_at_least, any_filtered, is_same, least_is_found, none_filtered, same_is}
use Rattle.check_sched.proofs.CandidateLaws.{least_due}

-- ---- filters

filtered_by : (p : Candidate → Bool) (c : Candidate) (cs : List Candidate) (b : Bool) → p c ≡ b → list_all p (filter p cs) ≡ true
    → list_all p (cond b (c ∷ filter p cs) (filter p cs)) ≡ true
filtered_by p c cs true e h = and_from (p c) _ e h
filtered_by p c cs false e h = h

-- what a filter lets through passes its test
pub filtered_meet : (p : Candidate → Bool) (cs : List Candidate) → list_all p (filter p cs) ≡ true
filtered_meet p [] = refl
filtered_meet p (c ∷ cs) = filtered_by p c cs (p c) refl (filtered_meet p cs)

-- a filter that lets all through
filter_every : (p : Candidate → Bool) (cs : List Candidate) → ((c : Candidate) → p c ≡ true) → filter p cs ≡ cs
filter_every p [] h = refl
filter_every p (c ∷ cs) h = let here = h c in rw here (ap (λ l. c ∷ l) (filter_every p cs h))

swap_by : (p q : Candidate → Bool) (c : Candidate) (cs : List Candidate) (a b : Bool) → p c ≡ a → q c ≡ b → filter p (filter q cs) ≡ filter q (filter p cs)
    → filter p (cond b (c ∷ filter q cs) (filter q cs)) ≡ filter q (cond a (c ∷ filter p cs) (filter p cs))
swap_by p q c cs true true e f h = rw (e, f) (ap (λ l. c ∷ l) h)
swap_by p q c cs true false e f h = rw f h
swap_by p q c cs false true e f h = rw e h
swap_by p q c cs false false e f h = h

-- two filters in either order
filter_swap : (p q : Candidate → Bool) (cs : List Candidate) → filter p (filter q cs) ≡ filter q (filter p cs)
filter_swap p q [] = refl
filter_swap p q (c ∷ cs) = swap_by p q c cs (p c) (q c) refl refl (filter_swap p q cs)

or_right : (b : Bool) → (b || true) ≡ true
or_right true = refl
or_right false = refl

-- ---- the candidates among the first objects

-- the candidates among objects that stand by number from k on
abbrev pub numbered : ℕ → List Scheduling → List Candidate
numbered k objects = filter_map (λ p. candidate p.0 p.1) (enumerate_from k objects)

past_by : (k n : ℕ) (t : Option ℕ) (cs : List Candidate) → n ≤ k → list_all (λ c. not (nat_lt c.1 n)) cs ≡ true
    → list_all (λ c. not (nat_lt c.1 n)) (cons_option (option_map (λ time. (time, k)) t) cs) ≡ true
past_by k n None cs l e = e
past_by k n (Some t) cs l e = and_from (not (nat_lt k n)) _ (grind (arith, nat_tests, l)) e

numbered_past : (k n : ℕ) (objects : List Scheduling) → n ≤ k → list_all (λ c. not (nat_lt c.1 n)) (numbered k objects) ≡ true
numbered_past k n [] l = refl
numbered_past k n (o ∷ objects) l = past_by k n (candidate_time o) _ l (numbered_past (k + 1) n objects (omega arith))

first_by : (k n : ℕ) (t : Option ℕ) (cs ds : List Candidate) → k < n → cs ≡ filter (λ c. nat_lt c.1 n) ds
    → cons_option (option_map (λ time. (time, k)) t) cs ≡ filter (λ c. nat_lt c.1 n) (cons_option (option_map (λ time. (time, k)) t) ds)
first_by k n None cs ds l e = e
first_by k n (Some t) cs ds l e = let here : nat_lt k n ≡ true = grind (arith, nat_tests, l) in rw here (ap (λ l. (t, k) ∷ l) e)

pub numbered_first : (k m n : ℕ) (objects : List Scheduling) → k + m ≡ n → numbered k (take m objects) ≡ filter (λ c. nat_lt c.1 n) (numbered k objects)
numbered_first k zero n objects e = sym (none_filtered (λ c. nat_lt c.1 n) (numbered k objects) (numbered_past k n objects (omega arith)))
numbered_first k (suc m) n [] e = refl
numbered_first k (suc m) n (o ∷ objects) e = first_by k n (candidate_time o) _ _ (omega arith) (numbered_first (k + 1) m n objects (omega arith))

-- ---- those whose check may begin

open_by : (now : ℕ) (setup : Configuration) (objects : List Scheduling) (room : Bool)
    → filter (λ c. is_host setup c.1 || room) (due_among now (candidates_among objects))
    ≡ due_among now (candidates_among (cond room objects (take (host_count setup) objects)))
open_by now setup objects true = filter_every (λ c. is_host setup c.1 || true) (due_among now (candidates_among objects)) (λ c. or_right (is_host setup c.1))
open_by now setup objects false =
    ap (λ p. filter p (due_among now (candidates_among objects))) (λ i c. or-false (is_host setup c.1) i)
    ∙ filter_swap (λ c. is_host setup c.1) (λ c. nat_le c.0 now) (candidates_among objects)
    ∙ ap (due_among now) (sym (numbered_first 0 (host_count setup) (host_count setup) objects (omega arith)))

-- they are the due among all objects, or among the hosts, by whether there is room
pub eligible_is : (now : ℕ) (s : State) (room : Bool) → is_below_limit s ≡ room
    → eligible_candidates now s ≡ due_among now (candidates_among (cond room s.objects (take (host_count s.setup) s.objects)))
eligible_is now s room e = ap (λ b. filter (λ c. is_host s.setup c.1 || b) (due_among now (candidates_among s.objects))) e ∙ open_by now s.setup s.objects room

-- the check of the one that is chosen may begin
pub eligible_open : (now : ℕ) (s : State) (c : Candidate) → least (eligible_candidates now s) ≡ Some c → is_startable s c.1 ≡ true
eligible_open now s c e = all_at_least (λ x. is_startable s x.1) c (eligible_candidates now s) e (filtered_meet (λ x. is_startable s x.1) (due_candidates now s))

-- ---- the reply where none may begin

waiting_by : (P : Reply → Type 0) (late : Bool) (next : Option ℕ) → P reply.AtLimit → P (reply.Idle next) → P (cond late reply.AtLimit (reply.Idle next))
waiting_by P true next limit idle = limit
waiting_by P false next limit idle = idle

-- it is one of two
pub waiting_cases : (P : Reply → Type 0) (now : ℕ) (s : State) → P reply.AtLimit → P (reply.Idle (option_map (λ c. c.0) (least (candidates s))))
    → P (waiting_reply now s)
waiting_cases P now s limit idle = waiting_by P (list_any (λ c. not (is_host s.setup c.1)) (due_candidates now s)) _ limit idle

any_same_by : (p : Candidate → Bool) (c d : Candidate) (cs : List Candidate) (b : Bool) → is_same c d ≡ b → p c ≡ true
    → (b || list_any (is_same c) cs) ≡ true → (list_any (is_same c) cs ≡ true → list_any p cs ≡ true) → (p d || list_any p cs) ≡ true
any_same_by p c d cs true e h m more = let here : p d ≡ true = subst (λ x. p x ≡ true) (same_is c d e) h in rw here refl
any_same_by p c d cs false e h m more = rw (more m) (or_right (p d))

any_same : (p : Candidate → Bool) (c : Candidate) (cs : List Candidate) → p c ≡ true → list_any (is_same c) cs ≡ true → list_any p cs ≡ true
any_same p c [] h m = m
any_same p c (d ∷ cs) h m = any_same_by p c d cs (is_same c d) refl h m (λ n. any_same p c cs h n)

least_none : (cs : List Candidate) → least cs ≡ None → cs ≡ []
least_none cs e = subst (λ first. FoundLeast first cs) e (least_is_found cs)

least_some : (c : Candidate) (cs : List Candidate) → least cs ≡ Some c → IsLeast c cs
least_some c cs e = subst (λ first. FoundLeast first cs) e (least_is_found cs)

-- the least of all that wait, where it is due, is the least of the due
due_least : (now : ℕ) (s : State) (c : Candidate) → least (candidates s) ≡ Some c → c.0 ≤ now → least (due_candidates now s) ≡ Some c
due_least now s c e l =
    let is_due : nat_le c.0 now ≡ true = grind (arith, nat_tests, l) in
    sym (least_due now (candidates s)) ∙ ap (if_due now) e ∙ ap (λ b. cond b (Some c) None) is_due

closed_by : (now : ℕ) (s : State) (c : Candidate) (host : Bool) → is_host s.setup c.1 ≡ host → eligible_candidates now s ≡ []
    → list_any (is_same c) (due_candidates now s) ≡ true → host ≡ false
closed_by now s c false e none m = refl
closed_by now s c true e none m =
    let here : is_startable s c.1 ≡ true = rw e refl in
    let among : list_any (is_same c) (eligible_candidates now s) ≡ true = any_filtered c (λ x. is_startable s x.1) (due_candidates now s) here m in
    let empty : list_any (is_same c) (eligible_candidates now s) ≡ false = ap (list_any (is_same c)) none in
    cc

-- none may begin, and the least of all that wait is due: it is a service, and the limit is reached
pub waiting_at_limit : (now : ℕ) (s : State) (c : Candidate) → least (eligible_candidates now s) ≡ None → least (candidates s) ≡ Some c → c.0 ≤ now
    → waiting_reply now s ≡ reply.AtLimit
waiting_at_limit now s c none e l =
    let among = (least_some c (due_candidates now s) (due_least now s c e l)).among in
    let service : is_host s.setup c.1 ≡ false = closed_by now s c (is_host s.setup c.1) refl (least_none (eligible_candidates now s) none) among in
    let here : not (is_host s.setup c.1) ≡ true = ap not service in
    ap (λ b. cond b reply.AtLimit (reply.Idle (option_map (λ x. x.0) (least (candidates s)))))
    (any_same (λ x. not (is_host s.setup x.1)) c (due_candidates now s) here among)

none_due : (now : ℕ) (s : State) → least (due_candidates now s) ≡ None → waiting_reply now s ≡ reply.Idle (option_map (λ x. x.0) (least (candidates s)))
none_due now s e =
    ap (λ l. cond (list_any (λ c. not (is_host s.setup c.1)) l) reply.AtLimit (reply.Idle (option_map (λ x. x.0) (least (candidates s)))))
    (least_none (due_candidates now s) e)

-- the least of all that wait isn't due, and so none is
pub waiting_early : (now : ℕ) (s : State) (c : Candidate) → least (candidates s) ≡ Some c → now < c.0 → waiting_reply now s ≡ reply.Idle (Some c.0)
waiting_early now s c e l =
    let is_late : nat_le c.0 now ≡ false = grind (arith, nat_tests, l) in
    let none : least (due_candidates now s) ≡ None = sym (least_due now (candidates s)) ∙ ap (if_due now) e ∙ ap (λ b. cond b (Some c) None) is_late in
    none_due now s none ∙ ap (λ f. reply.Idle (option_map (λ x. x.0) f)) e

-- none waits
pub waiting_none : (now : ℕ) (s : State) → least (candidates s) ≡ None → waiting_reply now s ≡ reply.Idle None
waiting_none now s e =
    let none : least (due_candidates now s) ≡ None = sym (least_due now (candidates s)) ∙ ap (if_due now) e in
    none_due now s none ∙ ap (λ f. reply.Idle (option_map (λ x. x.0) f)) e
