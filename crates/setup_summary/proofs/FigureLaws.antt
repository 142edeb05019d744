-- What the figures add up to.
use Rattle.std.proofs.Common.{◌≡◌, Bool, true, false, ℕ, zero, suc, ◌+◌, ◌&&◌, ◌||◌, ◌==◌, List, [], ◌∷◌, ◌++◌, cond, drop, length, map, not, take, Option}
use Rattle.std.proofs.Common.{Some, None, refl, sym, ap, ◌∙◌, arith, zero-add}
use Rattle.std.proofs.lemmas.List.Sums.{sum_by-append, sum_by-cons}
use Rattle.std.specs.Prelude.{count_by, is_none, is_some, nat_lt, zip}
use Rattle.std.specs.List.{enumerate_from}
use Rattle.check_objects.specs.Configuration.{Configuration, NamedObject, host_count, object_count, objects_of}
use Rattle.check_saved_state.specs.Saved.{Saved, SavedObject, saved_by_name}
use Rattle.check_saved_state.specs.Scheduling.{OpenRun, Scheduling}
use Rattle.check_sched.specs.Roster.{running_among}
use Rattle.check_sched.specs.Saved.{object_after_abandon, keeps_limit, objects_kept, objects_after_resume, scheduling_after_resume, time_among, within_limit}
use Rattle.check_sched.specs.State.{limit_of}
use Rattle.check_sched.proofs.LimitLaws.{busy_cons, busy_none}
use Rattle.setup_summary.specs.Changes.{ended_count, abandoned_count, kept_count, new_count}
use Rattle.setup_summary.proofs.FigureLemmas.{out_from, scheduled}

-- ---- kept and new

one_of : (b : Bool) → cond b 1 0 + cond (not b) 1 0 ≡ 1
one_of true = refl
one_of false = refl

pub yes_and_no : {X : Type 0} (p q : X → Bool) (xs : List X) → ((x : X) → q x ≡ not (p x)) → count_by p xs + count_by q xs ≡ length xs
yes_and_no p q [] h = refl
yes_and_no p q (x ∷ xs) h =
    let again = yes_and_no p q xs h in
    let yes = sum_by-cons (λ y. cond (p y) 1 0) x xs in
    let no = sum_by-cons (λ y. cond (q y) 1 0) x xs in
    let one : cond (p x) 1 0 + cond (q x) 1 0 ≡ 1 = ap (λ b. cond (p x) 1 0 + cond b 1 0) (h x) ∙ one_of (p x) in
    omega (arith, again, yes, no, one)

none_is : (found : Option SavedObject) → is_none found ≡ not (is_some found)
none_is None = refl
none_is (Some x) = refl

pub kept_or_new : (c : Configuration) (saved : Saved) → kept_count c saved + new_count c saved ≡ object_count c
kept_or_new c saved =
    yes_and_no (λ (n : NamedObject). is_some (saved_by_name saved n.name)) (λ (n : NamedObject). is_none (saved_by_name saved n.name)) (objects_of c)
    (λ n. none_is (saved_by_name saved n.name))

-- ---- runs that are given up

idle_by : (now : ℕ) (o : Scheduling) (run : Option OpenRun) → o.run ≡ run → is_some (object_after_abandon now o).run ≡ false
idle_by now o None e = rw e refl
idle_by now o (Some run) e = rw e refl

none_given : (now : ℕ) (os : List Scheduling) → running_among (map (object_after_abandon now) os) ≡ 0
none_given now os = busy_none (object_after_abandon now) os (λ o. idle_by now o o.run refl)

apart : (n : ℕ) (os : List Scheduling) → running_among os ≡ running_among (take n os) + running_among (drop n os)
apart zero os = omega arith
apart (suc n) [] = refl
apart (suc n) (o ∷ os) =
    let again = apart n os in
    let all = busy_cons o os in
    let some = busy_cons o (take n os) in
    omega (arith, again, all, some)

-- what is out is out afterwards, or is given up
given_back : (hosts now : ℕ) (os : List Scheduling) (keeps : Bool)
    → running_among os
    ≡ running_among (cond keeps os (take hosts os ++ map (object_after_abandon now) (drop hosts os))) + cond keeps 0 (running_among (drop hosts os))
given_back hosts now os true = omega arith
given_back hosts now os false =
    let parts = apart hosts os in
    let both = sum_by-append (λ (o : Scheduling). cond (is_some o.run) 1 0) (take hosts os) (map (object_after_abandon now) (drop hosts os)) in
    let none = none_given now (drop hosts os) in
    omega (arith, parts, both, none)

-- first times say nothing of what is out
same_out : (c : Configuration) (saved : Saved) (n : ℕ) (times others : List (Option ℕ))
    → running_among (drop n (objects_kept c saved times)) ≡ running_among (drop n (objects_kept c saved others))
same_out c saved n times others = sym (out_from c saved times n 0 (objects_of c)) ∙ out_from c saved others n 0 (objects_of c)

given_up_by : (c : Configuration) (saved : Saved) (start : ℕ) (times others : List (Option ℕ))
    → running_among (objects_kept c saved times) ≡ running_among (within_limit c start (objects_kept c saved others)) + abandoned_count c saved
given_up_by c saved start times others =
    let objects = objects_kept c saved others in
    same_out c saved 0 times others
    ∙ given_back (host_count c) start objects (keeps_limit c objects)
    ∙ ap (λ running. running_among (within_limit c start objects) + cond (limit_of c == 0 || not (nat_lt (limit_of c) running)) 0 running)
    (same_out c saved (host_count c) others [])

pub out_or_given_up : (c : Configuration) (saved : Saved) (start : ℕ) (times : List (Option ℕ))
    → running_among (objects_kept c saved times) ≡ running_among (objects_after_resume c saved start) + abandoned_count c saved
out_or_given_up c saved start times = given_up_by c saved start times _

-- ---- the objects whose runs are given up

-- whether an object is out in the first of two schedulings, and not in the second
abbrev ended : Scheduling × Scheduling → Bool
ended p = is_some p.0.run && is_none p.1.run

not_both : (run : Option OpenRun) → (is_some run && is_none run) ≡ false
not_both None = refl
not_both (Some run) = refl

-- an object whose run isn't given up is out in both or in neither
stays : (c : Configuration) (one other : Option ℕ) (o : NamedObject) (found : Option SavedObject)
    → ended (scheduling_after_resume c one o.object found, scheduling_after_resume c other o.object found) ≡ false
stays c one other o None = refl
stays c one other o (Some x) = not_both x.scheduling.run

gone_by : (now : ℕ) (o : Scheduling) (run : Option OpenRun) → o.run ≡ run → (is_some run && is_none (object_after_abandon now o).run) ≡ is_some run
gone_by now o None e = refl
gone_by now o (Some run) e = rw e refl

-- an object whose run is given up is counted if it was out
goes : (c : Configuration) (now : ℕ) (one other another : Option ℕ) (o : NamedObject) (found : Option SavedObject)
    → ended (scheduling_after_resume c one o.object found, object_after_abandon now (scheduling_after_resume c other o.object found)) ≡ is_some (scheduling_after_resume c another o.object found).run
goes c now one other another o None = refl
goes c now one other another o (Some x) = gone_by now (scheduling_after_resume c other o.object (Some x)) x.scheduling.run refl

none_ended : (c : Configuration) (saved : Saved) (times others : List (Option ℕ)) (k : ℕ) (os : List NamedObject)
    → count_by ended (zip (map (scheduled c saved times) (enumerate_from k os)) (map (scheduled c saved others) (enumerate_from k os))) ≡ 0
none_ended c saved times others k [] = refl
none_ended c saved times others k (o ∷ os) =
    sum_by-cons (λ (p : Scheduling × Scheduling). cond (ended p) 1 0) (scheduled c saved times (k, o), scheduled c saved others (k, o))
    (zip (map (scheduled c saved times) (enumerate_from (k + 1) os)) (map (scheduled c saved others) (enumerate_from (k + 1) os)))
    ∙ (λ i. cond (stays c (time_among times k) (time_among others k) o (saved_by_name saved o.name) i) 1 0 + none_ended c saved times others (k + 1) os i)

-- the runs from a number on are given up: the objects there that were out are counted
all_ended : (c : Configuration) (saved : Saved) (times others : List (Option ℕ)) (now h k : ℕ) (os : List NamedObject)
    → let after = map (scheduled c saved others) (enumerate_from k os) in
    count_by ended (zip (map (scheduled c saved times) (enumerate_from k os)) (take h after ++ map (object_after_abandon now) (drop h after)))
    ≡ running_among (drop h (map (scheduled c saved []) (enumerate_from k os)))
all_ended c saved times others now zero k [] = refl
all_ended c saved times others now (suc h) k [] = refl
all_ended c saved times others now (suc h) k (o ∷ os) =
    let after = map (scheduled c saved others) (enumerate_from (k + 1) os) in
    sum_by-cons (λ (p : Scheduling × Scheduling). cond (ended p) 1 0) (scheduled c saved times (k, o), scheduled c saved others (k, o))
    (zip (map (scheduled c saved times) (enumerate_from (k + 1) os)) (take h after ++ map (object_after_abandon now) (drop h after)))
    ∙ (λ i. cond (stays c (time_among times k) (time_among others k) o (saved_by_name saved o.name) i) 1 0 + all_ended c saved times others now h (k + 1) os i)
    ∙ zero-add (running_among (drop h (map (scheduled c saved []) (enumerate_from (k + 1) os))))
all_ended c saved times others now zero k (o ∷ os) =
    let after = map (scheduled c saved others) (enumerate_from (k + 1) os) in
    sum_by-cons (λ (p : Scheduling × Scheduling). cond (ended p) 1 0) (scheduled c saved times (k, o), object_after_abandon now (scheduled c saved others (k, o)))
    (zip (map (scheduled c saved times) (enumerate_from (k + 1) os)) (map (object_after_abandon now) after))
    ∙ (λ i. cond (goes c now (time_among times k) (time_among others k) (time_among [] k) o (saved_by_name saved o.name) i) 1 0
    + all_ended c saved times others now zero (k + 1) os i)
    ∙ sym (sum_by-cons (λ (x : Scheduling). cond (is_some x.run) 1 0) (scheduled c saved [] (k, o)) (map (scheduled c saved []) (enumerate_from (k + 1) os)))

ended_by : (c : Configuration) (saved : Saved) (times others : List (Option ℕ)) (now : ℕ) (keeps : Bool)
    → let hosts = host_count c in
    let after = objects_kept c saved others in
    ended_count (objects_kept c saved times) (cond keeps after (take hosts after ++ map (object_after_abandon now) (drop hosts after)))
    ≡ cond keeps 0 (running_among (drop hosts (objects_kept c saved [])))
ended_by c saved times others now true = none_ended c saved times others 0 (objects_of c)
ended_by c saved times others now false = all_ended c saved times others now (host_count c) 0 (objects_of c)

ended_within : (c : Configuration) (saved : Saved) (start : ℕ) (times others : List (Option ℕ))
    → abandoned_count c saved ≡ ended_count (objects_kept c saved times) (within_limit c start (objects_kept c saved others))
ended_within c saved start times others =
    sym (ended_by c saved times others start (keeps_limit c (objects_kept c saved others))
    ∙ ap (λ running. cond (limit_of c == 0 || not (nat_lt (limit_of c) running)) 0 (running_among (drop (host_count c) (objects_kept c saved []))))
    (same_out c saved (host_count c) others []))

pub ended_counted : (c : Configuration) (saved : Saved) (start : ℕ) (times : List (Option ℕ))
    → abandoned_count c saved ≡ ended_count (objects_kept c saved times) (objects_after_resume c saved start)
ended_counted c saved start times = ended_within c saved start times _
