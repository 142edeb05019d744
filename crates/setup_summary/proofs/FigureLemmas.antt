-- The figures by the objects' numbers.
use Rattle.std.proofs.Common.{◌≡◌, ◌≢◌, Bool, true, false, ℕ, zero, suc, ◌+◌, ◌-◌, ◌<◌, ◌≤◌, ◌⊎◌, inl, inr, take, ◌&&◌, ◌||◌, ◌==◌, List, [], ◌∷◌, cond, drop}
use Rattle.std.proofs.Common.{length, map, not, Option, Some, None, option_map, refl, sym, ap, ◌∙◌, arith}
use Rattle.std.proofs.lemmas.List.Sums.{sum_by-cons}
use Rattle.std.proofs.lemmas.Bool.{eqb-true}
use Rattle.std.proofs.lemmas.Bool.Decides.{nat_tests}
use Rattle.std.proofs.lemmas.List.{length-append, length-drop, length-map, take_all}
use Rattle.std.specs.Prelude.{count_by, is_none, is_some, nat_lt}
use Rattle.std.specs.List.{enumerate_from}
use Rattle.check_objects.specs.Configuration.{Configuration, NamedObject, host_count, named_host, named_service, object_count, objects_of}
use Rattle.check_saved_state.specs.Saved.{Saved, SavedObject, saved_by_name}
use Rattle.check_saved_state.specs.Scheduling.{Scheduling}
use Rattle.check_sched.specs.Roster.{running_among}
use Rattle.check_sched.specs.Saved.{scheduling_after_resume, time_among}
use Rattle.check_sched.specs.State.{limit_of}
use Rattle.check_sched.proofs.ResumedLaws.{length-made}
use Rattle.setup_summary.specs.declared.diffs.ObjectDiff.{ObjectDiff}
use Rattle.setup_summary.specs.Changes.{are_too_many, abandoned_count_among, abandoned_count, is_running, object_diff, kept_count, object_diffs, new_count}

-- ---- kept and new

some_same : (c : Configuration) (o : NamedObject) (found : Option SavedObject) → is_some (option_map (object_diff c o.object) found) ≡ is_some found
some_same c o None = refl
some_same c o (Some x) = refl

none_same : (c : Configuration) (o : NamedObject) (found : Option SavedObject) → is_none (option_map (object_diff c o.object) found) ≡ is_none found
none_same c o None = refl
none_same c o (Some x) = refl

counted_from : (counts : Option ObjectDiff → Bool) (sees : Option SavedObject → Bool) (c : Configuration) (saved : Saved)
    → ((o : NamedObject) (found : Option SavedObject) → counts (option_map (object_diff c o.object) found) ≡ sees found)
    → (k : ℕ) (os : List NamedObject)
    → count_by counts (map (λ p. option_map (object_diff c p.1.object) (saved_by_name saved p.1.name)) (enumerate_from k os))
    ≡ count_by (λ (n : NamedObject). sees (saved_by_name saved n.name)) os
counted_from counts sees c saved same k [] = refl
counted_from counts sees c saved same k (o ∷ os) =
    sum_by-cons (λ (x : Option ObjectDiff). cond (counts x) 1 0) (option_map (object_diff c o.object) (saved_by_name saved o.name))
    (map (λ p. option_map (object_diff c p.1.object) (saved_by_name saved p.1.name)) (enumerate_from (k + 1) os))
    ∙ (λ i. cond (same o (saved_by_name saved o.name) i) 1 0 + counted_from counts sees c saved same (k + 1) os i)
    ∙ sym (sum_by-cons (λ (n : NamedObject). cond (sees (saved_by_name saved n.name)) 1 0) o os)

pub kept_counted : (c : Configuration) (saved : Saved) → count_by is_some (object_diffs c saved) ≡ kept_count c saved
kept_counted c saved = counted_from is_some is_some c saved (some_same c) 0 (objects_of c)

pub new_counted : (c : Configuration) (saved : Saved) → count_by is_none (object_diffs c saved) ≡ new_count c saved
new_counted c saved = counted_from is_none is_none c saved (none_same c) 0 (objects_of c)

-- ---- what is out

abbrev pub scheduled : Configuration → Saved → List (Option ℕ) → ℕ × NamedObject → Scheduling
scheduled c saved times p = scheduling_after_resume c (time_among times p.0) p.1.object (saved_by_name saved p.1.name)

out_same : (c : Configuration) (first : Option ℕ) (o : NamedObject) (found : Option SavedObject)
    → is_running (option_map (object_diff c o.object) found) ≡ is_some (scheduling_after_resume c first o.object found).run
out_same c first o None = refl
out_same c first o (Some x) = refl

pub out_from : (c : Configuration) (saved : Saved) (times : List (Option ℕ)) (h k : ℕ) (os : List NamedObject)
    → count_by is_running (drop h (map (λ p. option_map (object_diff c p.1.object) (saved_by_name saved p.1.name)) (enumerate_from k os)))
    ≡ running_among (drop h (map (scheduled c saved times) (enumerate_from k os)))
out_from c saved times zero k [] = refl
out_from c saved times (suc h) k [] = refl
out_from c saved times (suc h) k (o ∷ os) = out_from c saved times h (k + 1) os
out_from c saved times zero k (o ∷ os) =
    sum_by-cons (λ (x : Option ObjectDiff). cond (is_running x) 1 0) (option_map (object_diff c o.object) (saved_by_name saved o.name))
    (map (λ p. option_map (object_diff c p.1.object) (saved_by_name saved p.1.name)) (enumerate_from (k + 1) os))
    ∙ (λ i. cond (out_same c (time_among times k) o (saved_by_name saved o.name) i) 1 0 + out_from c saved times zero (k + 1) os i)
    ∙ sym (sum_by-cons (λ (x : Scheduling). cond (is_some x.run) 1 0) (scheduled c saved times (k, o)) (map (scheduled c saved times) (enumerate_from (k + 1) os)))

-- a count where all that pass are taken, or none
counted_if : (counts : Option ObjectDiff → Bool) (all : Bool) (kept : List (Option ObjectDiff)) → count_by (λ x. all && counts x) kept ≡ cond all (count_by counts kept) 0
counted_if counts true kept = refl
counted_if counts false [] = refl
counted_if counts false (x ∷ kept) =
    sum_by-cons (λ (y : Option ObjectDiff). cond (false && counts y) 1 0) x kept ∙ ap (λ n. 0 + n) (counted_if counts false kept)

given_up_is : (c : Configuration) (kept : List (Option ObjectDiff))
    → abandoned_count_among c kept ≡ cond (are_too_many c (drop (host_count c) kept)) (count_by is_running (drop (host_count c) kept)) 0
unfolding abandoned_count_among
given_up_is c kept = counted_if is_running (are_too_many c (drop (host_count c) kept)) (drop (host_count c) kept)

-- a number that is taken where there is a limit and it is passed is left out where there is none or it isn't passed
by_limit : (none past : Bool) (running : ℕ) → cond (not none && past) running 0 ≡ cond (none || not past) 0 running
by_limit true past running = refl
by_limit false true running = refl
by_limit false false running = refl

pub given_up_counted : (c : Configuration) (saved : Saved) → abandoned_count_among c (object_diffs c saved) ≡ abandoned_count c saved
given_up_counted c saved =
    let running = count_by is_running (drop (host_count c) (object_diffs c saved)) in
    given_up_is c (object_diffs c saved)
    ∙ by_limit (limit_of c == 0) (nat_lt (limit_of c) running) running
    ∙ ap (λ running. cond (limit_of c == 0 || not (nat_lt (limit_of c) running)) 0 running) (out_from c saved [] (host_count c) 0 (objects_of c))

-- ---- the count of the code

never : (b : Bool) (running : ℕ) → cond (b && false) running 0 ≡ 0
never true running = refl
never false running = refl

none_by : (limit running : ℕ) → (limit ≡ 0) ⊎ ((limit ≢ 0) × (running ≤ limit)) → cond (not (limit == 0) && nat_lt limit running) running 0 ≡ 0
none_by limit running (inl none) = rw none refl
none_by limit running (inr (some, bounded)) = let past : nat_lt limit running ≡ false = grind (arith, nat_tests, bounded) in rw past (never (not (limit == 0)) running)

all_by : (limit running : ℕ) (b : Bool) → (limit == 0) ≡ b → limit ≢ 0 → nat_lt limit running ≡ true → cond (not (limit == 0) && nat_lt limit running) running 0 ≡ running
all_by limit running true e some past = absurd (some (eqb-true limit 0 e))
all_by limit running false e some past = rw (e, past) refl

-- this many of the objects after the hosts are out
abbrev pub AreOut : Configuration → List (Option ObjectDiff) → ℕ → Type 0
AreOut c kept running = running ≡ count_by is_running (drop (host_count c) kept)

pub out_behind : (c : Configuration) (kept : List (Option ObjectDiff)) (hosts running : ℕ) → hosts ≡ host_count c
    → running ≡ count_by is_running (take (length kept - hosts) (drop hosts kept)) → AreOut c kept running
out_behind c kept hosts running is counted =
    let long = length-drop hosts kept in
    counted ∙ ap (count_by is_running) (take_all (length kept - hosts) (drop hosts kept) (omega (arith, long))) ∙ ap (λ n. count_by is_running (drop n kept)) is

pub none_given_up : (c : Configuration) (kept : List (Option ObjectDiff)) (running : ℕ) → AreOut c kept running → (limit_of c ≡ 0) ⊎ ((limit_of c ≢ 0) × (running ≤ limit_of c))
    → abandoned_count_among c kept ≡ 0
none_given_up c kept running is bounded =
    given_up_is c kept ∙ ap (λ n. cond (not (limit_of c == 0) && nat_lt (limit_of c) n) n 0) (sym is) ∙ none_by (limit_of c) running bounded

pub all_given_up : (c : Configuration) (kept : List (Option ObjectDiff)) (running : ℕ) → AreOut c kept running → limit_of c ≢ 0 → limit_of c < running
    → abandoned_count_among c kept ≡ running
all_given_up c kept running is some many =
    let past : nat_lt (limit_of c) running ≡ true = grind (arith, nat_tests, many) in
    given_up_is c kept ∙ ap (λ n. cond (not (limit_of c == 0) && nat_lt (limit_of c) n) n 0) (sym is)
    ∙ all_by (limit_of c) running (limit_of c == 0) refl some past

-- ---- the hosts stand first

pub hosts_within : (c : Configuration) (saved : Saved) → host_count c ≤ length (object_diffs c saved)
hosts_within c saved =
    let long = length-made c (λ p. option_map (object_diff c p.1.object) (saved_by_name saved p.1.name)) in
    let parts = length-append (map named_host c.hosts) (map named_service c.services) in
    let hosts = length-map c.hosts named_host in
    omega (arith, long, parts, hosts)

pub length_kept : (c : Configuration) (saved : Saved) → length (object_diffs c saved) ≡ object_count c
length_kept c saved = length-made c (λ p. option_map (object_diff c p.1.object) (saved_by_name saved p.1.name))
