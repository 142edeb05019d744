-- Laws of the limit: how many services are being checked, and that no call passes the limit.
use Rattle.std.proofs.Common.{◌≡◌, ℕ, zero, suc, ◌+◌, ◌<◌, ◌≤◌, Bool, true, false, ◌||◌, cond, List, [], ◌∷◌, map, drop, Option, Some, None, refl, ap, ◌∙◌}
use Rattle.std.proofs.Common.{arith}
use Rattle.std.specs.Prelude.{is_some}
use Rattle.std.proofs.lemmas.Bool.Decides.{nat_tests}
use Rattle.std.proofs.lemmas.List.Sums.{sum_by-cons}
use Rattle.check_objects.specs.Configuration.{host_count}
use Rattle.check_sched.specs.Roster.{running_among}
use Rattle.check_sched.specs.Scheduling.{object_with_run}
use Rattle.check_saved_state.specs.Scheduling.{OpenRun, Scheduling}
use Rattle.check_sched.specs.State.{State, IsWithinLimit, is_below_limit, is_host, limit_of, running_services}
use Rattle.check_sched.specs.Step.{is_startable, state_after_take, update_at, with_object}

pub busy_cons : (o : Scheduling) (os : List Scheduling) → running_among (o ∷ os) ≡ cond (is_some o.run) 1 0 + running_among os
busy_cons o os = sum_by-cons (λ x. cond (is_some x.run) 1 0) o os

-- whether f begins no run: one that is out afterwards was out before
abbrev pub BeginsNone : (Scheduling → Scheduling) → Type 0
BeginsNone f = (o : Scheduling) (run : OpenRun) → (f o).run ≡ Some run → o.run ≡ Some run

was_out : (a b : Option OpenRun) → ((run : OpenRun) → a ≡ Some run → b ≡ Some run) → is_some a ≡ true → is_some b ≡ true
was_out None b h e = cc
was_out (Some run) b h e = ap is_some (h run refl)

-- ---- one object changed

no_more : (a b : Bool) → (a ≡ true → b ≡ true) → cond a 1 0 ≤ cond b 1 0
no_more false b h = omega arith
no_more true b h = rw (h refl) (omega arith)

one_at_most : (a : Bool) → cond a 1 0 ≤ 1
one_at_most true = omega arith
one_at_most false = omega arith

busy_kept : (n : ℕ) (f : Scheduling → Scheduling) (os : List Scheduling) → BeginsNone f → running_among (update_at n f os) ≤ running_among os
busy_kept n f [] h = omega arith
busy_kept zero f (o ∷ os) h = let here = no_more (is_some (f o).run) (is_some o.run) (was_out (f o).run o.run (h o)) in omega (arith, here, busy_cons (f o) os, busy_cons o os)
busy_kept (suc n) f (o ∷ os) h = let more = busy_kept n f os h in omega (arith, more, busy_cons o (update_at n f os), busy_cons o os)

busy_more : (n : ℕ) (f : Scheduling → Scheduling) (os : List Scheduling) → running_among (update_at n f os) ≤ running_among os + 1
busy_more n f [] = omega arith
busy_more zero f (o ∷ os) = let here = one_at_most (is_some (f o).run) in omega (arith, here, busy_cons (f o) os, busy_cons o os)
busy_more (suc n) f (o ∷ os) = let more = busy_more n f os in omega (arith, more, busy_cons o (update_at n f os), busy_cons o os)

services_kept : (hosts n : ℕ) (f : Scheduling → Scheduling) (os : List Scheduling) → BeginsNone f
    → running_among (drop hosts (update_at n f os)) ≤ running_among (drop hosts os)
services_kept zero n f os h = busy_kept n f os h
services_kept (suc hosts) n f [] h = omega arith
services_kept (suc hosts) zero f (o ∷ os) h = omega arith
services_kept (suc hosts) (suc n) f (o ∷ os) h = services_kept hosts n f os h

services_more : (hosts n : ℕ) (f : Scheduling → Scheduling) (os : List Scheduling)
    → running_among (drop hosts (update_at n f os)) ≤ running_among (drop hosts os) + 1
services_more zero n f os = busy_more n f os
services_more (suc hosts) n f [] = omega arith
services_more (suc hosts) zero f (o ∷ os) = omega arith
services_more (suc hosts) (suc n) f (o ∷ os) = services_more hosts n f os

services_apart : (hosts n : ℕ) (f : Scheduling → Scheduling) (os : List Scheduling) → n < hosts → drop hosts (update_at n f os) ≡ drop hosts os
services_apart zero n f os l = absurd (omega arith)
services_apart (suc hosts) n f [] l = refl
services_apart (suc hosts) zero f (o ∷ os) l = refl
services_apart (suc hosts) (suc n) f (o ∷ os) l = services_apart hosts n f os (omega arith)

-- ---- the limit

-- a call that begins no run keeps to the limit
pub limit_kept : (n : ℕ) (f : Scheduling → Scheduling) (s : State) → BeginsNone f → IsWithinLimit s → IsWithinLimit (with_object n f s)
limit_kept n f s h within some = let least = services_kept (host_count s.setup) n f s.objects h in let was = within some in omega (arith, least, was)

room_for_one : (s : State) → is_below_limit s ≡ true → 0 < limit_of s.setup → running_services s < limit_of s.setup
room_for_one s e some = grind (arith, nat_tests, e, some)

taken_by : (now n : ℕ) (s : State) (host : Bool) → is_host s.setup n ≡ host → (host || is_below_limit s) ≡ true → IsWithinLimit s → IsWithinLimit (state_after_take now n s)
taken_by now n s true e may within some =
    let below : n < host_count s.setup = grind (arith, nat_tests, e) in
    let same = ap running_among (services_apart (host_count s.setup) n (object_with_run (record { number = s.runs + 1; start = now })) s.objects below) in
    let was = within some in
    omega (arith, same, was)
taken_by now n s false e may within some =
    let room = room_for_one s may some in
    let more = services_more (host_count s.setup) n (object_with_run (record { number = s.runs + 1; start = now })) s.objects in
    omega (arith, room, more)

-- neither does a check that may begin
pub limit_taken : (now n : ℕ) (s : State) → is_startable s n ≡ true → IsWithinLimit s → IsWithinLimit (state_after_take now n s)
limit_taken now n s may within = taken_by now n s (is_host s.setup n) refl may within

-- ---- the opening

pub busy_none : {X : Type 0} (made : X → Scheduling) (xs : List X) → ((x : X) → is_some (made x).run ≡ false) → running_among (map made xs) ≡ 0
busy_none made [] h = refl
busy_none made (x ∷ xs) h =
    busy_cons (made x) (map made xs) ∙ ap (λ b. cond b 1 0 + running_among (map made xs)) (h x)
    ∙ (let zero_more : 0 + running_among (map made xs) ≡ running_among (map made xs) = omega arith in zero_more) ∙ busy_none made xs h

-- no service runs among objects that are made without a run
pub services_none : {X : Type 0} (hosts : ℕ) (made : X → Scheduling) (xs : List X) → ((x : X) → is_some (made x).run ≡ false)
    → running_among (drop hosts (map made xs)) ≡ 0
services_none zero made xs h = busy_none made xs h
services_none (suc hosts) made [] h = refl
services_none (suc hosts) made (x ∷ xs) h = services_none hosts made xs h
