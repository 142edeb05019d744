-- The first times of every setup are below 2^61.
use Rattle.std.proofs.Common.{◌≡◌, ℕ, ◌+◌, ◌*◌, ◌/◌, ◌%◌, ◌&&◌, ◌<◌, ◌≤◌, ◌^◌, Bool, true, false, cond, List, length, Some, None, get_or, ◌∙◌, arith, IfSome}
use Rattle.std.proofs.Common.{refl}
use Rattle.std.specs.Prelude.{All, nat_le}
use Rattle.std.specs.List.{enumerate_from}
use Rattle.std.proofs.Math.Nat.{div-le_self, mul-le-mul}
use Rattle.std.proofs.lemmas.Bool.Decides.{nat_tests}
use Rattle.std.proofs.lemmas.List.{length-map}
use Rattle.std.proofs.lemmas.List.Elements.{All-append, All-map}
use Rattle.std.proofs.lemmas.List.FromFn.{length-enumerate_from}
use Rattle.std.proofs.lemmas.List.Sums.{count_by-le-length}
use Rattle.setup_model.specs.declared.parsed_setup.Object.{Object}
use Rattle.setup_model.specs.declared.options.DelayMethod.{DelayMethod}
use Rattle.setup_model.specs.declared.options.DelayMethod.TheVariants as method
use Rattle.check_objects.specs.Configuration.{Configuration, IsDelayInRange, IsSetup}
use Rattle.check_spread.specs.Spread.{delay_by, first_time, first_times, host_objects, host_spread, initial_times, is_scheduled, is_visited_before, minutes}
use Rattle.check_spread.specs.Spread.{rank}
use Rattle.check_spread.specs.Spread.{scheduled_among, service_objects, service_spread, time_at}
use Rattle.check_spread.specs.declared.spread.Scheduled.{Scheduled}
use Rattle.check_spread.specs.declared.spread.Spread.{Spread}

-- ---- the delay of a rank

divided : (a b most : ℕ) → a ≤ most → a / b ≤ most
divided a b most h = let less = div-le_self a b in omega (arith, less, h)

smart_by : (spread n total k : ℕ) (short : Bool) → nat_le total (spread * n) ≡ short → spread ≤ 525600 * 60000 → n ≤ 4096 → k ≤ 4096
    → cond short (k * total / (n * n)) (k * spread / n) ≤ 2 ^ 59
smart_by spread n total k true e s c l =
    let bounded : spread * n ≤ 525600 * 60000 * 4096 = mul-le-mul s c in
    let all : total ≤ 525600 * 60000 * 4096 = grind (arith, nat_tests, e, bounded) in
    let most : k * total ≤ 4096 * (525600 * 60000 * 4096) = mul-le-mul l all in
    divided (k * total) (n * n) (2 ^ 59) (omega (arith, most))
smart_by spread n total k false e s c l =
    let most : k * spread ≤ 4096 * (525600 * 60000) = mul-le-mul l s in divided (k * spread) n (2 ^ 59) (omega (arith, most))

delay_below : (m : DelayMethod) (spread k : ℕ) (sch : Scheduled) → IsDelayInRange m → spread ≤ 525600 * 60000 → sch.count ≤ 4096 → k ≤ 4096
    → delay_by m spread sch k ≤ 2 ^ 59
delay_below method.NoDelay spread k sch d s c l = omega arith
delay_below method.Dumb spread k sch d s c l = omega arith
delay_below (method.Fixed delay) spread k sch d s c l = let most : delay * k ≤ 86400000 * 4096 = mul-le-mul d l in omega (arith, most)
delay_below method.Smart spread k sch d s c l = smart_by spread sch.count sch.total_interval k _ refl s c l

-- ---- the times of one sort of object

first_by : (scheduled : Bool) (time : ℕ) → time < 2 ^ 61 → IfSome (cond scheduled (Some time) None) (λ t. t < 2 ^ 61)
first_by true time h = h
first_by false time h = tt

each_below : (spread : Spread) (objects : List Object) (position : ℕ) (o : Object) → spread.start ≤ 2 ^ 60 → IsDelayInRange spread.method
    → spread.max_spread ≤ 525600 * 60000 → length objects ≤ 4096 → IfSome (first_time spread objects position o) (λ t. t < 2 ^ 61)
each_below spread objects position o m d s bounded =
    let sch = scheduled_among spread.interval_length objects in
    let k = rank spread.factor objects position in
    let visited = count_by-le-length
    (λ (p : ℕ × Object). is_scheduled p.1 && is_visited_before spread.factor (position % spread.factor) position p.0) (enumerate_from 0 objects) in
    let long = length-enumerate_from 0 objects in
    let below : k ≤ 4096 = omega (arith, visited, long, bounded) in
    let counted = count_by-le-length is_scheduled objects in
    let delay = delay_below spread.method spread.max_spread k sch d s (omega (arith, counted, bounded)) below in
    first_by (is_scheduled o) (time_at spread sch k) (omega (arith, m, delay))

all_below : (spread : Spread) (objects : List Object) → spread.start ≤ 2 ^ 60 → IsDelayInRange spread.method → spread.max_spread ≤ 525600 * 60000
    → length objects ≤ 4096 → All (λ first. IfSome first (λ t. t < 2 ^ 61)) (first_times spread objects)
all_below spread objects m d s bounded =
    All-map (λ first. IfSome first (λ t. t < 2 ^ 61)) (λ p. first_time spread objects p.0 p.1) (enumerate_from 0 objects)
    (λ k p l. let at = get_or (enumerate_from 0 objects) k p in each_below spread objects at.0 at.1 m d s bounded)

-- ---- the times of all objects

pub first_times_below : (c : Configuration) (start : ℕ) → IsSetup c → start ≤ 2 ^ 60 → All (λ first. IfSome first (λ t. t < 2 ^ 61)) (initial_times c start)
unfolding initial_times
first_times_below c start valid m =
    let bounded = valid.bounded in
    let hosts = length-map c.hosts (λ h. h.object) in
    let services = length-map c.services (λ s. s.object) in
    let host_most : minutes c.options.max_host_check_spread ≤ 525600 * 60000 = let w = valid.host_spread.1 in omega (arith, w) in
    let service_most : minutes c.options.max_service_check_spread ≤ 525600 * 60000 = let w = valid.service_spread.1 in omega (arith, w) in
    All-append (λ first. IfSome first (λ t. t < 2 ^ 61)) (first_times (host_spread c start) (host_objects c)) (first_times (service_spread c start) (service_objects c))
    (all_below (host_spread c start) (host_objects c) m valid.host_delay host_most (omega (arith, hosts, bounded)))
    (all_below (service_spread c start) (service_objects c) m valid.service_delay service_most (omega (arith, services, bounded)))
