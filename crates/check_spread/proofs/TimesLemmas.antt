-- The times of first checks, object by object.
use Rattle.std.proofs.Common.{◌≡◌, ℕ, zero, suc, ◌+◌, ◌<◌, ◌≤◌, ◌++◌, true, false, List, [], ◌∷◌, length, map, take, drop, get_or, Option, Some, None}
use Rattle.std.proofs.Common.{option_map, refl, sym, ap, ◌∙◌, arith, All, append_assoc, length-append}
use Rattle.std.specs.Prelude.{slice_get, nat_lt, nat_le}
use Rattle.std.specs.List.{enumerate_from, list_all}
use Rattle.std.proofs.lemmas.Bool.Decides.{nat_tests}
use Rattle.std.proofs.lemmas.List.{take_more, length-map, map-append, get_or-map, get_or-take, get_or-drop, length-take, length-drop}
use Rattle.std.proofs.lemmas.List.FromFn.{length-enumerate_from, get_or-enumerate_from}
use Rattle.setup_model.specs.declared.parsed_setup.Object.{Object}
use Rattle.check_objects.specs.Configuration.{Configuration, NamedObject, Host, Service, named_host, named_service, objects_of, object_count}
use Rattle.check_objects.specs.Configuration.{is_object_in_range}
use Rattle.check_objects.specs.Configuration.{IsSetup}
use Rattle.setup_order.proofs.TestLemmas.{and_first, and_second}
use Rattle.setup_model.specs.declared.limits.TheConstants.{MAX_INTERVAL}
use Rattle.check_spread.specs.declared.spread.Scheduled.{Scheduled}
use Rattle.check_spread.specs.declared.spread.Spread.{Spread}
use Rattle.check_spread.specs.Spread.{all_objects, host_objects, service_objects, first_time, first_times}
use Rattle.check_spread.specs.Spread.{is_scheduled, scheduled_among, rank, time_at}

-- ---- the objects

host_parts : (hs : List Host) → map (λ o. o.object) (map named_host hs) ≡ map (λ h. h.object) hs
host_parts [] = refl
host_parts (h ∷ hs) = ap (λ l. h.object ∷ l) (host_parts hs)

service_parts : (ss : List Service) → map (λ o. o.object) (map named_service ss) ≡ map (λ s. s.object) ss
service_parts [] = refl
service_parts (s ∷ ss) = ap (λ l. s.object ∷ l) (service_parts ss)

parts : (c : Configuration) → map (λ o. o.object) (objects_of c) ≡ all_objects c
parts c =
    map-append (λ o. o.object) (map named_host c.hosts) (map named_service c.services)
    ∙ ap (λ l. l ++ map (λ o. o.object) (map named_service c.services)) (host_parts c.hosts)
    ∙ ap (λ l. host_objects c ++ l) (service_parts c.services)

pub length-all_objects : (c : Configuration) → length (all_objects c) ≡ object_count c
length-all_objects c = ap length (sym (parts c)) ∙ length-map (objects_of c) (λ o. o.object)

named_at : (os : List NamedObject) (n : ℕ) (x d : Object) → option_map (λ o. o.object) (slice_get os n) ≡ Some x → get_or (map (λ o. o.object) os) n d ≡ x
named_at [] n x d e = cc
named_at (o ∷ os) zero x d e = cc
named_at (o ∷ os) (suc n) x d e = named_at os n x d e

pub objects_more : (c : Configuration) (n : ℕ) (x : Object) → n < object_count c → option_map (λ o. o.object) (slice_get (objects_of c) n) ≡ Some x
    → take (n + 1) (all_objects c) ≡ take n (all_objects c) ++ x ∷ []
objects_more c n x h e =
    let at : get_or (all_objects c) n x ≡ x = rw (← parts c) (named_at (objects_of c) n x x e) in
    take_more (all_objects c) n x (let l = length-all_objects c in omega (arith, l)) ∙ ap (λ y. take n (all_objects c) ++ y ∷ []) at

range_at : (os : List NamedObject) → list_all (λ o. is_object_in_range o.object) os ≡ true → (k : ℕ) (d : Object) → k < length (map (λ o. o.object) os)
    → (get_or (map (λ o. o.object) os) k d).check_interval ≤ MAX_INTERVAL
range_at [] h k d l = absurd (omega arith)
range_at (o ∷ os) h zero d l =
    let in_range : nat_le o.object.check_interval MAX_INTERVAL ≡ true = and_first _ _
    (and_first _ _ (and_first _ _ (and_first (is_object_in_range o.object) _ h))) in grind (arith, nat_tests, in_range)
range_at (o ∷ os) h (suc k) d l = range_at os (and_second (is_object_in_range o.object) _ h) k d (omega arith)

pub intervals_in_range : (c : Configuration) → IsSetup c → All (λ o. o.check_interval ≤ MAX_INTERVAL) (all_objects c)
intervals_in_range c is = rw (← parts c) (range_at (objects_of c) is.ranges)

pub front_in_range : (n : ℕ) (objects : List Object) → All (λ o. o.check_interval ≤ MAX_INTERVAL) objects
    → All (λ o. o.check_interval ≤ MAX_INTERVAL) (take n objects)
front_in_range n objects all k d h =
    let size = length-take n objects in
    rw (get_or-take n objects k d (omega (arith, size, h))) (all k d (omega (arith, size, h)))

pub back_in_range : (n : ℕ) (objects : List Object) → All (λ o. o.check_interval ≤ MAX_INTERVAL) objects
    → All (λ o. o.check_interval ≤ MAX_INTERVAL) (drop n objects)
back_in_range n objects all k d h =
    let size = length-drop n objects in
    rw (get_or-drop n objects k d) (all (n + k) d (omega (arith, size, h)))

-- ---- hosts in front, services behind

-- ---- the times

pub length-first_times : (spread : Spread) (objects : List Object) → length (first_times spread objects) ≡ length objects
length-first_times spread objects = length-map (enumerate_from 0 objects) (λ p. first_time spread objects p.0 p.1) ∙ length-enumerate_from 0 objects

pub first_times_more : (spread : Spread) (objects : List Object) (n : ℕ) (d : Object) → n < length objects
    → take (n + 1) (first_times spread objects) ≡ take n (first_times spread objects) ++ first_time spread objects n (get_or objects n d) ∷ []
first_times_more spread objects n d h =
    let f : ℕ × Object → Option ℕ = λ p. first_time spread objects p.0 p.1 in
    let at : get_or (first_times spread objects) n (f (n, d)) ≡ f (n, get_or objects n d) = get_or-map f (enumerate_from 0 objects) n (n, d) (f (n, d))
    (let l = length-enumerate_from 0 objects in omega (arith, l)) ∙ ap f
    (get_or-enumerate_from 0 objects n (n, d) h ∙ ap (λ k. (k, get_or objects n d)) (let e : 0 + n ≡ n = omega arith in e)) in
    take_more (first_times spread objects) n (f (n, d)) (let l = length-first_times spread objects in omega (arith, l)) ∙ ap
    (λ y. take n (first_times spread objects) ++ y ∷ []) at

pub first_time_is : (spread : Spread) (objects : List Object) (n r : ℕ) (o : Object) (scheduled : Scheduled) → is_scheduled o ≡ true
    → scheduled ≡ scheduled_among spread.interval_length objects → r ≡ rank spread.factor objects n
    → first_time spread objects n o ≡ Some (time_at spread scheduled r)
first_time_is spread objects n r o scheduled s l e = rw (s, l, e) refl

pub first_time_none : (spread : Spread) (objects : List Object) (n : ℕ) (o : Object) → is_scheduled o ≡ false → first_time spread objects n o ≡ None
first_time_none spread objects n o s = rw s refl

-- one time more
pub pushed : (before times times' front front' : List (Option ℕ)) (x y : Option ℕ) → times' ≡ times ++ x ∷ [] → times ≡ before ++ front
    → front' ≡ front ++ y ∷ [] → y ≡ x → times' ≡ before ++ front'
pushed before times times' front front' x y push was more same =
    push ∙ ap (λ l. l ++ x ∷ []) was ∙ append_assoc before front (x ∷ []) ∙ ap (λ l. before ++ l) (sym (more ∙ ap (λ z. front ++ z ∷ []) same))

-- ---- a service has a host, so that there is one

some_host_by : (ss : List Service) (hosts : ℕ) → list_all (λ s. nat_lt s.host hosts) ss ≡ true → 0 < length ss → 0 < hosts
some_host_by [] hosts e h = absurd (omega arith)
some_host_by (s ∷ ss) hosts e h =
    let first : nat_lt s.host hosts ≡ true = and_first _ _ e in let less : s.host < hosts = grind (arith, nat_tests, first) in omega (arith, less)

pub count_parts : (c : Configuration) → object_count c ≡ length c.hosts + length c.services
count_parts c =
    sym (length-all_objects c) ∙ length-append (host_objects c) (service_objects c)
    ∙ (let a = length-map c.hosts (λ h. h.object) in let b = length-map c.services (λ s. s.object) in omega (arith, a, b))

pub some_host : (c : Configuration) → IsSetup c → 0 < length c.services → 0 < length c.hosts
some_host c is h = some_host_by c.services (length c.hosts) is.hosts_in_range h
