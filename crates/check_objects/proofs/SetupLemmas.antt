-- What a document without a fault gives: few objects, links to hosts, and full names in two parts.
use Rattle.std.proofs.Common.{◌≡◌, ℕ, ◌+◌, ◌<◌, ◌≤◌, ◌||◌, ◌&&◌, Option, Bool, true, false, cond, List, [], ◌∷◌, map, length, Some}
use Rattle.std.proofs.Common.{None, bytes_eq, refl, sym, ap, subst, ◌∙◌, Result, Ok, Err, inl, inr, arith}
use Rattle.std.specs.Prelude.{nat_lt, nat_le, slice_get, unwrap_or, All}
use Rattle.std.specs.List.{AllByRecursion, list_any, list_all, position_or_len}
use Rattle.std.specs.List.Sorted.{IsStrictlySortedBy}
use Rattle.std.proofs.lemmas.Bool.{cases_lt}
use Rattle.std.proofs.lemmas.Bool.Decides.{nat_tests}
use Rattle.std.proofs.lemmas.List.{length-map, length-append, map-append}
use Rattle.std.proofs.lemmas.List.Elements.{All-from_recursion}
use Rattle.std.proofs.lemmas.List.Folds.{list_all-append}
use Rattle.std.proofs.lemmas.Slice.Eq.{bytes_eq-Decides}
use Rattle.setup_model.specs.declared.dependency.Dependency.{Dependency}
use Rattle.setup_model.specs.declared.options.DelayMethod.{DelayMethod}
use Rattle.setup_model.specs.declared.options.DelayMethod.TheVariants as method
use Rattle.setup_model.specs.declared.options.InterleaveFactor.{InterleaveFactor}
use Rattle.setup_model.specs.declared.options.InterleaveFactor.TheVariants as factor
use Rattle.setup_model.specs.declared.options.Options.{Options}
use Rattle.setup_model.specs.declared.member.Kind.TheVariants as kind
use Rattle.setup_model.specs.Member.{Row, is_between, is_within_limits, limits_of}
use Rattle.setup_model.specs.Members as members
use Rattle.setup_model.specs.declared.parsed_setup.Object.{Object}
use Rattle.check_objects.specs.Configuration.{Configuration, Host, IsSetup, IsWithin, IsDelayInRange, IsFactorInRange, is_object_in_range, named_host}
use Rattle.check_objects.specs.Configuration.{named_service, objects_of, object_count, masters_in, masters_of, parents_by_host, host_count}
use Rattle.setup_model.specs.Name.{full_name, is_host_name, is_name, text_order, pair_order}
use Rattle.check_objects.specs.Configuration.{dependencies_of, pair_of, IsSameSort}
use Rattle.setup_order.specs.Cycles.{has_cycle, are_within}
use Rattle.setup_model.specs.ParsedSetup.{ParsedSetup, ParsedHost, ParsedService, ParsedDependency}
use Rattle.setup_model.specs.Ends.{full_names, is_known}
use Rattle.setup_reader.specs.Verification.{verification}
use Rattle.setup_model.specs.Keys.{names_of, key_of}
use Rattle.setup_reader.specs.Verification as verified
use Rattle.setup_model.specs.Fault.{RangeFault, out_of_range, host_thresholds, range, service_thresholds}
use Rattle.setup_model.specs.Place.{host_place, service_place}
use Rattle.check_objects.specs.Numbering.{index_of_name, dependencies_among, numbered_host, numbered_service, hosts_in_order, services_in_order, names_in_order}
use Rattle.check_objects.specs.Numbering.{configuration_of_objects, configuration, numbered_dependency, all_dependencies}
use Rattle.setup_order.proofs.TestLemmas.{both_true, all_weaker}
use Rattle.std.proofs.lemmas.List.Folds.{list_all-map}
use Rattle.setup_model.proofs.ListLemmas.{list_any-map}
use Rattle.check_objects.proofs.NameLemmas.{HasNames, all_moved, all_passes, found, parted_name}
use Rattle.check_objects.proofs.NumberedLemmas.{AreAlike, host_names_are, pairs_are, full_names_are, known_in_order, full_name_in_order, parents_counted}
use Rattle.check_objects.proofs.NumberedLemmas.{listed_once, host_end, service_end, ends_alike, both_hold, alike_among}
use Rattle.check_objects.proofs.DependencyLemmas.{dependents_below, masters_below, masters_within_lists, length-dependency_lists, list_of_object}
use Rattle.check_objects.proofs.NumberLaws.{apart_hosts_ascend, apart_services_ascend, every_host, every_service, hosts_counted, services_counted}
use Rattle.setup_model.proofs.RefusalLemmas.{all_of_each, first_ok, have_known_ends, rest_ok, still_ok}
use Rattle.setup_reader.proofs.FaultlessLemmas.{IsFaultless, faultless, once}

-- ---- hosts' names have no semicolon

known_by : (q : List ℕ → Bool) (name other : List ℕ) (names : List (List ℕ)) (b : Bool) → bytes_eq name other ≡ b → q other ≡ true
    → (b || list_any (bytes_eq name) names) ≡ true → (list_any (bytes_eq name) names ≡ true → q name ≡ true) → q name ≡ true
known_by q name other names true same good e more = ap q ((bytes_eq-Decides name other).0 same) ∙ good
known_by q name other names false same good e more = more e

-- what is true of each of these names is true of one that is known among them
known_good : (q : List ℕ → Bool) (name : List ℕ) (names : List (List ℕ)) → list_all q names ≡ true → is_known names name ≡ true → q name ≡ true
known_good q name [] g e = cc
known_good q name (other ∷ names) g e =
    let b = both_true (q other) (list_all q names) g in
    known_by q name other names (bytes_eq name other) refl b.0 e (known_good q name names b.1)

-- the host of every service has a name without a semicolon
pub parted_from : (ds : ParsedSetup) → IsFaultless ds → list_all (λ s. is_host_name s.host) ds.services ≡ true
parted_from ds f =
    let names : list_all is_host_name (names_of ds.hosts) ≡ true =
    list_all-map is_host_name (λ h. h.name) ds.hosts ∙ all_weaker (λ h. is_name h.name) (λ h. is_host_name h.name)
    (λ h e. parted_name h.name e) ds.hosts f.named in
    all_weaker (λ s. is_known (names_of ds.hosts) s.host) (λ s. is_host_name s.host)
    (λ s e. known_good is_host_name s.host (names_of ds.hosts) names e) ds.services f.known

-- ---- numbers

number_by : (b : Bool) (i n : ℕ) → nat_lt i n ≡ b → 0 < n → nat_lt (unwrap_or (cond b (Some i) None) 0) n ≡ true
number_by true i n e h = e
number_by false i n e h = grind (arith, nat_tests, h)

index_below : (names : List (List ℕ)) (name : List ℕ) → 0 < length names → nat_lt (index_of_name names name) (length names) ≡ true
index_below names name h =
    number_by (nat_lt (position_or_len (bytes_eq name) names) (length names)) (position_or_len (bytes_eq name) names) (length names) refl h

numbers_below : (names : List (List ℕ)) (n : ℕ) → n ≡ length names → 0 < length names → (ts : List (List ℕ))
    → list_all (λ p. nat_lt p n) (map (index_of_name names) ts) ≡ true
numbers_below names n e h [] = refl
numbers_below names n e h (t ∷ ts) =
    let here : nat_lt (index_of_name names t) n ≡ true = ap (nat_lt (index_of_name names t)) e
    ∙ index_below names t h in rw (here, numbers_below names n e h ts) refl

hosts_linked : (names : List (List ℕ)) (n : ℕ) → n ≡ length names → 0 < length names → (hs : List ParsedHost)
    → list_all (λ h. list_all (λ p. nat_lt p n) h.parents) (map (numbered_host names) hs) ≡ true
hosts_linked names n e h [] = refl
hosts_linked names n e h (x ∷ hs) = rw (numbers_below names n e h x.parents, hosts_linked names n e h hs) refl

services_hosted : (names : List (List ℕ)) (n : ℕ) → n ≡ length names → 0 < length names → (ss : List ParsedService)
    → list_all (λ s. nat_lt s.host n) (map (numbered_service names) ss) ≡ true
services_hosted names n e h [] = refl
services_hosted names n e h (x ∷ ss) =
    let here : nat_lt (index_of_name names x.host) n ≡ true = ap (nat_lt (index_of_name names x.host)) e
    ∙ index_below names x.host h in rw (here, services_hosted names n e h ss) refl

names_length : (hs : List ParsedHost) → length (map (numbered_host (names_of hs)) hs) ≡ length (names_of hs)
names_length hs = length-map hs (numbered_host (names_of hs)) ∙ sym (length-map hs (λ h. h.name))

linked_by : (hs : List ParsedHost)
    → list_all (λ h. list_all (λ p. nat_lt p (length (map (numbered_host (names_of hs)) hs))) h.parents) (map (numbered_host (names_of hs)) hs) ≡ true
linked_by [] = refl
linked_by (x ∷ hs) = hosts_linked (names_of (x ∷ hs)) _ (names_length (x ∷ hs)) (omega arith) (x ∷ hs)

-- the parents of the hosts of a document are hosts
pub hosts_are_linked : (ds : ParsedSetup) → list_all (λ h. list_all (λ p. nat_lt p (length (configuration_of_objects ds).hosts)) h.parents) (configuration_of_objects ds).hosts ≡ true
hosts_are_linked ds = linked_by (hosts_in_order ds.hosts)

pub few_hosts : (ds : ParsedSetup) → verification ds ≡ Ok tt → length (hosts_in_order ds.hosts) ≤ 4096
few_hosts ds e =
    let f = faultless ds e in
    omega (arith, f.bounded, hosts_counted ds.hosts)

pub few_host_entries : (ds : ParsedSetup) → verification ds ≡ Ok tt → length (configuration_of_objects ds).hosts ≤ 4096
few_host_entries ds e = omega (arith, few_hosts ds e, length-map (hosts_in_order ds.hosts) (numbered_host (names_in_order ds.hosts)))

hosted_by : (hosts : List ParsedHost) (services : List ParsedService) → list_all (λ s. is_known (names_of hosts) s.host) services ≡ true
    → (ns : List (List ℕ)) (n : ℕ) → n ≡ length ns → (0 < length hosts → 0 < length ns)
    → list_all (λ s. nat_lt s.host n) (map (numbered_service ns) (services_in_order services)) ≡ true
hosted_by hosts [] k ns n e nonempty = refl
hosted_by [] (s ∷ services) k ns n e nonempty = cc
hosted_by (h ∷ hosts) (s ∷ services) k ns n e nonempty = services_hosted ns n e (nonempty (omega arith)) (services_in_order (s ∷ services))

at_most : (n high : ℕ) → nat_le n high ≡ true → n ≤ high
at_most n high e = grind (arith, nat_tests, e)

within : (low high n : ℕ) → (nat_le low n && nat_le n high) ≡ true → IsWithin low high n
within low high n e = let b = both_true (nat_le low n) (nat_le n high) e in (at_most low n b.0, at_most n high b.1)

allowed_by : (b : Bool) (w : RangeFault) (r : Result (Unit {0}) RangeFault) → r ≡ cond b (Ok tt) (Err w) → r ≡ Ok tt → b ≡ true
allowed_by true w r is e = refl
allowed_by false w r is e = let refused : Err w ≡ Ok tt = sym is ∙ e in cc

-- a number that passes is within the limits of its member
allowed : (m : Row) (n : ℕ) → verified.within m n ≡ Ok tt → is_within_limits m n ≡ true
allowed m n e = allowed_by (is_within_limits m n) (out_of_range m n) (verified.within m n) refl e

-- a number, if there is one, is within the limits of its member
is_allowed : Row → Option ℕ → Bool
is_allowed m None = true
is_allowed m (Some n) = is_within_limits m n

number_allowed : (m : Row) (n : Option ℕ) → verified.number_test m n ≡ Ok tt → is_allowed m n ≡ true
unfolding is_allowed
number_allowed m None e = refl
number_allowed m (Some n) e = allowed m n e

delay_in_range : (m : Row) (d : DelayMethod) → m.kind ≡ kind.Delay → is_allowed m (verified.fixed_delay d) ≡ true → IsDelayInRange d
unfolding is_allowed
delay_in_range m method.NoDelay is e = tt
delay_in_range m method.Dumb is e = tt
delay_in_range m method.Smart is e = tt
delay_in_range m (method.Fixed delay) is e = let w = within 0 86400000 delay (ap (λ k. is_between (limits_of k) delay) (sym is) ∙ e) in w.1

factor_in_range : (m : Row) (f : InterleaveFactor) → m.kind ≡ kind.Factor → is_allowed m (verified.fixed_factor f) ≡ true → IsFactorInRange f
unfolding is_allowed
factor_in_range m factor.Smart is e = tt
factor_in_range m (factor.Fixed n) is e = within 1 4096 n (ap (λ k. is_between (limits_of k) n) (sym is) ∙ e)

-- both thresholds are percents, and the low one isn't above the high one
record AreThresholds (low high : ℕ) : Type 0 where
  percent_low : low ≤ 100
  percent_high : high ≤ 100
  ordered : low ≤ high

ordered_by : (wrong : ℕ → ℕ → RangeFault) (low high : ℕ) → verified.order_test wrong low high ≡ Ok tt → low ≤ high
ordered_by wrong low high e = at_most low high (allowed_by (nat_le low high) (wrong low high) (verified.order_test wrong low high) refl e)

-- the options are within their limits
record HasOptionsInRange (o : Options) : Type 0 where
  interval_length : IsWithin 1 86400 o.interval_length
  service_delay : IsDelayInRange o.service_inter_check_delay_method
  service_spread : IsWithin 1 525600 o.max_service_check_spread
  service_factor : IsFactorInRange o.service_interleave_factor
  host_delay : IsDelayInRange o.host_inter_check_delay_method
  host_spread : IsWithin 1 525600 o.max_host_check_spread
  concurrent_checks : o.max_concurrent_checks ≤ 1000000
  service_flap : AreThresholds o.low_service_flap_threshold o.high_service_flap_threshold
  host_flap : AreThresholds o.low_host_flap_threshold o.high_host_flap_threshold

options_in_range : (o : Options) → verified.option_ranges_test o ≡ Ok tt → HasOptionsInRange o
unfolding is_allowed
options_in_range o e =
    let test = λ (i : ℕ) (x : Row × Option ℕ). verified.number_test x.0 x.1 in
    let all = all_of_each test (λ x. is_allowed x.0 x.1) (λ i x. number_allowed x.0 x.1) 0 (verified.option_numbers o)
    (first_ok (verified.option_numbers_test o) (λ _. verified.threshold_order_test o) tt e) in
    let order = rest_ok (verified.option_numbers_test o) (λ _. verified.threshold_order_test o) tt e in
    let at = λ (i : ℕ) (m : Row) (n : Option ℕ) (is : slice_get (verified.option_numbers o) i ≡ Some (m, n)).
    all_passes (λ x. is_allowed x.0 x.1) (verified.option_numbers o) i (m, n) all is in
    let services = verified.order_test service_thresholds o.low_service_flap_threshold o.high_service_flap_threshold in
    let concurrent = within 0 1000000 o.max_concurrent_checks (at 6 members.max_concurrent_checks (Some o.max_concurrent_checks) refl) in
    let low_service = within 0 100 o.low_service_flap_threshold (at 7 members.low_service_flap_threshold (Some o.low_service_flap_threshold) refl) in
    let high_service = within 0 100 o.high_service_flap_threshold (at 8 members.high_service_flap_threshold (Some o.high_service_flap_threshold) refl) in
    let low_host = within 0 100 o.low_host_flap_threshold (at 9 members.low_host_flap_threshold (Some o.low_host_flap_threshold) refl) in
    let high_host = within 0 100 o.high_host_flap_threshold (at 10 members.high_host_flap_threshold (Some o.high_host_flap_threshold) refl) in
    record {
      interval_length = within 1 86400 o.interval_length (at 0 members.interval_length (Some o.interval_length) refl);
      service_delay = delay_in_range members.service_inter_check_delay_method o.service_inter_check_delay_method refl (at 1 _ _ refl);
      service_spread = within 1 525600 o.max_service_check_spread (at 2 members.max_service_check_spread (Some o.max_service_check_spread) refl);
      service_factor = factor_in_range members.service_interleave_factor o.service_interleave_factor refl (at 3 _ _ refl);
      host_delay = delay_in_range members.host_inter_check_delay_method o.host_inter_check_delay_method refl (at 4 _ _ refl);
      host_spread = within 1 525600 o.max_host_check_spread (at 5 members.max_host_check_spread (Some o.max_host_check_spread) refl);
      concurrent_checks = concurrent.1;
      service_flap = record {
        percent_low = low_service.1;
        percent_high = high_service.1;
        ordered = ordered_by service_thresholds o.low_service_flap_threshold o.high_service_flap_threshold (first_ok services _ tt order);
      };
      host_flap = record {
        percent_low = low_host.1;
        percent_high = high_host.1;
        ordered = ordered_by host_thresholds o.low_host_flap_threshold o.high_host_flap_threshold (rest_ok services _ tt order);
      };
    }

-- the numbers of a parsed setup that passes are within the limits of a setup's objects
check_in_range : (c : Object) → verified.check_ranges_test c ≡ Ok tt → is_object_in_range c ≡ true
check_in_range c e =
    let interval = verified.within members.check_interval c.check_interval in
    let retry = verified.within members.retry_interval c.retry_interval in
    let after = rest_ok interval _ tt e in
    let a = both_true (nat_le 0 c.check_interval) (nat_le c.check_interval 525600) (allowed members.check_interval c.check_interval (first_ok interval _ tt e)) in
    let b = both_true (nat_le 0 c.retry_interval) (nat_le c.retry_interval 525600) (allowed members.retry_interval c.retry_interval (first_ok retry _ tt after)) in
    let d = both_true (nat_le 1 c.max_check_attempts) (nat_le c.max_check_attempts 255)
    (allowed members.max_check_attempts c.max_check_attempts (rest_ok retry _ tt after)) in
    rw (a.1, b.1, d.0, d.1) refl

-- and so are the numbers of every object
pub objects_in_range : (ds : ParsedSetup) → verification ds ≡ Ok tt → list_all (λ o. is_object_in_range o.object) (objects_of (configuration ds)) ≡ true
objects_in_range ds faults =
    let f = faultless ds faults in
    let hosts : list_all (λ h. is_object_in_range h.check) ds.hosts ≡ true =
    all_of_each verified.host_range_test (λ h. is_object_in_range h.check) (λ i h passed.
    check_in_range h.check (still_ok (range (host_place i)) (verified.check_ranges_test h.check) passed)) 0 ds.hosts f.host_numbers in
    let services : list_all (λ s. is_object_in_range s.check) ds.services ≡ true =
    all_of_each verified.service_range_test (λ s. is_object_in_range s.check) (λ i s passed.
    check_in_range s.check (still_ok (range (service_place i)) (verified.check_ranges_test s.check) passed)) 0 ds.services f.service_numbers in
    let ns = names_in_order ds.hosts in
    let hosts_placed = all_moved (λ h. is_object_in_range h.check) ds.hosts (hosts_in_order ds.hosts) (every_host ds.hosts) hosts in
    let services_placed = all_moved (λ s. is_object_in_range s.check) ds.services (services_in_order ds.services) (every_service ds.services) services in
    let hosts_numbered : list_all (λ o. is_object_in_range o.object) (map named_host (map (numbered_host ns) (hosts_in_order ds.hosts))) ≡ true =
    list_all-map (λ o. is_object_in_range o.object) named_host (map (numbered_host ns) (hosts_in_order ds.hosts))
    ∙ list_all-map (λ h. is_object_in_range h.object) (numbered_host ns) (hosts_in_order ds.hosts) ∙ hosts_placed in
    let services_numbered : list_all (λ o. is_object_in_range o.object) (map named_service (map (numbered_service ns) (services_in_order ds.services))) ≡ true =
    list_all-map (λ o. is_object_in_range o.object) named_service (map (numbered_service ns) (services_in_order ds.services))
    ∙ list_all-map (λ s. is_object_in_range s.object) (numbered_service ns) (services_in_order ds.services) ∙ services_placed in
    list_all-append (λ o. is_object_in_range o.object) (map named_host (map (numbered_host ns) (hosts_in_order ds.hosts)))
    (map named_service (map (numbered_service ns) (services_in_order ds.services))) ∙ rw (hosts_numbered, services_numbered) refl

-- ---- dependencies

-- as many objects as hosts and services
pub count_of : (c : Configuration) (hosts services : ℕ) → hosts ≡ length c.hosts → services ≡ length c.services → hosts + services ≡ object_count c
count_of c hosts services h s =
    omega (
      arith,
      h,
      s,
      length-append (map named_host c.hosts) (map named_service c.services),
      length-map c.hosts named_host,
      length-map c.services
          named_service,
    )

pub few_in_all : (c : Configuration) → length c.hosts + length c.services ≤ 4096 → object_count c ≤ 4096
few_in_all c h = omega (arith, h, count_of c (length c.hosts) (length c.services) refl refl)

numbered_few : (ds : ParsedSetup) → verification ds ≡ Ok tt → length (configuration_of_objects ds).hosts + length (configuration_of_objects ds).services ≤ 4096
numbered_few ds e =
    let hs = hosts_in_order ds.hosts in
    let ns = names_in_order ds.hosts in
    let f = faultless ds e in
    let h = hosts_counted ds.hosts in
    let s = services_counted ds.services in
    omega (arith, f.bounded, h, s, length-map hs (numbered_host ns), length-map (services_in_order ds.services) (numbered_service ns))

pub few_numbered : (ds : ParsedSetup) → verification ds ≡ Ok tt → object_count (configuration_of_objects ds) ≤ 4096
few_numbered ds e = few_in_all (configuration_of_objects ds) (numbered_few ds e)

some_known_name : (names : List (List ℕ)) (ds : List ParsedDependency) → have_known_ends names ds ≡ true → 0 < length ds → 0 < length names
some_known_name names [] k h = absurd (omega arith)
some_known_name [] (d ∷ ds) k h = cc
some_known_name (n ∷ names) (d ∷ ds) k h = omega arith

-- where there is a dependency, there is an object
some_object : (ds : ParsedSetup) → verification ds ≡ Ok tt → 0 < length (all_dependencies ds) → 0 < object_count (configuration_of_objects ds)
some_object ds e h =
    let f = faultless ds e in
    let ns = names_in_order ds.hosts in
    let count = count_of (configuration_of_objects ds) (length (configuration_of_objects ds).hosts) (length (configuration_of_objects ds).services) refl refl in
    let hosts = length-map (hosts_in_order ds.hosts) (numbered_host ns) in
    let services = length-map (services_in_order ds.services) (numbered_service ns) in
    let parts = length-append ds.service_dependencies ds.host_dependencies in
    elim (cases_lt 0 (length ds.service_dependencies)) [
      | inl l ↦ let n = some_known_name (full_names ds.services) ds.service_dependencies f.service_ends l in
          omega (arith, count, services, n, length-map ds.services (λ s. full_name (key_of s)), services_counted ds.services)
      | inr l ↦ let n = some_known_name (names_of ds.hosts) ds.host_dependencies f.host_ends (omega (arith, l, h, parts)) in
          omega (arith, count, hosts, n, length-map ds.hosts (λ h. h.name), hosts_counted ds.hosts)
    ]

-- the dependents are objects
pub dependents_within : (ds : ParsedSetup) → verification ds ≡ Ok tt
    → list_all (λ d. nat_lt d.0 (object_count (configuration_of_objects ds))) (map (numbered_dependency (objects_of (configuration_of_objects ds))) (all_dependencies ds)) ≡ true
dependents_within ds e = dependents_below (objects_of (configuration_of_objects ds)) (all_dependencies ds) (some_object ds e)

-- what is true of the lists of dependencies before their order is made
pub record HasLists (c : Configuration) : Type 0 where
  pub bounded : object_count c ≤ 4096
  pub one_list_each : length c.dependencies ≡ object_count c
  pub masters_in_range : are_within (object_count c) (masters_of c) ≡ true

pub has_lists : (ds : ParsedSetup) → verification ds ≡ Ok tt → HasLists (configuration ds)
has_lists ds e =
    let objects = objects_of (configuration_of_objects ds) in
    let all = map (numbered_dependency objects) (all_dependencies ds) in
    record {
      bounded = few_numbered ds e;
      one_list_each = length-dependency_lists (length objects) all;
      masters_in_range = masters_within_lists (length objects) all (masters_below objects (all_dependencies ds));
    }

module _ {L : Type 0} (items : L → List Dependency) (lists : List L) (c : Configuration) (has : HasLists c) (are : map items lists ≡ c.dependencies) where
  one_each : length lists ≡ object_count c
  one_each = sym (length-map lists items) ∙ ap length are ∙ has.one_list_each

  pub few_lists : length lists ≤ 4096
  few_lists = omega (arith, one_each, has.bounded)

  pub masters_within : are_within (length lists) (map masters_in (map items lists)) ≡ true
  masters_within =
      ap (λ n. are_within n (map masters_in (map items lists))) one_each ∙ ap (λ l. are_within (object_count c) (map masters_in l)) are
      ∙ has.masters_in_range

-- ---- names, in order

services_known : (ds : ParsedSetup) → verification ds ≡ Ok tt → list_all (λ s. is_known (names_in_order ds.hosts) s.host) (services_in_order ds.services) ≡ true
services_known ds e =
    let agree : (λ (s : ParsedService). is_known (names_in_order ds.hosts) s.host) ≡ (λ s. is_known (names_of ds.hosts) s.host) =
    λ i s. sym (known_in_order ds.hosts s.host) i in
    all_moved (λ s. is_known (names_in_order ds.hosts) s.host) ds.services (services_in_order ds.services) (every_service ds.services)
    (ap (λ f. list_all f ds.services) agree ∙ (faultless ds e).known)

named_in_order : (ds : ParsedSetup) → verification ds ≡ Ok tt → list_all (λ h. is_name h.name) (hosts_in_order ds.hosts) ≡ true
named_in_order ds e = all_moved (λ h. is_name h.name) ds.hosts (hosts_in_order ds.hosts) (every_host ds.hosts) (faultless ds e).named

described_in_order : (ds : ParsedSetup) → verification ds ≡ Ok tt → list_all (λ s. is_name s.description) (services_in_order ds.services) ≡ true
described_in_order ds e =
    all_moved (λ s. is_name s.description) ds.services (services_in_order ds.services) (every_service ds.services) (faultless ds e).described

pub parted_hosts : (ds : ParsedSetup) → verification ds ≡ Ok tt → list_all (λ h. is_host_name h.name) (configuration ds).hosts ≡ true
parted_hosts ds e =
    list_all-map (λ h. is_host_name h.name) (numbered_host (names_in_order ds.hosts)) (hosts_in_order ds.hosts)
    ∙ all_weaker (λ x. is_name x.name) (λ x. is_host_name x.name) (λ x h. parted_name x.name h) (hosts_in_order ds.hosts) (named_in_order ds e)

-- both ends of every dependency are of one sort
same_sorts_of : (ds : ParsedSetup) → verification ds ≡ Ok tt
    → AllByRecursion (AreAlike (host_count (configuration ds))) (map (numbered_dependency (objects_of (configuration_of_objects ds))) (all_dependencies ds))
same_sorts_of ds e =
    let c = configuration ds in
    let f = faultless ds e in
    let objects = objects_of (configuration_of_objects ds) in
    let n = host_count c in
    let hs = hosts_in_order ds.hosts in
    let ns = names_in_order ds.hosts in
    let services = ends_alike objects (full_names ds.services) n false (λ name known.
    let at = found (λ (s : ParsedService). bytes_eq name (full_name (key_of s))) ds.services
    (sym (list_any-map (bytes_eq name) (λ s. full_name (key_of s)) ds.services) ∙ known) in
    service_end c name (key_of at.item) ((bytes_eq-Decides name (full_name (key_of at.item))).0 at.passes) (parted_hosts ds e)
    (full_name_in_order ds.services ns name ∙ known))
    ds.service_dependencies f.service_ends in
    let hosts = ends_alike objects (names_of ds.hosts) n true (λ name known.
    host_end c name (ap (λ l. is_known l name) (host_names_are ns hs) ∙ sym (known_in_order ds.hosts name) ∙ known))
    ds.host_dependencies f.host_ends in
    subst (AllByRecursion (AreAlike n)) (sym (map-append (numbered_dependency objects) ds.service_dependencies ds.host_dependencies))
    (both_hold (AreAlike n) (map (numbered_dependency objects) ds.service_dependencies) (map (numbered_dependency objects) ds.host_dependencies) services hosts)

-- the dependencies of an object are on objects of its sort
pub sorts_alike : (ds : ParsedSetup) → verification ds ≡ Ok tt → (n : ℕ) → n < object_count (configuration ds)
    → All (λ d. IsSameSort (configuration ds) d.master n) (dependencies_of (configuration ds) n)
sorts_alike ds e n below =
    let c = configuration ds in
    let all = map (numbered_dependency (objects_of (configuration_of_objects ds))) (all_dependencies ds) in
    subst (All (λ d. IsSameSort c d.master n)) (sym (list_of_object (length (objects_of (configuration_of_objects ds))) n all below))
    (All-from_recursion (λ d. IsSameSort c d.master n) (dependencies_among all n) (alike_among (host_count c) n all (same_sorts_of ds e)))

-- what tells the names of a document without a fault apart
pub names_of_document : (ds : ParsedSetup) → verification ds ≡ Ok tt → HasNames (configuration ds)
names_of_document ds e =
    let c = configuration ds in
    let hs = hosts_in_order ds.hosts in
    let ns = names_in_order ds.hosts in
    let nonempty : 0 < length ds.hosts → 0 < length ns = λ x. omega (arith, x, hosts_counted ds.hosts, length-map hs (λ h. h.name)) in
    record {
      host_names = list_all-map (λ x. is_name x.name) (numbered_host ns) hs ∙ named_in_order ds e;
      full_names =
          All-from_recursion (λ x. x.name ≡ full_name (pair_of c x)) c.services
          (full_names_are c ns hs refl (services_in_order ds.services) (services_known ds e));
      hosts_ascend = subst (IsStrictlySortedBy text_order) (sym (host_names_are ns hs)) (apart_hosts_ascend ds.hosts (once ds e).0);
      services_ascend =
          subst (IsStrictlySortedBy pair_order) (sym (pairs_are c ns hs refl (services_in_order ds.services) (services_known ds e)))
          (apart_services_ascend ds.services (once ds e).1);
      hosts_in_range = hosted_by ds.hosts ds.services (faultless ds e).known ns (length (map (numbered_host ns) hs)) (names_length hs) nonempty;
    }

-- what a document without a fault gives is a setup
pub configuration_is_setup : (ds : ParsedSetup) → verification ds ≡ Ok tt → has_cycle (masters_of (configuration ds)) ≡ false
    → has_cycle (parents_by_host (configuration ds)) ≡ false → IsSetup (configuration ds)
configuration_is_setup ds e acyclic no_parent_cycle =
    let lists = has_lists ds e in
    let f = faultless ds e in
    let o = options_in_range ds.options f.options in
    let hs = hosts_in_order ds.hosts in
    let ns = names_in_order ds.hosts in
    let h = hosts_counted ds.hosts in
    let s = services_counted ds.services in
    let names = names_of_document ds e in
    record {
      bounded = omega (arith, f.bounded, h, s, length-map hs (numbered_host ns), length-map (services_in_order ds.services) (numbered_service ns));
      parents_bounded = subst (λ n. n ≤ 16384) (sym (parents_counted ds.hosts ns)) f.parents_bounded;
      dependencies_bounded =
          let all = map (numbered_dependency (objects_of (configuration_of_objects ds))) (all_dependencies ds) in
          omega (
            arith,
            f.dependencies_bounded,
            listed_once (length (objects_of (configuration_of_objects ds))) all (dependents_within ds e),
            length-map (all_dependencies ds)
                (numbered_dependency (objects_of (configuration_of_objects ds))),
            length-append ds.service_dependencies ds.host_dependencies,
          );
      host_names = names.host_names;
      descriptions = list_all-map (λ x. is_name x.description) (numbered_service ns) (services_in_order ds.services) ∙ described_in_order ds e;
      full_names = names.full_names;
      hosts_ascend = names.hosts_ascend;
      services_ascend = names.services_ascend;
      same_sorts = sorts_alike ds e;
      no_parent_cycle = no_parent_cycle;
      linked = linked_by hs;
      hosts_in_range = names.hosts_in_range;
      one_list_each = lists.one_list_each;
      masters_in_range = lists.masters_in_range;
      acyclic = acyclic;
      interval_length = o.interval_length.1;
      interval_length_positive = o.interval_length.0;
      service_delay = o.service_delay;
      service_spread = o.service_spread;
      service_factor = o.service_factor;
      host_delay = o.host_delay;
      host_spread = o.host_spread;
      concurrent_checks = o.concurrent_checks;
      low_service_flap_threshold = o.service_flap.percent_low;
      high_service_flap_threshold = o.service_flap.percent_high;
      low_host_flap_threshold = o.host_flap.percent_low;
      high_host_flap_threshold = o.host_flap.percent_high;
      service_flap_thresholds = o.service_flap.ordered;
      host_flap_thresholds = o.host_flap.ordered;
      ranges = objects_in_range ds e;
    }

-- the links that are kept of hosts are to hosts
pub parents_within : {L : Type 0} (items : L → List ℕ) (hosts : List Host) (links : List L) → map items links ≡ map (λ h. h.parents) hosts
    → list_all (λ h. list_all (λ p. nat_lt p (length hosts)) h.parents) hosts ≡ true
    → are_within (length links) (map items links) ≡ true
parents_within items hosts links e linked =
    let n : length links ≡ length hosts = omega (arith, length-map links items, ap length e, length-map hosts (λ h. h.parents)) in
    ap (λ l. are_within (length links) l) e ∙ list_all-map (λ ls. list_all (λ p. nat_lt p (length links)) ls) (λ h. h.parents) hosts
    ∙ ap (λ k. list_all (λ h. list_all (λ p. nat_lt p k) h.parents) hosts) n ∙ linked
