-- Verifies a parsed setup that is in the right shape: one test after another, each over all items. The fault is that of the first item that doesn't pass a
-- test.
use Rattle.std.specs.Prelude.{ℕ, ◌+◌, List, [], ◌∷◌, length, map, Option, Some, None, option_map, sum_by, position, not, Result, Ok, Err, bytes_eq, nat_lt}
use Rattle.std.specs.Prelude.{nat_le, if◌then◌else◌}
use Rattle.setup_model.specs.declared.parsed_setup.Object.{Object}
use Rattle.setup_model.specs.declared.fault.Count.{Count}
use Rattle.setup_model.specs.declared.fault.Count.TheVariants as count
use Rattle.setup_model.specs.declared.options.DelayMethod.{DelayMethod}
use Rattle.setup_model.specs.declared.options.DelayMethod.TheVariants as method
use Rattle.setup_model.specs.declared.options.InterleaveFactor.{InterleaveFactor}
use Rattle.setup_model.specs.declared.options.InterleaveFactor.TheVariants as factor
use Rattle.setup_model.specs.declared.options.Options.{Options}
use Rattle.setup_model.specs.Agreement.{◌>>=◌, each, with_error, error_at, ok_unless}
use Rattle.setup_model.specs.Fault as fault
use Rattle.setup_model.specs.Fault.{Fault, RangeFault}
use Rattle.setup_model.specs.Keys.{first_equal_index, first_repeat, names_of, key_of, is_same_key}
use Rattle.setup_model.specs.Member.{Row, is_within_limits}
use Rattle.setup_model.specs.Members as members
use Rattle.setup_model.specs.Name.{name_fault}
use Rattle.setup_model.specs.Place.{options_place, host_place, service_place}
use Rattle.setup_model.specs.ParsedSetup.{ParsedHost, ParsedService, ParsedSetup}
use Rattle.setup_model.specs.Ends.{is_known, full_names, dependencies_test}

-- ---- counts

-- a number, up to the largest number of 64 bits
abbrev pub u64_or_max : ℕ → ℕ
u64_or_max n = if nat_lt n 18446744073709551615 then n else 18446744073709551615

-- there are at most this many
abbrev pub count_test : Count → ℕ → ℕ → Result (Unit {0}) Fault
count_test what most n = if nat_lt most n then Err (fault.too_many what n) else Ok tt

-- the number of parents of all hosts together
abbrev pub parent_count : List ParsedHost → ℕ
parent_count hosts = sum_by (λ h. length h.parents) hosts

-- at most 4,096 hosts and services together, 16,384 parents of all hosts, and 16,384 dependencies of both sorts
abbrev pub item_counts_test : ParsedSetup → Result (Unit {0}) Fault
item_counts_test parsed =
    count_test count.Objects 4096 (u64_or_max (length parsed.hosts + length parsed.services)) >>= λ _.
    (count_test count.Parents 16384 (u64_or_max (parent_count parsed.hosts)) >>= λ _.
    count_test count.Dependencies 16384 (u64_or_max (length parsed.service_dependencies + length parsed.host_dependencies)))

-- ---- names

-- the name of the host at this index is allowed
abbrev pub host_name_test : ℕ → ParsedHost → Result (Unit {0}) Fault
host_name_test i h = ok_unless (option_map (fault.bad_name (host_place i)) (name_fault h.name))

-- the description of the service at this index is allowed
abbrev pub description_test : ℕ → ParsedService → Result (Unit {0}) Fault
description_test i s = ok_unless (option_map (fault.bad_name (service_place i)) (name_fault s.description))

-- the name of every host and the description of every service are allowed
abbrev pub setup_names_test : List ParsedHost → List ParsedService → Result (Unit {0}) Fault
setup_names_test hosts services = each host_name_test hosts >>= λ _. each description_test services

-- ---- repeats

-- every host has a name of its own; otherwise the first host whose name occurred before, and the first host with that name
abbrev pub distinct_hosts_test : List ParsedHost → Result (Unit {0}) Fault
distinct_hosts_test hosts = error_at (λ i. fault.duplicate (host_place i) (first_equal_index bytes_eq (names_of hosts) i)) (first_repeat bytes_eq (names_of hosts))

-- the names of the hosts, if every host has a name of its own
abbrev pub distinct_host_names : List ParsedHost → Result (List (List ℕ)) Fault
distinct_host_names hosts = distinct_hosts_test hosts >>= λ _. Ok (names_of hosts)

-- no two services have both the same host and the same description; otherwise the first service whose pair occurred before, and the first with that
-- pair
abbrev pub distinct_services_test : List ParsedService → Result (Unit {0}) Fault
distinct_services_test services =
    error_at (λ i. fault.duplicate (service_place i) (first_equal_index is_same_key (map key_of services) i)) (first_repeat is_same_key (map key_of services))

-- ---- links

-- every parent of the host at this index exists; otherwise the first parent that doesn't
abbrev pub host_parents_test : List (List ℕ) → ℕ → ParsedHost → Result (Unit {0}) Fault
host_parents_test names i h = error_at (fault.unknown_parent i) (position (λ p. not (is_known names p)) h.parents)

-- every parent of every host exists
abbrev pub parents_test : List (List ℕ) → List ParsedHost → Result (Unit {0}) Fault
parents_test names hosts = each (host_parents_test names) hosts

-- the host of the service at this index exists
abbrev pub service_host_test : List (List ℕ) → ℕ → ParsedService → Result (Unit {0}) Fault
service_host_test names i s = if is_known names s.host then Ok tt else Err (fault.unknown_host i)

-- the host of every service exists
abbrev pub service_hosts_test : List (List ℕ) → List ParsedService → Result (Unit {0}) Fault
service_hosts_test names services = each (service_host_test names) services

-- every named object exists: parents, the hosts of services, and both ends of dependencies
abbrev pub links_test : List (List ℕ) → ParsedSetup → Result (Unit {0}) Fault
links_test names parsed =
    parents_test names parsed.hosts >>= λ _.
    (service_hosts_test names parsed.services >>= λ _. dependencies_test (full_names parsed.services) names parsed)

-- ---- limits

-- a number is within the limits of its member
abbrev pub within : Row → ℕ → Result (Unit {0}) RangeFault
within m n = if is_within_limits m n then Ok tt else Err (fault.out_of_range m n)

-- a number, if there is one, is within the limits of its member
abbrev pub number_test : Row → Option ℕ → Result (Unit {0}) RangeFault
number_test m None = Ok tt
number_test m (Some n) = within m n

-- the number of a fixed delay
abbrev pub fixed_delay : DelayMethod → Option ℕ
fixed_delay (method.Fixed delay) = Some delay
fixed_delay other = None

-- the number of a fixed factor
abbrev pub fixed_factor : InterleaveFactor → Option ℕ
fixed_factor factor.Smart = None
fixed_factor (factor.Fixed n) = Some n

-- both intervals and the attempts are within their limits
abbrev pub check_ranges_test : Object → Result (Unit {0}) RangeFault
check_ranges_test c =
    within members.check_interval c.check_interval >>= λ _.
    (within members.retry_interval c.retry_interval >>= λ _. within members.max_check_attempts c.max_check_attempts)

-- the numbers of the options, each with its member, in the order of the table
abbrev pub option_numbers : Options → List (Row × Option ℕ)
option_numbers o =
    (members.interval_length, Some o.interval_length)
    ∷ (members.service_inter_check_delay_method, fixed_delay o.service_inter_check_delay_method)
    ∷ (members.max_service_check_spread, Some o.max_service_check_spread)
    ∷ (members.service_interleave_factor, fixed_factor o.service_interleave_factor)
    ∷ (members.host_inter_check_delay_method, fixed_delay o.host_inter_check_delay_method)
    ∷ (members.max_host_check_spread, Some o.max_host_check_spread)
    ∷ (members.max_concurrent_checks, Some o.max_concurrent_checks)
    ∷ (members.low_service_flap_threshold, Some o.low_service_flap_threshold)
    ∷ (members.high_service_flap_threshold, Some o.high_service_flap_threshold)
    ∷ (members.low_host_flap_threshold, Some o.low_host_flap_threshold)
    ∷ (members.high_host_flap_threshold, Some o.high_host_flap_threshold)
    ∷ []

-- each of them is within the limits of its member
abbrev pub option_numbers_test : Options → Result (Unit {0}) RangeFault
option_numbers_test o = each (λ i x. number_test x.0 x.1) (option_numbers o)

-- the first of two numbers isn't above the second
abbrev pub order_test : (ℕ → ℕ → RangeFault) → ℕ → ℕ → Result (Unit {0}) RangeFault
order_test wrong low high = if nat_le low high then Ok tt else Err (wrong low high)

-- the low thresholds of flapping aren't above the high ones
abbrev pub threshold_order_test : Options → Result (Unit {0}) RangeFault
threshold_order_test o =
    order_test fault.service_thresholds o.low_service_flap_threshold o.high_service_flap_threshold >>= λ _.
    order_test fault.host_thresholds o.low_host_flap_threshold o.high_host_flap_threshold

-- the numbers of the options are within their limits, in the order of the table, and the thresholds in their order
abbrev pub option_ranges_test : Options → Result (Unit {0}) RangeFault
option_ranges_test o = option_numbers_test o >>= λ _. threshold_order_test o

abbrev pub options_test : Options → Result (Unit {0}) Fault
options_test options = with_error (fault.range options_place) (option_ranges_test options)

-- the numbers of the host at this index are within their limits
abbrev pub host_range_test : ℕ → ParsedHost → Result (Unit {0}) Fault
host_range_test i h = with_error (fault.range (host_place i)) (check_ranges_test h.check)

-- the numbers of the service at this index are within their limits
abbrev pub service_range_test : ℕ → ParsedService → Result (Unit {0}) Fault
service_range_test i s = with_error (fault.range (service_place i)) (check_ranges_test s.check)

-- all numbers are within their limits
abbrev pub setup_ranges_test : Options → List ParsedHost → List ParsedService → Result (Unit {0}) Fault
setup_ranges_test options hosts services = options_test options >>= λ _. (each host_range_test hosts >>= λ _. each service_range_test services)

-- ---- all tests

-- the first fault after the shape, if there is one
unfoldable pub verification : ParsedSetup → Result (Unit {0}) Fault
verification parsed =
    item_counts_test parsed >>= λ _.
    (setup_names_test parsed.hosts parsed.services >>= λ _.
    (distinct_host_names parsed.hosts >>= λ names.
    (distinct_services_test parsed.services >>= λ _.
    (links_test names parsed >>= λ _.
    setup_ranges_test parsed.options parsed.hosts parsed.services))))
