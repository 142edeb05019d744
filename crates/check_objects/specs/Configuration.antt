-- A setup as contracts see it: its options, its hosts and its services, in the order of their numbers.
use Rattle.std.specs.Prelude.{◌≡◌, ℕ, ◌+◌, ◌-◌, ◌<◌, ◌≤◌, ◌&&◌, Bool, true, nat_le, List, [], ◌++◌, length, map, position, bytes_eq, slice_get}
use Rattle.std.specs.Prelude.{slice_index_or, sum_by, All, option_map, unwrap_or, nat_lt, Option, None, false, if◌then◌else◌}
use Rattle.std.specs.List.{list_all}
use Rattle.std.specs.List.Sorted.{IsStrictlySortedBy}
use Rattle.setup_model.specs.declared.dependency.Dependency.{Dependency}
use Rattle.setup_model.specs.declared.parsed_setup.Object.{Object}
use Rattle.setup_model.specs.declared.options.DelayMethod.{DelayMethod}
use Rattle.setup_model.specs.declared.options.DelayMethod.TheVariants as method
use Rattle.setup_model.specs.declared.options.InterleaveFactor.{InterleaveFactor}
use Rattle.setup_model.specs.declared.options.InterleaveFactor.TheVariants as factor
use Rattle.setup_model.specs.declared.options.Options.{Options}
use Rattle.setup_order.specs.Cycles.{are_within, has_cycle}
use Rattle.setup_model.specs.Name.{full_name, is_name, text_order, pair_order}

-- an object and its full name
pub record NamedObject : Type 0 where
  pub name : List ℕ
  pub object : Object

pub record Host : Type 0 where
  pub name : List ℕ
  pub object : Object
  -- the numbers of its parents, in the document's order
  pub parents : List ℕ

pub record Service : Type 0 where
  -- its full name: the host's name, a semicolon and the description
  pub name : List ℕ
  pub description : List ℕ
  pub object : Object
  -- the number of its host
  pub host : ℕ

pub record Configuration : Type 0 where
  pub options : Options
  -- in the order of their names' bytes
  pub hosts : List Host
  -- in the order of their hosts' names and then of their descriptions, each by its bytes
  pub services : List Service
  -- for each object by number its dependencies, in the document's order
  pub dependencies : List (List Dependency)

abbrev pub named_host : Host → NamedObject
named_host h = record { name = h.name; object = h.object }

abbrev pub named_service : Service → NamedObject
named_service s = record { name = s.name; object = s.object }

-- all objects, by number: the hosts first
abbrev pub objects_of : Configuration → List NamedObject
objects_of c = map named_host c.hosts ++ map named_service c.services

-- the number of hosts; each host's number is below it
abbrev pub host_count : Configuration → ℕ
host_count c = length c.hosts

-- the number of objects
abbrev pub object_count : Configuration → ℕ
object_count c = length (objects_of c)

-- the place of a full name among these objects
abbrev pub number_among : List NamedObject → List ℕ → Option ℕ
number_among objects name = position (λ n. bytes_eq name n.name) objects

-- the number of a full name
abbrev pub number_by_name : Configuration → List ℕ → Option ℕ
number_by_name c name = number_among (objects_of c) name

-- the full name of the object with this number
abbrev pub name_of : Configuration → ℕ → List ℕ
name_of c n = unwrap_or (option_map (λ o. o.name) (slice_get (objects_of c) n)) []

-- the host of the object with this number: a service has one, and a host has none
abbrev pub host_of : Configuration → ℕ → Option ℕ
host_of c n = if nat_lt n (host_count c) then None else option_map (λ s. s.host) (slice_get c.services (n - host_count c))

-- the parents of the object with this number; a service has none
abbrev pub parents_of : Configuration → ℕ → List ℕ
parents_of c n = unwrap_or (option_map (λ h. h.parents) (slice_get c.hosts n)) []

-- the dependencies of the object with this number, in the document's order
abbrev pub dependencies_of : Configuration → ℕ → List Dependency
dependencies_of c n = slice_index_or c.dependencies n []

-- the numbers of the masters of these dependencies
abbrev pub masters_in : List Dependency → List ℕ
masters_in ds = map (λ d. d.master) ds

-- for each object by number its masters
abbrev pub masters_of : Configuration → List (List ℕ)
masters_of c = map masters_in c.dependencies

-- both intervals of an object are at most 525,600 units, a year of minutes, and its attempts 1 to 255
abbrev pub is_object_in_range : Object → Bool
is_object_in_range o = nat_le o.check_interval 525600 && nat_le o.retry_interval 525600 && nat_le 1 o.max_check_attempts && nat_le o.max_check_attempts 255

-- the parents of each host, by number
abbrev pub parents_by_host : Configuration → List (List ℕ)
parents_by_host c = map (λ h. h.parents) c.hosts

-- the key of a service: the name of its host, and its description
abbrev pub pair_of : Configuration → Service → List ℕ × List ℕ
pair_of c s = (name_of c s.host, s.description)

-- both numbers are those of hosts, or both are those of services
abbrev pub IsSameSort : Configuration → ℕ → ℕ → Type 0
IsSameSort c m n = nat_lt m (host_count c) ≡ nat_lt n (host_count c)

-- the number is within these limits
abbrev pub IsWithin : ℕ → ℕ → ℕ → Type 0
IsWithin low high n = (low ≤ n) × (n ≤ high)

-- a fixed delay is at most a day of milliseconds
abbrev pub IsDelayInRange : DelayMethod → Type 0
IsDelayInRange (method.Fixed delay) = delay ≤ 86400000
IsDelayInRange other = Unit {0}

-- a fixed factor is 1 to 4,096
abbrev pub IsFactorInRange : InterleaveFactor → Type 0
IsFactorInRange factor.Smart = Unit {0}
IsFactorInRange (factor.Fixed n) = IsWithin 1 4096 n

-- Every setup is like this: it has at most 4,096 objects, 16,384 parents and 16,384 dependencies. Its hosts have names and its services descriptions,
-- and both ascend, so no two objects have the same full name. Its parents and its services' hosts are hosts. Its dependencies are between objects of
-- one sort. No object depends on itself, and no host is its own parent, through one link or more. Its numbers are within their limits.
pub record IsSetup (c : Configuration) : Type 0 where
  pub bounded : length c.hosts + length c.services ≤ 4096
  pub parents_bounded : sum_by (λ h. length h.parents) c.hosts ≤ 16384
  pub dependencies_bounded : sum_by (λ ds. length ds) c.dependencies ≤ 16384
  pub host_names : list_all (λ h. is_name h.name) c.hosts ≡ true
  pub descriptions : list_all (λ s. is_name s.description) c.services ≡ true
  pub full_names : All (λ s. s.name ≡ full_name (pair_of c s)) c.services
  pub hosts_ascend : IsStrictlySortedBy text_order (map (λ h. h.name) c.hosts)
  pub services_ascend : IsStrictlySortedBy pair_order (map (pair_of c) c.services)
  pub linked : list_all (λ h. list_all (λ p. nat_lt p (length c.hosts)) h.parents) c.hosts ≡ true
  pub hosts_in_range : list_all (λ s. nat_lt s.host (length c.hosts)) c.services ≡ true
  -- one list of dependencies for each object
  pub one_list_each : length c.dependencies ≡ object_count c
  pub masters_in_range : are_within (object_count c) (masters_of c) ≡ true
  pub same_sorts : (n : ℕ) → n < object_count c → All (λ d. IsSameSort c d.master n) (dependencies_of c n)
  pub acyclic : has_cycle (masters_of c) ≡ false
  pub no_parent_cycle : has_cycle (parents_by_host c) ≡ false
  pub interval_length : c.options.interval_length ≤ 86400
  pub interval_length_positive : 1 ≤ c.options.interval_length
  pub service_delay : IsDelayInRange c.options.service_inter_check_delay_method
  pub service_spread : IsWithin 1 525600 c.options.max_service_check_spread
  pub service_factor : IsFactorInRange c.options.service_interleave_factor
  pub host_delay : IsDelayInRange c.options.host_inter_check_delay_method
  pub host_spread : IsWithin 1 525600 c.options.max_host_check_spread
  pub concurrent_checks : c.options.max_concurrent_checks ≤ 1000000
  pub low_service_flap_threshold : c.options.low_service_flap_threshold ≤ 100
  pub high_service_flap_threshold : c.options.high_service_flap_threshold ≤ 100
  pub low_host_flap_threshold : c.options.low_host_flap_threshold ≤ 100
  pub high_host_flap_threshold : c.options.high_host_flap_threshold ≤ 100
  pub service_flap_thresholds : c.options.low_service_flap_threshold ≤ c.options.high_service_flap_threshold
  pub host_flap_thresholds : c.options.low_host_flap_threshold ≤ c.options.high_host_flap_threshold
  pub ranges : list_all (λ o. is_object_in_range o.object) (objects_of c) ≡ true
