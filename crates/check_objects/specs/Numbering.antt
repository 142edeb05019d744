-- The numbers of objects. Hosts come first, in the order of their names' bytes; then services, in the order of their hosts' names and then of their
-- descriptions.
use Rattle.std.specs.Prelude.{ℕ, ◌+◌, ◌==◌, List, [], ◌∷◌, ◌++◌, map, position, bytes_eq, unwrap_or, length, if◌then◌else◌}
use Rattle.std.specs.List.{count_by, filter, range_with_len}
use Rattle.std.specs.declared.cmp.Ordering.{Ordering}
use Rattle.std.specs.Ordering.{is_lt}
use Rattle.setup_model.specs.declared.dependency.Dependency.{Dependency}
use Rattle.check_objects.specs.Configuration.{NamedObject, Host, Service, Configuration, objects_of, number_among}
use Rattle.setup_model.specs.Name.{full_name, text_order, pair_order}
use Rattle.setup_model.specs.ParsedSetup.{ParsedHost, ParsedService, ParsedDependency, ParsedSetup}
use Rattle.setup_model.specs.Keys.{key_of, names_of}

-- ---- the order

-- an item in its place in a list that ascends: before the first item whose key isn't smaller
abbrev pub put_in_order : {A K : Type 0} → (K → K → Ordering) → (A → K) → A → List A → List A
put_in_order order key x [] = x ∷ []
put_in_order order key x (y ∷ ys) = if is_lt (order (key y) (key x)) then y ∷ put_in_order order key x ys else x ∷ y ∷ ys

-- The items in the order of their keys. `numbers_follow_names` states the result: all items, in ascending order if no two keys are equal.
abbrev pub in_order : {A K : Type 0} → (K → K → Ordering) → (A → K) → List A → List A
in_order order key [] = []
in_order order key (x ∷ xs) = put_in_order order key x (in_order order key xs)

-- the hosts by their names
abbrev pub hosts_in_order : List ParsedHost → List ParsedHost
hosts_in_order hosts = in_order text_order (λ h. h.name) hosts

-- the services by their hosts' names and then by their descriptions
abbrev pub services_in_order : List ParsedService → List ParsedService
services_in_order services = in_order pair_order key_of services

-- the number of these keys that are smaller
abbrev pub smaller_count : {K : Type 0} → (K → K → Ordering) → List K → K → ℕ
smaller_count order keys key = count_by (λ k. is_lt (order k key)) keys

-- ---- the numbers

-- the place of a name among these
abbrev pub index_of_name : List (List ℕ) → List ℕ → ℕ
index_of_name names name = unwrap_or (position (bytes_eq name) names) 0

-- a host with its parents by number
abbrev pub numbered_host : List (List ℕ) → ParsedHost → Host
numbered_host names h = record { name = h.name; object = h.check; parents = map (index_of_name names) h.parents }

-- a service with its host by number
abbrev pub numbered_service : List (List ℕ) → ParsedService → Service
numbered_service names s = record { name = full_name (key_of s); description = s.description; object = s.check; host = index_of_name names s.host }

-- the names of hosts in order
abbrev pub names_in_order : List ParsedHost → List (List ℕ)
names_in_order hosts = names_of (hosts_in_order hosts)

-- the hosts and services of a parsed setup without a fault, by number
abbrev pub configuration_of_objects : ParsedSetup → Configuration
configuration_of_objects parsed = record {
  options = parsed.options;
  hosts = map (numbered_host (names_in_order parsed.hosts)) (hosts_in_order parsed.hosts);
  services = map (numbered_service (names_in_order parsed.hosts)) (services_in_order parsed.services);
  dependencies = [];
}

-- the number of a dependency's dependent, and the dependency by number
abbrev pub numbered_dependency : List NamedObject → ParsedDependency → ℕ × Dependency
numbered_dependency objects d = (
  unwrap_or (number_among objects d.dependent) 0,
  record { master = unwrap_or (number_among objects d.master) 0; criteria = d.criteria; inherits = d.inherits },
)

-- a dependency by the places of its ends among these names; this many other objects come before them
abbrev pub offset_dependency : ℕ → List (List ℕ) → ParsedDependency → ℕ × Dependency
offset_dependency others names d = (
  others + index_of_name names d.dependent,
  record { master = others + index_of_name names d.master; criteria = d.criteria; inherits = d.inherits },
)

-- the dependencies of the object with this number, in the same order
abbrev pub dependencies_among : List (ℕ × Dependency) → ℕ → List Dependency
dependencies_among ds object = map (λ d. d.1) (filter (λ d. d.0 == object) ds)

-- for each of this many objects its own dependencies
abbrev pub dependency_lists : ℕ → List (ℕ × Dependency) → List (List Dependency)
dependency_lists count ds = map (dependencies_among ds) (range_with_len 0 count)

-- the dependencies of both sorts
abbrev pub all_dependencies : ParsedSetup → List ParsedDependency
all_dependencies parsed = parsed.service_dependencies ++ parsed.host_dependencies

-- for each of these objects its dependencies, in the document's order
abbrev pub dependencies_by_number : List NamedObject → ParsedSetup → List (List Dependency)
dependencies_by_number objects parsed = dependency_lists (length objects) (map (numbered_dependency objects) (all_dependencies parsed))

-- the setup of a parsed setup without a fault
abbrev pub configuration : ParsedSetup → Configuration
configuration parsed =
    let c = configuration_of_objects parsed in record {
      options = c.options;
      hosts = c.hosts;
      services = c.services;
      dependencies = dependencies_by_number
          (objects_of c) parsed;
    }
