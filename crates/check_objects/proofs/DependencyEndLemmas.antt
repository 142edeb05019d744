-- The ends of dependencies by number: each name is looked up among the names of its own sort.
use Rattle.std.proofs.Common.{◌≡◌, ℕ, zero, suc, ◌+◌, ◌<◌, Bool, true, false, List, [], ◌∷◌, ◌++◌, get_or, map, length, Some}
use Rattle.std.proofs.Common.{option_map, String, Global, string_bytes, bytes_eq, refl, sym, ap, ◌∙◌, arith}
use Rattle.std.specs.Prelude.{is_some, nat_lt, unwrap_or}
use Rattle.std.specs.List.{list_all, position}
use Rattle.std.specs.Map.{keys_of}
use Rattle.std.proofs.lemmas.List.{length-map, length-append, map-append}
use Rattle.setup_model.specs.declared.dependency.Dependency.{Dependency}
use Rattle.setup_model.specs.ParsedSetup.{ParsedDependency, ParsedSetup}
use Rattle.setup_model.specs.Ends.{is_known, has_known_ends}
use Rattle.setup_model.proofs.ListLemmas.{position-map}
use Rattle.setup_order.proofs.TestLemmas.{and_first, and_second}
use Rattle.check_objects.specs.declared.object_index.Host.{Host}
use Rattle.check_objects.specs.declared.object_index.Service.{Service}
use Rattle.check_objects.specs.Configuration.{NamedObject, named_host, named_service, number_among}
use Rattle.check_objects.specs.Entries.{host_entry, service_entry, names_in, objects_in}
use Rattle.check_objects.specs.Numbering.{index_of_name, offset_dependency, numbered_dependency, dependency_lists, dependencies_by_number}
use Rattle.check_objects.proofs.DependencyLemmas.{dependents_below}
use Rattle.check_objects.proofs.NameLemmas.{found, nowhere}
use Rattle.check_objects.proofs.ObjectLemmas.{number_front, number_back}

-- ---- one name

-- the place of a name in a map
pub place_of_name : {T : Type 0} (entries : List (String Global × T)) (name : List ℕ)
    → position (λ k. bytes_eq name (string_bytes k)) (keys_of entries) ≡ position (bytes_eq name) (names_in entries)
place_of_name entries name =
    position-map (λ k. bytes_eq name (string_bytes k)) (λ e. e.0) entries ∙ sym (position-map (bytes_eq name) (λ e. string_bytes e.0) entries)

-- a name that is known has a number
pub number_known : (others : ℕ) (names : List (List ℕ)) (name : List ℕ) (index : ℕ) → Some index ≡ position (bytes_eq name) names
    → others + index ≡ others + index_of_name names name
number_known others names name index e = ap (λ o. others + unwrap_or o 0) e

-- a name that is known has a place
pub place_known : (names : List (List ℕ)) (name : List ℕ) → is_known names name ≡ true → is_some (position (bytes_eq name) names) ≡ true
place_known names name e = let f = found (bytes_eq name) names e in ap is_some f.place

-- what is true of all items of a list is true of each
pub one_of_all : {A B : Type 0} (test : B → Bool) (view : A → B) (xs : List A) (i : ℕ) (d : A) → i < length xs → list_all test (map view xs) ≡ true
    → test (view (get_or xs i d)) ≡ true
one_of_all test view [] i d below h = absurd (omega (arith, below))
one_of_all test view (x ∷ xs) zero d below h = and_first (test (view x)) _ h
one_of_all test view (x ∷ xs) (suc i) d below h = one_of_all test view xs i d (omega (arith, below)) (and_second (test (view x)) _ h)

-- ---- numbers of one sort, and those among all objects

from_zero : (n : ℕ) → 0 + n ≡ n
from_zero n = omega arith

-- where the ends of some dependency are known, there is some name
some_name : (names : List (List ℕ)) (ds : List ParsedDependency) → list_all (has_known_ends names) ds ≡ true → 0 < length ds → 0 < length names
some_name [] [] h some = some
some_name [] (d ∷ ds) h some = cc
some_name (name ∷ names) ds h some = omega arith

module _ (hosts : List (String Global × Host)) (services : List (String Global × Service)) where
  abbrev pub objects : List NamedObject
  objects = objects_in hosts services

  number_of_host : (name : List ℕ) → is_known (names_in hosts) name ≡ true → 0 + index_of_name (names_in hosts) name ≡ unwrap_or (number_among objects name) 0
  number_of_host name e =
      let f = found (bytes_eq name) (names_in hosts) e in
      from_zero (index_of_name (names_in hosts) name)
      ∙ ap (λ o. unwrap_or o 0) (f.place ∙ number_front hosts services name f.index (sym (place_of_name hosts name ∙ f.place)))

  number_of_service : (name : List ℕ) → is_known (names_in services) name ≡ true → is_known (names_in hosts) name ≡ false
      → length hosts + index_of_name (names_in services) name ≡ unwrap_or (number_among objects name) 0
  number_of_service name e apart =
      let f = found (bytes_eq name) (names_in services) e in
      let none = nowhere (bytes_eq name) (names_in hosts) apart in
      ap (λ o. length hosts + unwrap_or o 0) f.place
      ∙ ap (λ o. unwrap_or o 0)
      (ap (option_map (λ j. length hosts + j)) (sym (place_of_name services name ∙ f.place))
      ∙ number_back hosts services name (sym (place_of_name hosts name ∙ none)))

  host_dependencies_numbered : (ds : List ParsedDependency) → list_all (has_known_ends (names_in hosts)) ds ≡ true
      → map (offset_dependency 0 (names_in hosts)) ds ≡ map (numbered_dependency objects) ds
  host_dependencies_numbered [] h = refl
  host_dependencies_numbered (d ∷ ds) h =
      let ends = and_first (has_known_ends (names_in hosts) d) _ h in
      let dependent = number_of_host d.dependent (and_first (is_known (names_in hosts) d.dependent) _ ends) in
      let master = number_of_host d.master (and_second (is_known (names_in hosts) d.dependent) _ ends) in
      let more = host_dependencies_numbered ds (and_second (has_known_ends (names_in hosts) d) _ h) in
      λ i. (dependent i, record { master = master i; criteria = d.criteria; inherits = d.inherits }) ∷ more i

  service_dependencies_numbered : ((name : List ℕ) → is_known (names_in services) name ≡ true → is_known (names_in hosts) name ≡ false)
      → (ds : List ParsedDependency) → list_all (has_known_ends (names_in services)) ds ≡ true
      → map (offset_dependency (length hosts) (names_in services)) ds ≡ map (numbered_dependency objects) ds
  service_dependencies_numbered apart [] h = refl
  service_dependencies_numbered apart (d ∷ ds) h =
      let ends = and_first (has_known_ends (names_in services) d) _ h in
      let known = and_first (is_known (names_in services) d.dependent) _ ends in
      let known_master = and_second (is_known (names_in services) d.dependent) _ ends in
      let dependent = number_of_service d.dependent known (apart d.dependent known) in
      let master = number_of_service d.master known_master (apart d.master known_master) in
      let more = service_dependencies_numbered apart ds (and_second (has_known_ends (names_in services) d) _ h) in
      λ i. (dependent i, record { master = master i; criteria = d.criteria; inherits = d.inherits }) ∷ more i

  objects_counted : length objects ≡ length hosts + length services
  objects_counted =
      length-append (map named_host (map host_entry hosts)) (map named_service (map service_entry services))
      ∙ (let h = length-map (map host_entry hosts) named_host in
      let k = length-map hosts host_entry in
      let l = length-map (map service_entry services) named_service in
      let m = length-map services service_entry in
      omega (arith, h, k, l, m))

  some_host : (ds : List ParsedDependency) → list_all (has_known_ends (names_in hosts)) ds ≡ true → 0 < length ds → 0 < length objects
  some_host ds h some = let k = some_name (names_in hosts) ds h some in omega (arith, k, objects_counted, length-map hosts (λ e. string_bytes e.0))

  some_service : (ds : List ParsedDependency) → list_all (has_known_ends (names_in services)) ds ≡ true → 0 < length ds → 0 < length objects
  some_service ds h some = let k = some_name (names_in services) ds h some in omega (arith, k, objects_counted, length-map services (λ e. string_bytes e.0))

  some_object : (ss hs : List ParsedDependency) → list_all (has_known_ends (names_in services)) ss ≡ true → list_all (has_known_ends (names_in hosts)) hs ≡ true
      → 0 < length (ss ++ hs) → 0 < length objects
  some_object [] hs h k some = some_host hs k some
  some_object (d ∷ ss) hs h k some = some_service (d ∷ ss) h (omega arith)

  -- what numbers of dependencies are: those of objects, in the order of the parsed setup
  pub record AreNumbered (parsed : ParsedSetup) (count : ℕ) (all : List (ℕ × Dependency)) : Type 0 where
    pub dependents : list_all (λ d. nat_lt d.0 count) all ≡ true
    pub lists : dependency_lists count all ≡ dependencies_by_number objects parsed

  pub all_numbered : (parsed : ParsedSetup) (host_count service_count : ℕ) (ss hs : List ParsedDependency) (none of_services all : List (ℕ × Dependency))
      → ((name : List ℕ) → is_known (names_in services) name ≡ true → is_known (names_in hosts) name ≡ false)
      → ss ≡ parsed.service_dependencies → hs ≡ parsed.host_dependencies → host_count ≡ length hosts → service_count ≡ length services
      → list_all (has_known_ends (names_in services)) parsed.service_dependencies ≡ true
      → list_all (has_known_ends (names_in hosts)) parsed.host_dependencies ≡ true
      → none ≡ [] → of_services ≡ none ++ map (offset_dependency host_count (names_in services)) ss
      → all ≡ of_services ++ map (offset_dependency 0 (names_in hosts)) hs → AreNumbered parsed (host_count + service_count) all
  all_numbered parsed host_count service_count ss hs none of_services all apart of_ss of_hs hosts_are services_are service_ends host_ends start first then =
      let known_ss = ap (list_all (has_known_ends (names_in services))) of_ss ∙ service_ends in
      let known_hs = ap (list_all (has_known_ends (names_in hosts))) of_hs ∙ host_ends in
      let numbers : all ≡ map (numbered_dependency objects) (ss ++ hs) =
      then
      ∙ ap (λ l. l ++ map (offset_dependency 0 (names_in hosts)) hs)
      (first ∙ (λ i. start i ++ map (offset_dependency (hosts_are i) (names_in services)) ss) ∙ service_dependencies_numbered apart ss known_ss)
      ∙ ap (λ l. map (numbered_dependency objects) ss ++ l) (host_dependencies_numbered hs known_hs)
      ∙ sym (map-append (numbered_dependency objects) ss hs) in
      let count : host_count + service_count ≡ length objects = omega (arith, hosts_are, services_are, objects_counted) in
      record {
        dependents = (λ i. list_all (λ d. nat_lt d.0 (count i)) (numbers i)) ∙ dependents_below objects (ss ++ hs) (some_object ss hs known_ss known_hs);
        lists = (λ i. dependency_lists (count i) (numbers i)) ∙ (λ i. dependency_lists (length objects) (map (numbered_dependency objects) (of_ss i ++ of_hs i)));
      }
