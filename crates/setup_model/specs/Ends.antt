-- The ends of dependencies: whether the dependent and the master exist, and are of the right sort.
use Rattle.std.specs.Prelude.{ℕ, ◌&&◌, Bool, List, Result, Ok, Err, map, bytes_eq, if◌then◌else◌}
use Rattle.std.specs.List.{list_any}
use Rattle.setup_model.specs.declared.fault.End.{End}
use Rattle.setup_model.specs.declared.fault.End.TheVariants as end
use Rattle.setup_model.specs.declared.fault.EndFault.{EndFault}
use Rattle.setup_model.specs.declared.fault.EndFault.TheVariants as wrong
use Rattle.setup_model.specs.declared.place.Part.{Part}
use Rattle.setup_model.specs.declared.place.Part.TheVariants as part
use Rattle.setup_model.specs.Agreement.{◌>>=◌, each, with_error}
use Rattle.setup_model.specs.ParsedSetup.{ParsedService, ParsedDependency, ParsedSetup}
use Rattle.setup_model.specs.Fault as fault
use Rattle.setup_model.specs.Fault.{Fault}
use Rattle.setup_model.specs.Keys.{key_of}
use Rattle.setup_model.specs.Name.{full_name}
use Rattle.setup_model.specs.Place.{item_place}

-- whether the name is one of these
abbrev pub is_known : List (List ℕ) → List ℕ → Bool
is_known names name = list_any (bytes_eq name) names

-- the full names of services
abbrev pub full_names : List ParsedService → List (List ℕ)
full_names services = map (λ s. full_name (key_of s)) services

-- whether the dependent and the master both have one of these names
abbrev pub has_known_ends : List (List ℕ) → ParsedDependency → Bool
has_known_ends names d = is_known names d.dependent && is_known names d.master

-- the fault of an end that has none of the names of its sort, given the names of the other sort
abbrev pub end_fault : List (List ℕ) → End → List ℕ → EndFault
end_fault others e name = if is_known others name then wrong.OtherSort e else wrong.Unknown e

-- an end has one of these names; the other names are those of the other sort
abbrev pub end_test : List (List ℕ) → List (List ℕ) → End → List ℕ → Result (Unit {0}) EndFault
end_test names others e name = if is_known names name then Ok tt else Err (end_fault others e name)

-- the dependent has one of these names, and so has the master
abbrev pub dependency_ends_test : List (List ℕ) → List (List ℕ) → ParsedDependency → Result (Unit {0}) EndFault
dependency_ends_test names others d = end_test names others end.Dependent d.dependent >>= λ _. end_test names others end.Master d.master

-- the same at this index of a part's list
abbrev pub dependency_test : Part → List (List ℕ) → List (List ℕ) → ℕ → ParsedDependency → Result (Unit {0}) Fault
dependency_test p names others i d = with_error (fault.unknown_end (item_place p i)) (dependency_ends_test names others d)

-- both ends of every dependency of a part have one of these names; otherwise the first dependency with an end that doesn't, and that end
abbrev pub dependency_list_test : Part → List (List ℕ) → List (List ℕ) → List ParsedDependency → Result (Unit {0}) Fault
dependency_list_test p names others ds = each (dependency_test p names others) ds

-- both ends of every dependency exist: those of services are among the first names, and those of hosts among the second
abbrev pub dependencies_test : List (List ℕ) → List (List ℕ) → ParsedSetup → Result (Unit {0}) Fault
dependencies_test services hosts parsed =
    dependency_list_test part.ServiceDependencies services hosts parsed.service_dependencies >>= λ _.
    dependency_list_test part.HostDependencies hosts services parsed.host_dependencies
