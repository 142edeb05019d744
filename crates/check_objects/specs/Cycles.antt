-- Cycles of a setup, told by the names of their objects.
use Rattle.std.specs.Prelude.{◌≡◌, ℕ, ◌<◌, ◌≤◌, false, List, [], ◌++◌, drop, get_or, length, map, nat_lt, option_map, slice_get, take, unwrap_or, if◌then◌else◌}
use Rattle.setup_model.specs.declared.place.Part.{Part}
use Rattle.setup_model.specs.declared.place.Part.TheVariants as part
use Rattle.setup_model.specs.Fault.{Fault, dependency_cycle, parent_cycle}
use Rattle.check_objects.specs.Configuration.{Configuration, NamedObject, host_count, masters_of, objects_of, parents_by_host}
use Rattle.setup_order.specs.Cycles.{has_cycle}
use Rattle.setup_order.specs.Results.{IsCycle}

-- the full name of the object with this number among these
abbrev pub name_among : List NamedObject → ℕ → List ℕ
name_among objects n = unwrap_or (option_map (λ o. o.name) (slice_get objects n)) []

-- the names of these numbers, from the least one on: those before it come last
pub record IsNamedFromLeast (name : ℕ → List ℕ) (numbers : List ℕ) (names : List (List ℕ)) : Type 0 where
  pub place : ℕ
  pub within : place < length numbers
  pub least : (i : ℕ) → i < length numbers → get_or numbers place 0 ≤ get_or numbers i 0
  pub told : names ≡ map name (drop place numbers ++ take place numbers)

-- the names of objects that form a cycle: each is linked to the next one, and the last to the first
pub record IsNamedCycle (c : Configuration) (links : List (List ℕ)) (names : List (List ℕ)) : Type 0 where
  pub numbers : List ℕ
  pub is : IsCycle links numbers
  pub told : IsNamedFromLeast (name_among (objects_of c)) numbers names

-- the part of the object with this number, after this many hosts
abbrev pub part_at : ℕ → ℕ → Part
part_at hosts n = if nat_lt n hosts then part.Hosts else part.Services

-- the names of services or of hosts: each depends on the next one, and the last on the first
pub record IsDependencyCycle (c : Configuration) (p : Part) (names : List (List ℕ)) : Type 0 where
  pub cycle : IsNamedCycle c (masters_of c) names
  pub sort : (i : ℕ) → i < length cycle.numbers → part_at (host_count c) (get_or cycle.numbers i 0) ≡ p

-- the names of hosts: each has the next one for a parent, and the last has the first
abbrev pub IsParentCycle : Configuration → List (List ℕ) → Type 0
IsParentCycle c names = IsNamedCycle c (parents_by_host c) names

-- The fault is a cycle of the setup. A cycle of parents is reported only if there is no cycle of dependencies.
abbrev pub IsCycleFault : Configuration → Fault → Type 0
IsCycleFault c (dependency_cycle p names) = IsDependencyCycle c p names
IsCycleFault c (parent_cycle names) = (has_cycle (masters_of c) ≡ false) × IsParentCycle c names
IsCycleFault c other = ⊥
