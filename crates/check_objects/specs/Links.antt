-- The links of a setup, with the names of their ends in place of numbers.
use Rattle.std.specs.Prelude.{ℕ, List, map}
use Rattle.std.specs.List.{flat_map, range_with_len}
use Rattle.setup_model.specs.declared.dependency.Dependency.{Dependency}
use Rattle.check_objects.specs.Configuration.{Configuration, Host, name_of, object_count, dependencies_of}
use Rattle.setup_model.specs.ParsedSetup.{ParsedDependency}

-- a host's name, and the names of its parents
abbrev pub named_parents : Configuration → Host → List ℕ × List (List ℕ)
named_parents c h = (h.name, map (name_of c) h.parents)

-- a dependency of the object with this number
abbrev pub named_dependency : Configuration → ℕ → Dependency → ParsedDependency
named_dependency c n d = record { dependent = name_of c n; master = name_of c d.master; criteria = d.criteria; inherits = d.inherits }

-- the dependencies of the object with this number
abbrev pub named_dependencies : Configuration → ℕ → List ParsedDependency
named_dependencies c n = map (named_dependency c n) (dependencies_of c n)

-- the dependencies of all objects together
abbrev pub all_named_dependencies : Configuration → List ParsedDependency
all_named_dependencies c = flat_map (named_dependencies c) (range_with_len 0 (object_count c))
