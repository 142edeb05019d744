-- The explanation of a cycle: the names of the objects that form it.
use Rattle.std.specs.Prelude.{ℕ, ◌-◌, List, [], ◌∷◌, ◌++◌, codes, decimal, length, nat_lt, take, if◌then◌else◌}
use Rattle.setup_model.specs.declared.place.Part.{Part}
use Rattle.setup_model.specs.declared.place.Part.TheVariants as part
use Rattle.setup_model.specs.Members.{part_name}
use Rattle.setup_diagnostics.specs.Excerpts.{quotation}

-- a space and the name of an object
abbrev pub object_text : List ℕ → List ℕ
object_text name = codes " " ++ quotation name

-- each object, and an arrow to the next one
abbrev pub objects_text : List (List ℕ) → List ℕ
objects_text [] = []
objects_text (name ∷ cycle) = object_text name ++ (codes " ->" ++ objects_text cycle)

-- the number of objects that are left out after the first eight
abbrev pub more_text : ℕ → List ℕ
more_text count = if nat_lt 8 count then codes " (" ++ (decimal (count - 8) ++ codes " more) ->") else []

abbrev pub first_text : List (List ℕ) → List ℕ
first_text [] = []
first_text (name ∷ cycle) = object_text name

-- the first eight objects, how many more there are, and the first object again
abbrev pub cycle_text : List (List ℕ) → List ℕ
cycle_text cycle = codes " go round:" ++ (objects_text (take 8 cycle) ++ (more_text (length cycle) ++ first_text cycle))

-- the list of dependencies between objects of this part
abbrev pub dependency_part : Part → Part
dependency_part part.Services = part.ServiceDependencies
dependency_part p = part.HostDependencies

abbrev pub dependency_cycle_text : Part → List (List ℕ) → List ℕ
dependency_cycle_text p cycle = part_name (dependency_part p) ++ cycle_text cycle

abbrev pub parent_cycle_text : List (List ℕ) → List ℕ
parent_cycle_text cycle = codes "parents" ++ cycle_text cycle
