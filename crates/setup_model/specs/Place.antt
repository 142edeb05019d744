-- The parts of a setup document with their numbers, and its places.
use Rattle.std.specs.Prelude.{ℕ, ◌==◌, List, [], ◌∷◌, Option, Some, None, find}
use Rattle.setup_model.specs.declared.place.Place.{Place}
use Rattle.setup_model.specs.declared.place.Part.{Part}
use Rattle.setup_model.specs.declared.place.Part.TheVariants as part

-- ---- numbers

abbrev pub part_number : Part → ℕ
part_number part.Document = 1
part_number part.Options = 2
part_number part.Hosts = 3
part_number part.Services = 4
part_number part.ServiceDependencies = 5
part_number part.HostDependencies = 6

abbrev pub all_parts : List Part
all_parts = part.Document ∷ part.Options ∷ part.Hosts ∷ part.Services ∷ part.ServiceDependencies ∷ part.HostDependencies ∷ []

-- the part of this number
abbrev pub part_of_number : ℕ → Option Part
part_of_number number = find (λ p. part_number p == number) all_parts

-- ---- places

-- the document itself
abbrev pub document_place : Place
document_place = record { part = part.Document; index = None }

-- its options
abbrev pub options_place : Place
options_place = record { part = part.Options; index = None }

-- its list of hosts, as a whole
abbrev pub hosts_place : Place
hosts_place = record { part = part.Hosts; index = None }

-- the host at this index of the list
abbrev pub host_place : ℕ → Place
host_place i = record { part = part.Hosts; index = Some i }

-- its list of services, as a whole
abbrev pub services_place : Place
services_place = record { part = part.Services; index = None }

-- the service at this index of the list
abbrev pub service_place : ℕ → Place
service_place i = record { part = part.Services; index = Some i }

-- a part as a whole
abbrev pub list_place : Part → Place
list_place p = record { part = p; index = None }

-- the item at this index of a part's list
abbrev pub item_place : Part → ℕ → Place
item_place p i = record { part = p; index = Some i }
