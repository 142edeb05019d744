-- The explanations of faults of names: a bad name, a repeated name, and the name of an object that doesn't exist.
use Rattle.std.specs.Prelude.{ℕ, ◌==◌, List, ◌++◌, Option, Some, codes, decimal, option_and_then, if◌then◌else◌}
use Rattle.serde_json.specs.Data.{Data}
use Rattle.serde_json.specs.Find.{as_str, at, get}
use Rattle.setup_model.specs.declared.fault.End.{End}
use Rattle.setup_model.specs.declared.fault.End.TheVariants as end
use Rattle.setup_model.specs.declared.fault.EndFault.{EndFault}
use Rattle.setup_model.specs.declared.fault.EndFault.TheVariants as end_fault
use Rattle.setup_model.specs.declared.fault.NameFault.{NameFault}
use Rattle.setup_model.specs.declared.fault.NameFault.TheVariants as name_fault
use Rattle.setup_model.specs.declared.place.Part.{Part}
use Rattle.setup_model.specs.declared.place.Part.TheVariants as part
use Rattle.setup_model.specs.declared.place.Place.{Place}
use Rattle.setup_model.specs.Place.{host_place, service_place}
use Rattle.setup_reader.specs.Places.{value_at}
use Rattle.setup_diagnostics.specs.Places.{role_text, part_text, place_text, member_text}
use Rattle.setup_diagnostics.specs.Excerpts.{quotation}

-- ---- bad names

-- the member whose text must be a name
abbrev pub name_member : Part → List ℕ
name_member part.Services = codes "description"
name_member p = codes "name"

abbrev pub bad_byte_text : ℕ → List ℕ
bad_byte_text b = if b == 59 then codes " has a \";\" in it, which no name can have"
    else codes " has the byte " ++ (decimal b ++ codes " in it, which no name can have")

abbrev pub name_fault_text : NameFault → List ℕ
name_fault_text name_fault.Empty = codes " is empty; it can have 1 to 255 bytes"
name_fault_text (name_fault.Long n) = codes " has " ++ (decimal n ++ codes " bytes; it can have 1 to 255")
name_fault_text (name_fault.Byte b) = bad_byte_text b

abbrev pub bad_name_text : Data → Place → NameFault → List ℕ
bad_name_text tree place w = place_text tree place ++ (quotation (name_member place.part) ++ name_fault_text w)

-- ---- repeats

abbrev pub repeat_words : Part → List ℕ
repeat_words part.Services = codes " has that host and description too"
repeat_words p = codes " has that name too"

abbrev pub duplicate_text : Data → Place → ℕ → List ℕ
duplicate_text tree place earlier = place_text tree place ++ (part_text place.part (Some earlier) ++ repeat_words place.part)

-- ---- hosts that don't exist

-- the parent at the second index in the list of the host at the first index
abbrev pub parent_name : Data → ℕ → ℕ → Option (List ℕ)
parent_name tree host index = option_and_then as_str (option_and_then (at index) (option_and_then (get (codes "parents")) (value_at tree (host_place host))))

abbrev pub unknown_parent_text : Data → ℕ → ℕ → List ℕ
unknown_parent_text tree host index =
    place_text tree (host_place host) ++ (role_text (codes "parent ") (parent_name tree host index) ++ codes " isn't among the hosts")

abbrev pub unknown_host_text : Data → ℕ → List ℕ
unknown_host_text tree service =
    place_text tree (service_place service)
    ++ (role_text (codes "host ") (option_and_then (member_text (codes "host")) (value_at tree (service_place service))) ++ codes " isn't among the hosts")

-- ---- ends that don't exist, or are of the other sort

abbrev pub end_of : EndFault → End
end_of (end_fault.Unknown e) = e
end_of (end_fault.OtherSort e) = e

abbrev pub end_member : End → List ℕ
end_member end.Dependent = codes "dependent"
end_member end.Master = codes "master"

abbrev pub end_role : End → List ℕ
end_role end.Dependent = codes "dependent "
end_role end.Master = codes "master "

-- the fault of an end of a dependency of this part
abbrev pub end_words : Part → EndFault → List ℕ
end_words part.HostDependencies (end_fault.Unknown e) = codes " isn't among the hosts"
end_words part.HostDependencies (end_fault.OtherSort e) = codes " is a service; it has to be a host"
end_words p (end_fault.Unknown e) = codes " isn't among the services"
end_words p (end_fault.OtherSort e) = codes " is a host; it has to be a service"

abbrev pub unknown_end_text : Data → Place → EndFault → List ℕ
unknown_end_text tree place w =
    place_text tree place ++ (role_text (end_role (end_of w)) (option_and_then (member_text (end_member (end_of w))) (value_at tree place)) ++ end_words place.part w)
