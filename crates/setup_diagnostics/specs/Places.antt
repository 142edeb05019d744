-- The text of a place of a document: its part, its index, and the name of the object there.
use Rattle.std.specs.Prelude.{ℕ, List, [], ◌++◌, Option, Some, None, codes, decimal, option_and_then, option_map}
use Rattle.serde_json.specs.Data.{Data}
use Rattle.serde_json.specs.Find.{as_str, get}
use Rattle.setup_model.specs.declared.place.Part.{Part}
use Rattle.setup_model.specs.declared.place.Part.TheVariants as part
use Rattle.setup_model.specs.declared.place.Place.{Place}
use Rattle.setup_model.specs.Members.{part_name}
use Rattle.setup_reader.specs.Places.{value_at}
use Rattle.setup_diagnostics.specs.Excerpts.{excerpt, quotation}

-- ---- texts of the document

-- the text of a member
abbrev pub member_text : List ℕ → Data → Option (List ℕ)
member_text name d = option_and_then as_str (get name d)

abbrev pub both : Option (List ℕ) → Option (List ℕ) → Option (List ℕ × List ℕ)
both (Some first) (Some second) = Some (first, second)
both first second = None

-- the texts of two members, if both are there
abbrev pub member_text_pair : List ℕ → List ℕ → Data → Option (List ℕ × List ℕ)
member_text_pair first second d = both (member_text first d) (member_text second d)

-- ---- the name of the object at a place, as it is shown

abbrev pub service_name_text : List ℕ × List ℕ → List ℕ
service_name_text name = codes "\"" ++ (excerpt name.0 ++ (codes ";" ++ (excerpt name.1 ++ codes "\"")))

abbrev pub ends_text : List ℕ × List ℕ → List ℕ
ends_text ends = quotation ends.0 ++ (codes " on " ++ quotation ends.1)

-- the name of a host, the full name of a service, or both ends of a dependency
abbrev pub item_name_text : Part → Data → Option (List ℕ)
item_name_text part.Document d = None
item_name_text part.Options d = None
item_name_text part.Hosts d = option_map quotation (member_text (codes "name") d)
item_name_text part.Services d = option_map service_name_text (member_text_pair (codes "host") (codes "description") d)
item_name_text part.ServiceDependencies d = option_map ends_text (member_text_pair (codes "dependent") (codes "master") d)
item_name_text part.HostDependencies d = option_map ends_text (member_text_pair (codes "dependent") (codes "master") d)

-- a space and a text, if there is one
abbrev pub after_space : Option (List ℕ) → List ℕ
after_space None = []
after_space (Some text) = codes " " ++ text

-- a part, and the index in its list if there is one
abbrev pub part_text : Part → Option ℕ → List ℕ
part_text p index = part_name p ++ after_space (option_map decimal index)

-- a space and the name of the object at a place
abbrev pub name_text : Data → Place → List ℕ
name_text tree place = after_space (option_and_then (item_name_text place.part) (value_at tree place))

-- a place: its part, its index, the name of the object there, a colon and a space
abbrev pub place_text : Data → Place → List ℕ
place_text tree place = part_text place.part place.index ++ (name_text tree place ++ codes ": ")

-- the role of a name, and the name, if there is one
abbrev pub role_text : List ℕ → Option (List ℕ) → List ℕ
role_text role None = []
role_text role (Some name) = role ++ quotation name
