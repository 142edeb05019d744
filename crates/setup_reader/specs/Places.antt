-- The values at the places of a document.
use Rattle.std.specs.Prelude.{ℕ, Option, Some, None}
use Rattle.serde_json.specs.Data.{Data}
use Rattle.serde_json.specs.Find.{at, get}
use Rattle.setup_model.specs.declared.place.Part.{Part}
use Rattle.setup_model.specs.declared.place.Part.TheVariants as part
use Rattle.setup_model.specs.declared.place.Place.{Place}
use Rattle.setup_model.specs.Members.{part_name}
use Rattle.setup_reader.specs.JsonTree.{◌>=>◌}

-- the value that is a part of the document
abbrev pub value_of_part : Data → Part → Option Data
value_of_part d part.Document = Some d
value_of_part d p = get (part_name p) d

-- the item of an array at an index, or the value itself
abbrev pub by_index : Option ℕ → Data → Option Data
by_index None d = Some d
by_index (Some i) d = at i d

-- the value at a place, if the document has such a place
abbrev pub value_at : Data → Place → Option Data
value_at d place = value_of_part d place.part >=> by_index place.index
