-- The draft in the tree of a saved state, before its names and numbers are verified. A tree that isn't of this shape is refused.
use Rattle.std.specs.Prelude.{ℕ, ◌+◌, Bool, false, not, List, [], ◌∷◌, Option}
use Rattle.std.specs.Prelude.{Some, None, option_and_then, Result, Ok, Err, ok_or, if◌then◌else◌}
use Rattle.serde_json.specs.Data.{Data, Items, no_items, item}
use Rattle.setup_reader.specs.JsonTree.{whole_number}
use Rattle.setup_model.specs.Agreement.{◌>>=◌}
use Rattle.check_saved_state.specs.declared.fault.SavedFault.{SavedFault}
use Rattle.check_saved_state.specs.declared.fault.SavedFault.TheVariants as faults
use Rattle.check_saved_state.specs.Object.{list_member, number_member, object_in}
use Rattle.check_saved_state.specs.Saved.{Saved, SavedObject}
use Rattle.check_saved_state.specs.Table as members
use Rattle.check_saved_state.specs.Table.{found_in, has_only_members, is_format}

-- the objects of a list from the one at index i on, each in its shape; otherwise the first that isn't
abbrev pub objects_from : ℕ → ℕ → Items → Result (List SavedObject) SavedFault
objects_from format i no_items = Ok []
objects_from format i (item d ds) = do
  first ← ok_or (object_in format d) (faults.Shape (Some i))
  more ← objects_from format (i + 1) ds
  Ok (first ∷ more)

-- ---- the document

-- the format that a tree names, if it is a whole number
abbrev pub format_in : Data → Option ℕ
format_in d = option_and_then whole_number (found_in d members.format)

abbrev pub is_other_format : Option ℕ → Bool
is_other_format None = false
is_other_format (Some format) = not (is_format format)

-- Another whole number than a format that is read is refused. A `format` that is missing or isn't a whole number is a fault of shape.
abbrev pub format_test : Data → Result (Unit {0}) SavedFault
format_test d = if is_other_format (format_in d) then Err faults.Version else Ok tt

-- The document itself is tested first, then its objects.
unfoldable pub draft_of : ℕ → Data → Result Saved SavedFault
draft_of format d = if has_only_members format members.document_members d then (do
  start ← ok_or (number_member format d members.start) (faults.Shape None)
  runs ← ok_or (number_member format d members.runs) (faults.Shape None)
  items ← ok_or (list_member format d members.objects) (faults.Shape None)
  objects ← objects_from format 0 items
  Ok (record { start = start; runs = runs; objects = objects }))
    else Err (faults.Shape None)

abbrev pub draft_in : Data → Result Saved SavedFault
draft_in d = do
  format ← ok_or (format_in d) (faults.Shape None)
  draft_of format d
