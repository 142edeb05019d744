-- The explanation of a saved state that hasn't the members of its table.
use Rattle.std.specs.Prelude.{ℕ, ◌≡◌, ◌&&◌, Bool, false, not, List, [], ◌++◌, Option, Some, None, codes, decimal, find, is_none, option_and_then, option_map}
use Rattle.std.specs.Prelude.{unwrap_or}
use Rattle.serde_json.specs.Data.{Data, Members}
use Rattle.serde_json.specs.Find.{as_object, at, get}
use Rattle.setup_reader.specs.JsonTree.{◌>=>◌}
use Rattle.setup_reader.specs.Shapes.{first_of, keys_in}
use Rattle.check_saved_state.specs.declared.table.ValueKind.{ValueKind}
use Rattle.check_saved_state.specs.declared.table.ValueKind.TheVariants as kinds
use Rattle.check_saved_state.specs.Reading.{format_in}
use Rattle.check_saved_state.specs.Table as members
use Rattle.check_saved_state.specs.Table.{Row, as_row, has_kind, is_in, is_known, newest_format}
use Rattle.setup_diagnostics.specs.declared.saved_shapes.MemberFault as declared
use Rattle.setup_diagnostics.specs.declared.saved_shapes.MemberFault.TheVariants as faults
use Rattle.setup_diagnostics.specs.Excerpts.{quotation}
use Rattle.setup_diagnostics.specs.Places.{member_text, role_text}
use Rattle.setup_diagnostics.specs.Shapes.{missing_text, unknown_name_text, Appends, IsKindFault}

-- ---- the fault of an object of JSON, by the table of its members

pub data MemberFault : Type 0 where
  no_object : MemberFault
  -- the name of the member
  unknown : List ℕ → MemberFault
  missing : Row → MemberFault
  wrong_kind : Row → MemberFault

-- a fault of the code
abbrev pub fault_view : declared.MemberFault → MemberFault
fault_view faults.NotAnObject = no_object
fault_view (faults.Unknown name) = unknown name.now
fault_view (faults.Missing m) = missing (as_row m)
fault_view (faults.WrongKind m) = wrong_kind (as_row m)

-- whether a text of this format has the member and the object hasn't
abbrev pub is_missing : ℕ → Data → Row → Bool
is_missing format d m = is_in format m && is_none (get m.name d)

-- whether there is a value that isn't of the kind
abbrev pub has_other_kind : ValueKind → Option Data → Bool
has_other_kind k None = false
has_other_kind k (Some v) = not (has_kind k v)

-- whether a text of this format has the member, and the object has a value for it that isn't of its kind
abbrev pub has_wrong_kind : ℕ → Data → Row → Bool
has_wrong_kind format d m = is_in format m && has_other_kind m.kind (get m.name d)

-- the first member of an object that a text of this format doesn't have
abbrev pub first_unknown : ℕ → List Row → Members → Option (List ℕ)
first_unknown format ms inside = find (λ key. not (is_known format ms key)) (keys_in inside)

-- the first unknown member, otherwise the first missing one, otherwise the first of another kind
abbrev pub member_fault : ℕ → List Row → Data → Members → Option MemberFault
member_fault format ms d inside =
    first_of (option_map unknown (first_unknown format ms inside))
    (first_of (option_map missing (find (is_missing format d) ms)) (option_map wrong_kind (find (has_wrong_kind format d) ms)))

abbrev pub members_fault : ℕ → List Row → Data → Option Members → Option MemberFault
members_fault format ms d None = Some no_object
members_fault format ms d (Some inside) = member_fault format ms d inside

-- the fault of a value that must be an object with these members in a text of this format
abbrev pub object_fault : ℕ → List Row → Data → Option MemberFault
object_fault format ms d = members_fault format ms d (as_object d)

-- the fault of a run; null has none
abbrev pub run_fault : ℕ → Data → Option MemberFault
run_fault format run = as_object run >=> member_fault format members.run_members run

-- the value at an index of the list of objects
abbrev pub saved_item : Data → ℕ → Option Data
saved_item tree i = get members.objects.name tree >=> at i

-- the fault of an object's own members, otherwise that of its run
abbrev pub item_fault : ℕ → Data → Option MemberFault
item_fault format d = first_of (object_fault format members.object_members d) (get members.run.name d >=> run_fault format)

-- the format that the tree names, otherwise the newest one
abbrev pub format_or_newest : Data → ℕ
format_or_newest tree = unwrap_or (format_in tree) newest_format

-- the fault of the saved state itself, or of the object at an index
abbrev pub saved_shape_fault : Data → Option ℕ → Option MemberFault
saved_shape_fault tree None = object_fault (format_or_newest tree) members.document_members tree
saved_shape_fault tree (Some i) = saved_item tree i >=> item_fault (format_or_newest tree)

-- ---- its words

-- the kind that a value must have, as the end of a sentence
abbrev pub kind_text : ValueKind → List ℕ
kind_text kinds.Text = codes "a text"
kind_text kinds.Number = codes "a whole number"
kind_text kinds.NumberOrNull = codes "a whole number or null"
kind_text kinds.Switch = codes "true or false"
kind_text kinds.State = codes "\"OK\", \"WARNING\", \"CRITICAL\", \"UNKNOWN\", \"UP\", \"DOWN\" or \"UNREACHABLE\""
kind_text kinds.StateKind = codes "\"SOFT\" or \"HARD\""
kind_text kinds.Flapping = codes "\"FLAPPING\" or \"STEADY\""
kind_text kinds.Letters = codes "letters of o, w, u, c and d"
kind_text kinds.RunOrNull = codes "an object or null"
kind_text kinds.List = codes "an array"

-- a member of another kind: its name, its value and the kind that it must have
abbrev pub IsWrongMember : Row → Data → List ℕ → Type 0
IsWrongMember m d text = Appends (IsKindFault (codes " is ") (get m.name d) (kind_text m.kind)) (quotation m.name) text

abbrev pub IsFaultText : Data → Option MemberFault → List ℕ → Type 0
IsFaultText d None text = text ≡ []
IsFaultText d (Some no_object) text = IsKindFault (codes "this is ") (Some d) (codes "an object") text
IsFaultText d (Some (unknown key)) text = text ≡ unknown_name_text (Some key)
IsFaultText d (Some (missing m)) text = text ≡ missing_text m.name
IsFaultText d (Some (wrong_kind m)) text = IsWrongMember m d text

-- ---- the words for an object of the list

-- the name of an object, if it has one
abbrev pub saved_name : Option Data → Option (List ℕ)
saved_name d = option_and_then (member_text members.name.name) d

-- the index, and the name of the object if it has one
abbrev pub item_head : ℕ → Option Data → List ℕ
item_head i d = codes "objects " ++ (decimal i ++ (role_text (codes " ") (saved_name d) ++ codes ": "))

-- a run, which isn't looked at if it is no object
abbrev pub IsRunFault : ℕ → Option Data → List ℕ → Type 0
IsRunFault format None text = text ≡ []
IsRunFault format (Some run) text = Appends (IsFaultText run (run_fault format run)) (codes "run: ") text

-- an object with this fault of its own members, otherwise with that of its run
abbrev pub IsOwnFault : ℕ → Data → Option MemberFault → List ℕ → Type 0
IsOwnFault format d None text = IsRunFault format (get members.run.name d) text
IsOwnFault format d (Some f) text = IsFaultText d (Some f) text

abbrev pub IsItemFault : ℕ → Option Data → List ℕ → Type 0
IsItemFault format None text = text ≡ []
IsItemFault format (Some d) text = IsOwnFault format d (object_fault format members.object_members d) text

-- ---- the words for the whole

abbrev pub IsSavedShapeText : Data → Option ℕ → List ℕ → Type 0
IsSavedShapeText tree None text =
    Appends (IsFaultText tree (object_fault (format_or_newest tree) members.document_members tree)) (codes "saved state: ") text
IsSavedShapeText tree (Some i) text = Appends (IsItemFault (format_or_newest tree) (saved_item tree i)) (item_head i (saved_item tree i)) text
