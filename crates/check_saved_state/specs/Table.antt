-- The members of a saved state: a table of each member's name, kind and first format, and how each format that is taken is read by it.
use Rattle.std.specs.Prelude.{ℕ, ◌+◌, ◌&&◌, ◌||◌, Bool, true, false, List, [], ◌∷◌, map, Option, Some, None, is_none, is_some, option_and_then, option_map}
use Rattle.std.specs.Prelude.{unwrap_or}
use Rattle.std.specs.Prelude.{codes, bytes_eq, nat_le, if◌then◌else◌}
use Rattle.std.specs.List.{list_all, list_any}
use Rattle.serde_json.specs.Data.{unsigned, Data, null, boolean, number, string, array, no_items}
use Rattle.serde_json.specs.Find.{as_array, as_bool, as_null, as_object, as_str, get}
use Rattle.setup_reader.specs.JsonTree.{whole_number}
use Rattle.setup_reader.specs.Shapes.{first_of, keys_in}
use Rattle.check_states.specs.Words.{kind_of_word, state_of_word}
use Rattle.check_saved_state.specs.declared.table.Addition.{Addition}
use Rattle.check_saved_state.specs.declared.table.DefaultValue.{DefaultValue}
use Rattle.check_saved_state.specs.declared.table.DefaultValue.TheVariants as default
use Rattle.check_saved_state.specs.declared.table.Member.{Member}
use Rattle.check_saved_state.specs.declared.table.ValueKind.{ValueKind}
use Rattle.check_saved_state.specs.declared.table.ValueKind.TheVariants as kinds
use Rattle.check_saved_state.specs.Words.{flapping_of_word, only_letters}

-- ---- formats

-- the format that is written
abbrev pub newest_format : ℕ
newest_format = 1

-- the formats that are read: the newest one and the one before
abbrev pub is_format : ℕ → Bool
is_format format = nat_le 1 format && nat_le format newest_format && nat_le newest_format (format + 1)

-- ---- rows

-- since which format a member is there, and the value that stands for it in a text of an earlier format
pub record Added : Type 0 where
  pub since : ℕ
  pub value : Data

-- a member: its name, the kind of its value, and how it was added if it wasn't there from the first format on
pub record Row : Type 0 where
  pub name : List ℕ
  pub kind : ValueKind
  pub added : Option Added

-- a default as a value of JSON
abbrev pub default_tree : DefaultValue → Data
default_tree default.Nothing = null
default_tree default.Empty = array no_items
default_tree (default.Number n) = number (unsigned n)
default_tree (default.Switch b) = boolean b
default_tree (default.Text text) = string text.now

abbrev pub as_added : Addition → Added
as_added a = record { since = a.since; value = default_tree a.default }

-- a member of the code as a row of the table
abbrev pub as_row : Member → Row
as_row m = record { name = m.name.now; kind = m.kind; added = option_map as_added m.added }

-- a member that was there from the first format on
abbrev pub required : List ℕ → ValueKind → Row
required name kind = record { name = name; kind = kind; added = None }

-- ---- kinds

-- whether a value is a text for which parse has a result
abbrev pub is_word : {A : Type 0} → (List ℕ → Option A) → Data → Bool
is_word parse d = is_some (option_and_then parse (as_str d))

-- whether a value is of a kind; the members of a run aren't looked at
abbrev pub has_kind : ValueKind → Data → Bool
has_kind kinds.Text d = is_some (as_str d)
has_kind kinds.Number d = is_some (whole_number d)
has_kind kinds.NumberOrNull d = is_some (as_null d) || is_some (whole_number d)
has_kind kinds.Switch d = is_some (as_bool d)
has_kind kinds.State d = is_word state_of_word d
has_kind kinds.StateKind d = is_word kind_of_word d
has_kind kinds.Flapping d = is_word flapping_of_word d
has_kind kinds.Letters d = is_word only_letters d
has_kind kinds.RunOrNull d = is_some (as_null d) || is_some (as_object d)
has_kind kinds.List d = is_some (as_array d)

-- a value, if it is of the kind
abbrev pub of_kind : ValueKind → Option Data → Option Data
of_kind k None = None
of_kind k (Some d) = if has_kind k d then Some d else None

-- whether what stands for a member in a text of an earlier format is of its kind
abbrev pub is_default_of_kind : ValueKind → Option Added → Bool
is_default_of_kind k None = true
is_default_of_kind k (Some a) = has_kind k a.value

abbrev pub have_defaults_of_their_kinds : List Row → Bool
have_defaults_of_their_kinds ms = list_all (λ m. is_default_of_kind m.kind m.added) ms

-- ---- an object of a text of some format

abbrev pub default_by : ℕ → Option Added → Option Data
default_by format None = None
default_by format (Some a) = if nat_le a.since format then None else Some a.value

-- the value that stands for a member in a text of this format; none if the text has the member itself
abbrev pub default_at : ℕ → Row → Option Data
default_at format m = default_by format m.added

-- whether a text of this format has the member
abbrev pub is_in : ℕ → Row → Bool
is_in format m = is_none (default_at format m)

-- the value that an object has for a member, if it is of the member's kind
abbrev pub found_in : Data → Row → Option Data
found_in d m = of_kind m.kind (get m.name d)

-- the value of a member
abbrev pub value_at : ℕ → Data → Row → Option Data
value_at format d m = first_of (default_at format m) (found_in d m)

-- whether a text of this format has a member of this name
abbrev pub is_known : ℕ → List Row → List ℕ → Bool
is_known format ms key = list_any (λ m. is_in format m && bytes_eq m.name key) ms

-- whether a value is an object that has no other members than those of the table in this format
abbrev pub has_only_members : ℕ → List Row → Data → Bool
has_only_members format ms d = unwrap_or (option_map (λ inside. list_all (is_known format ms) (keys_in inside)) (as_object d)) false

-- the values of a table's members in an object of a text of this format, if the object has no other members
abbrev pub values_in : ℕ → List Row → Data → Option (List (Option Data))
values_in format ms d = if has_only_members format ms d then Some (map (value_at format d) ms) else None

-- the values that stand for members in texts of earlier formats
abbrev pub defaults : List Row → List (Option Data)
defaults ms = map (λ m. option_map (λ a. a.value) m.added) ms

-- ---- the document

abbrev pub format : Row
format = required (codes "format") kinds.Number

abbrev pub start : Row
start = required (codes "start") kinds.Number

abbrev pub runs : Row
runs = required (codes "runs") kinds.Number

abbrev pub objects : Row
objects = required (codes "objects") kinds.List

abbrev pub document_members : List Row
document_members = format ∷ start ∷ runs ∷ objects ∷ []

-- ---- a run

abbrev pub run_number : Row
run_number = required (codes "number") kinds.Number

abbrev pub run_start : Row
run_start = required (codes "start") kinds.Number

abbrev pub run_members : List Row
run_members = run_number ∷ run_start ∷ []

-- ---- an object

abbrev pub name : Row
name = required (codes "name") kinds.Text

abbrev pub state : Row
state = required (codes "state") kinds.State

abbrev pub kind : Row
kind = required (codes "kind") kinds.StateKind

abbrev pub attempt : Row
attempt = required (codes "attempt") kinds.Number

abbrev pub last_hard_state : Row
last_hard_state = required (codes "last_hard_state") kinds.State

abbrev pub checked : Row
checked = required (codes "checked") kinds.Switch

abbrev pub flapping : Row
flapping = required (codes "flapping") kinds.Flapping

abbrev pub results : Row
results = required (codes "results") kinds.Letters

abbrev pub next_check : Row
next_check = required (codes "next_check") kinds.NumberOrNull

abbrev pub run : Row
run = required (codes "run") kinds.RunOrNull

abbrev pub enabled : Row
enabled = required (codes "enabled") kinds.Switch

abbrev pub forced : Row
forced = required (codes "forced") kinds.Switch

abbrev pub check_interval : Row
check_interval = required (codes "check_interval") kinds.Number

abbrev pub max_check_attempts : Row
max_check_attempts = required (codes "max_check_attempts") kinds.Number

abbrev pub enabled_in_setup : Row
enabled_in_setup = required (codes "enabled_in_setup") kinds.Switch

abbrev pub object_members : List Row
object_members =
    name ∷ state ∷ kind ∷ attempt ∷ last_hard_state ∷ checked ∷ flapping ∷ results ∷ next_check ∷ run ∷ enabled ∷ forced ∷ check_interval
    ∷ max_check_attempts ∷ enabled_in_setup ∷ []
