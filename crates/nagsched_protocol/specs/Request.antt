-- A request: a command, and the id that its answer repeats. The id is the last item of the line, an object whose only member is `id`.
use Rattle.std.specs.Prelude.{ℕ, Bool, true, false, List, length, Option, Some, None, Result, Ok, codes, is_some, nat_lt, option_and_then, option_map}
use Rattle.std.specs.Prelude.{if◌then◌else◌}
use Rattle.serde_json.specs.Data.{Data, number, string, unsigned, Items, no_items, item, object, no_members, member}
use Rattle.serde_json.specs.Find.{as_array, get}
use Rattle.check_objects.specs.JsonTree.{tree_of}
use Rattle.check_objects.specs.Configuration.{Configuration}
use Rattle.setup_model.specs.Agreement.{◌>>=◌}
use Rattle.nagsched_protocol.specs.declared.command.RunCommand.{RunCommand}
use Rattle.nagsched_protocol.specs.declared.refusal.LineFault.{LineFault}
use Rattle.nagsched_protocol.specs.Command.{command_by}

-- the id of a request: a whole number from 0 to 2^64 - 1, or a text
pub data Id : Type 0 where
  number_id : ℕ → Id
  text_id : List ℕ → Id

pub record Request : Type 0 where
  pub command : RunCommand
  pub id : Option Id

-- a command whose request has no id
abbrev pub without_id : RunCommand → Request
without_id command = record { command = command; id = None }

-- ---- the id of a line

-- the id that the value of the member `id` is
abbrev pub id_of_value : Data → Option Id
id_of_value (number (unsigned n)) = Some (number_id n)
id_of_value (string s) = Some (text_id s)
id_of_value d = None

-- whether a value is an object with one member
abbrev pub has_one_member : Data → Bool
has_one_member (object (member k d no_members)) = true
has_one_member d = false

-- the value of the member `id`, if an object has no other
abbrev pub id_member : Data → Option Data
id_member d = if has_one_member d then get (codes "id") d else None

-- the last of these items
abbrev pub last_item : Items → Option Data
last_item no_items = None
last_item (item d no_items) = Some d
last_item (item d (item e ds)) = last_item (item e ds)

-- these items without the last
abbrev pub without_last : Items → Items
without_last no_items = no_items
without_last (item d no_items) = no_items
without_last (item d (item e ds)) = item d (without_last (item e ds))

-- the value of the member `id` in the last of these items
abbrev pub id_value : Items → Option Data
id_value ds = option_and_then id_member (last_item ds)

-- the id that is the last of these items
abbrev pub id_in : Items → Option Id
id_in ds = option_and_then id_of_value (id_value ds)

-- the id of the request in a line, if it has one; a line that is too long, or isn't JSON, has none
unfoldable pub id_of_line : List ℕ → Option Id
id_of_line line = if nat_lt 4096 (length line) then None else option_and_then id_in (option_and_then as_array (tree_of line))

-- ---- the request of a line

-- the values after a word, without an id
abbrev pub values_in : Items → Items
values_in members = if is_some (id_in members) then without_last members else members

-- the request of a word with these members after it
abbrev pub request_by : Configuration → List ℕ → Items → Result Request LineFault
request_by c word members = command_by c word (values_in members) >>= λ command. Ok (record { command = command; id = id_in members })
