-- The words of `drill`, and the command that each means with the members after it.
use Rattle.std.specs.Prelude.{ℕ, ◌+◌, List, [], ◌∷◌, Option, Some, None, Result, Ok, Err, ok_or, option_map, is_some, codes, bytes_eq, if◌then◌else◌}
use Rattle.serde_json.specs.Data.{Data, Items, no_items, item}
use Rattle.check_objects.specs.JsonTree.{whole_number}
use Rattle.check_objects.specs.Configuration.{Configuration}
use Rattle.check_states.specs.declared.state.Code.{Code}
use Rattle.nagsched_protocol.specs.declared.refusal.LineFault.{LineFault}
use Rattle.nagsched_protocol.specs.declared.refusal.LineFault.TheVariants as fault
use Rattle.nagsched_protocol.specs.declared.refusal.LineShape.TheVariants as shape
use Rattle.nagsched_protocol.specs.declared.refusal.ValueKind.TheVariants as kind
use Rattle.nagsched_protocol.specs.declared.refusal.Vocabulary.TheVariants as vocabulary
use Rattle.setup_model.specs.Agreement.{◌>>=◌, ok_unless}
use Rattle.nagsched_protocol.specs.Command.{code_in, name_in, number_in, object_named, one_of, value_count, wrong_count, wrong_kind}

-- a command of a drill
pub data Command : Type 0 where
  -- the return codes of the plugin of the object with this number
  PluginOf : ℕ → List Code → Command
  -- one more moment
  MomentAt : ℕ → Command

-- ---- the members after a word: they are its values, counted from 1

-- a value, and those after it, at least one
abbrev pub first_and_more : Items → Option (Data × Items)
first_and_more (item name (item d ds)) = Some (name, item d ds)
first_and_more members = None

-- the number of the first value that isn't a whole number; the first of these values has this number
abbrev pub first_other : ℕ → Items → Option ℕ
first_other number no_items = None
first_other number (item d ds) = if is_some (whole_number d) then first_other (number + 1) ds else Some number

-- the return codes that values are, if each is one; the first of these values has this number
abbrev pub codes_from : ℕ → Items → Result (List Code) LineFault
codes_from number no_items = Ok []
codes_from number (item d ds) = code_in number d >>= λ first. (codes_from (number + 1) ds >>= λ more. Ok (first ∷ more))

-- ---- one definition per word, over the values after the word: the tests are their number, their kinds in order, the return codes, the name

abbrev pub plugin_of : Configuration → Data → Items → Result Command LineFault
plugin_of c name returned = name_in name >>= λ n. (ok_unless (option_map (λ number. wrong_kind number kind.Code) (first_other 2 returned)) >>= λ _.
    (codes_from 2 returned >>= λ list. (object_named c n >>= λ object. Ok (PluginOf object list))))

-- `["plugin",name,code,..]`: the plugin of the object `name` returns these codes, one after another
abbrev pub plugin_command : Configuration → Items → Result Command LineFault
plugin_command c members =
    ok_or (first_and_more members) (fault.Shape (shape.TooFew (value_count members) 2)) >>= λ p. plugin_of c p.0 p.1

-- `["moment",now]`: one more moment, `now`
abbrev pub moment_command : Items → Result Command LineFault
moment_command members = ok_or (one_of members) (wrong_count members 1) >>= λ now. (number_in 1 kind.Time now >>= λ n. Ok (MomentAt n))

-- ---- all words

-- the command of a word with these members after it
abbrev pub drill_command_by : Configuration → List ℕ → Items → Result Command LineFault
drill_command_by c word members = if bytes_eq word (codes "plugin") then plugin_command c members
    else (if bytes_eq word (codes "moment") then moment_command members else Err (fault.Shape (shape.UnknownWord vocabulary.Drill)))
