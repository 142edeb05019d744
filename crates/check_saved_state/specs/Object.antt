-- An object as values of JSON, in the order of its table: the object that is written, and the one that is read.
use Rattle.std.specs.Prelude.{ℕ, Bool, List, [], ◌∷◌, Option, Some, None, is_some, option_and_then, option_map, if◌then◌else◌}
use Rattle.serde_json.specs.Data.{unsigned, Data, null, boolean, number, string, object, Items, Members, no_members, put}
use Rattle.serde_json.specs.Find.{as_array, as_bool, as_null, as_str}
use Rattle.setup_reader.specs.JsonTree.{whole_number, ◌>=>◌}
use Rattle.setup_model.specs.Name.{is_host_name}
use Rattle.check_states.specs.declared.standing.Kind.{Kind}
use Rattle.check_states.specs.declared.standing.Standing.{Standing}
use Rattle.check_states.specs.declared.state.State as rules
use Rattle.check_saved_state.specs.Saved.{SavedObject}
use Rattle.check_saved_state.specs.Scheduling.{OpenRun}
use Rattle.check_saved_state.specs.Table as members
use Rattle.check_saved_state.specs.Table.{Row, has_only_members, value_at, values_in}
use Rattle.check_states.specs.Words.{kind_of_word, kind_word, state_of_word, state_word}
use Rattle.check_saved_state.specs.Words.{flapping_of_word, flapping_word, letters_of, only_letters, results_of_letters}

-- ---- values that are written

-- these members with these values, put one after another into others
abbrev pub members_with : List Row → List Data → Members → Members
members_with (m ∷ ms) (d ∷ ds) others = members_with ms ds (put m.name d others)
members_with ms ds others = others

-- the object of JSON that has these members with these values
abbrev pub object_with : List Row → List Data → Data
object_with ms ds = object (members_with ms ds no_members)

abbrev pub number_tree : ℕ → Data
number_tree n = number (unsigned n)

-- a time, or null if no time is set
abbrev pub time_tree : Option ℕ → Data
time_tree None = null
time_tree (Some time) = number_tree time

-- a run, or null
abbrev pub run_tree : Option OpenRun → Data
run_tree None = null
run_tree (Some run) = object_with members.run_members (number_tree run.number ∷ number_tree run.start ∷ [])

-- ---- values that are read, by the table

abbrev pub text_of : Option Data → Option (List ℕ)
text_of value = option_and_then as_str value

abbrev pub text_member : ℕ → Data → Row → Option (List ℕ)
text_member format d m = text_of (value_at format d m)

abbrev pub number_member : ℕ → Data → Row → Option ℕ
number_member format d m = option_and_then whole_number (value_at format d m)

abbrev pub bool_member : ℕ → Data → Row → Option Bool
bool_member format d m = option_and_then as_bool (value_at format d m)

abbrev pub state_member : ℕ → Data → Row → Option rules.State
state_member format d m = text_member format d m >=> state_of_word

abbrev pub list_member : ℕ → Data → Row → Option Items
list_member format d m = option_and_then as_array (value_at format d m)

-- null means no number
abbrev pub optional_number : Data → Option (Option ℕ)
optional_number d = if is_some (as_null d) then Some None else option_map Some (whole_number d)

abbrev pub optional_number_member : ℕ → Data → Row → Option (Option ℕ)
optional_number_member format d m = option_and_then optional_number (value_at format d m)

abbrev pub run_in_tree : ℕ → Data → Option OpenRun
run_in_tree format d = if has_only_members format members.run_members d then
    (number_member format d members.run_number >=> λ number.
    (number_member format d members.run_start >=> λ start.
    Some (record { number = number; start = start })))
    else None

-- null means no run
abbrev pub optional_run : ℕ → Data → Option (Option OpenRun)
optional_run format d = if is_some (as_null d) then Some None else option_map Some (run_in_tree format d)

abbrev pub optional_run_member : ℕ → Data → Row → Option (Option OpenRun)
optional_run_member format d m = option_and_then (optional_run format) (value_at format d m)

-- ---- an object

-- the values of an object's members
abbrev pub object_values : SavedObject → List Data
object_values o =
    string o.name
    ∷ string (state_word o.standing.state)
    ∷ string (kind_word o.standing.kind)
    ∷ number_tree o.standing.attempt
    ∷ string (state_word o.standing.last_hard)
    ∷ boolean o.standing.checked
    ∷ string (flapping_word o.standing.flapping)
    ∷ string (letters_of o.results)
    ∷ time_tree o.scheduling.next
    ∷ run_tree o.scheduling.run
    ∷ boolean o.scheduling.enabled
    ∷ boolean o.scheduling.forced
    ∷ number_tree o.interval
    ∷ number_tree o.max_attempts
    ∷ boolean o.setup_enabled
    ∷ []

abbrev pub object_tree : SavedObject → Data
object_tree o = object_with members.object_members (object_values o)

-- the standing with these values
abbrev pub standing_with : Bool → rules.State → Kind → ℕ → rules.State → Bool → Standing
standing_with checked state kind attempt last_hard flapping =
    record { checked = checked; state = state; kind = kind; attempt = attempt; last_hard = last_hard; flapping = flapping }

-- the object with these values of the members of its table, in the order of the table
unfoldable pub object_of_values : (Data → Option (Option OpenRun)) → List (Option Data) → Option SavedObject
object_of_values run_of (name ∷ state ∷ kind ∷ attempt ∷ last_hard ∷ checked ∷ flapping ∷ results ∷ next ∷ run ∷ enabled ∷ forced ∷ interval
    ∷ max_attempts ∷ setup_enabled ∷ []) =
    (text_of name >=> λ name.
    (text_of state >=> state_of_word >=> λ state.
    (text_of kind >=> kind_of_word >=> λ kind.
    (option_and_then whole_number attempt >=> λ attempt.
    (text_of last_hard >=> state_of_word >=> λ last_hard.
    (option_and_then as_bool checked >=> λ checked.
    (text_of flapping >=> flapping_of_word >=> λ flapping.
    (text_of results >=> only_letters >=> λ letters.
    (option_and_then optional_number next >=> λ next.
    (option_and_then run_of run >=> λ run.
    (option_and_then as_bool enabled >=> λ enabled.
    (option_and_then as_bool forced >=> λ forced.
    (option_and_then whole_number interval >=> λ interval.
    (option_and_then whole_number max_attempts >=> λ max_attempts.
    (option_and_then as_bool setup_enabled >=> λ setup_enabled.
    Some (record {
      name = name;
      standing = standing_with checked state kind attempt last_hard flapping;
      results = results_of_letters (is_host_name name) letters;
      scheduling = record { next = next; run = run; enabled = enabled; forced = forced };
      interval = interval;
      max_attempts = max_attempts;
      setup_enabled = setup_enabled;
    }))))))))))))))))
object_of_values run_of values = None

unfoldable pub object_in : ℕ → Data → Option SavedObject
object_in format d = option_and_then (object_of_values (optional_run format)) (values_in format members.object_members d)
