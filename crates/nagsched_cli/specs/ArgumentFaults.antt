-- The first argument that is wrong, and its fault.
use Rattle.std.specs.Prelude.{ℕ, ◌≡◌, ◌-◌, ◌<◌, ◌==◌, ◌&&◌, Bool, true, false, List, if◌then◌else◌, nat_lt, length, take, drop}
use Rattle.std.specs.Prelude.{Option, Some, None, codes, is_some, slice_get, slice_index, unwrap_or, option_and_then}
use Rattle.std.specs.List.{before_first, after_first, position_or_len, list_any}
use Rattle.std.specs.Option.{option_map_or}
use Rattle.std.specs.Str.{bytes_eq}
use Rattle.clap.specs.Words.{Text}
use Rattle.nagsched_cli.specs.Arguments.{number_between}
use Rattle.nagsched_cli.specs.ArgumentNames.{has_switch, limits_of, named_switch, named_topic, switch_name}
use Rattle.nagsched_cli.specs.declared.argument_faults.ArgumentFault.{ArgumentFault}
use Rattle.nagsched_cli.specs.declared.argument_faults.ArgumentFault.TheVariants as fault
use Rattle.nagsched_cli.specs.declared.argument_faults.RefusedArgument.{RefusedArgument}
use Rattle.nagsched_cli.specs.declared.argument_names.Limits.{Limits}
use Rattle.nagsched_cli.specs.declared.argument_names.Topic.{Topic}
use Rattle.nagsched_cli.specs.declared.argument_names.Topic.TheVariants as topic
use Rattle.nagsched_cli.specs.declared.argument_names.Switch.{Switch}
use Rattle.nagsched_cli.specs.declared.argument_names.Switch.TheVariants as switch

-- ---- the parts of an argument, and the arguments next to it

-- the argument before a place, if there is one
abbrev pub previous_word : List Text → ℕ → Option Text
previous_word words place = if place == 0 then None else slice_get words (place - 1)

-- the argument after a place, if there is one
abbrev pub next_word : List Text → ℕ → Option Text
next_word words place = slice_get (drop place words) 1

-- whether an argument is an option: it begins with `-` (45), and is longer
abbrev pub is_option : Text → Bool
is_option word = nat_lt 1 (length word) && (slice_index word 0 == 45)

-- whether an argument is the one after which no options come
abbrev pub is_dashes : Option Text → Bool
is_dashes word = option_map_or (λ w. bytes_eq w (codes "--")) word false

-- what comes before the first `=` (61)
abbrev pub name_part : Text → Text
name_part word = before_first (λ b. b == 61) word

-- what comes after the first `=`, if there is one
abbrev pub attached_value : Text → Option Text
attached_value word = if nat_lt (position_or_len (λ b. b == 61) word) (length word) then Some (after_first (λ b. b == 61) word) else None

-- the value in an argument: what is attached to an option, or else the whole argument
abbrev pub value_part : Text → Text
value_part word = if is_option word then unwrap_or (attached_value word) word else word

-- ---- the fault of an argument

-- the fault of the value of an option: it isn't a number within the option's limits
abbrev pub value_fault : Switch → Text → Option ArgumentFault
value_fault s value = option_and_then (λ (l : Limits). if is_some (number_between l.least l.most value) then None else Some (fault.BadValue s)) (limits_of s)

-- whether the argument after an option can't be its value
abbrev pub waits_for_value : Option Text → Bool
waits_for_value next = option_map_or is_option next true

-- the fault of an option without an attached value, before this argument
abbrev pub bare_fault : Switch → Option Text → Option ArgumentFault
bare_fault s next = if is_some (limits_of s) && waits_for_value next then Some (fault.MissingValue s) else None

-- the fault of an option that has this value attached
abbrev pub attached_fault : Switch → Text → Option ArgumentFault
attached_fault s value = if is_some (limits_of s) then value_fault s value else Some (fault.NeedlessValue s)

-- the fault of an option that has this value attached, or this argument after it
abbrev pub shape_fault : Switch → Option Text → Option Text → Option ArgumentFault
shape_fault s None next = bare_fault s next
shape_fault s (Some value) next = attached_fault s value

-- whether an option is among these arguments
abbrev pub is_given : Switch → List Text → Bool
is_given s words = list_any (λ w. bytes_eq (name_part w) (switch_name s)) words

-- whether these arguments have the option that can't be combined with this one
abbrev pub clashes : Switch → List Text → Bool
clashes switch.Line words = is_given switch.Resume words
clashes switch.Resume words = is_given switch.Line words
clashes s words = false

-- the fault of an option of the command, at a place
abbrev pub switch_fault : Switch → List Text → Text → ℕ → Option ArgumentFault
switch_fault s words word place = if is_given s (take place words) then Some (fault.Repeated s)
    else (if clashes s (take place words) then Some fault.LineWithResume
    else shape_fault s (attached_value word) (next_word words place))

abbrev pub named_fault : Topic → List Text → Text → ℕ → Option Switch → Option ArgumentFault
named_fault t words word place None = Some (fault.UnknownOption t)
named_fault t words word place (Some s) = if has_switch t s then switch_fault s words word place else Some (fault.OtherCommands t s)

-- the fault of an option at a place
abbrev pub option_fault : Topic → List Text → Text → ℕ → Option ArgumentFault
option_fault t words word place = if bytes_eq word (codes "--") then None else named_fault t words word place (named_switch (name_part word))

-- the option in the argument before a value
abbrev pub valued_switch : Topic → Option Text → Option Switch
valued_switch t previous = option_and_then (λ s. if has_switch t s && is_some (limits_of s) then Some s else None) (option_and_then named_switch previous)

-- the fault of an argument that isn't an option or its value
abbrev pub word_fault : Topic → ArgumentFault
word_fault topic.Program = fault.UnknownCommand
word_fault t = fault.Needless t

-- the fault of an argument that isn't an option, by the option before it
abbrev pub plain_fault : Topic → Text → Option Switch → Option ArgumentFault
plain_fault t word None = Some (word_fault t)
plain_fault t word (Some s) = value_fault s word

-- the fault of the argument at a place, of a command but `help`, or of the program
abbrev pub argument_fault : Topic → List Text → Text → ℕ → Option ArgumentFault
argument_fault t words word place = if is_dashes (previous_word words place) then Some (fault.Needless t)
    else (if is_option word then option_fault t words word place
    else plain_fault t word (valued_switch t (previous_word words place)))

-- the fault of the argument of `help` at a place: the first names a command, and no other can follow
abbrev pub help_fault : Text → ℕ → Option ArgumentFault
help_fault word place = if nat_lt 0 place then Some (fault.Needless topic.Help)
    else (if is_some (named_topic word) then None else Some fault.UnknownCommand)

abbrev pub fault_of_word : Topic → List Text → ℕ → Text → Option ArgumentFault
fault_of_word topic.Help words place word = help_fault word place
fault_of_word t words place word = argument_fault t words word place

-- the fault of the argument at a place
abbrev pub fault_at : Topic → List Text → ℕ → Option ArgumentFault
fault_at t words place = option_and_then (fault_of_word t words place) (slice_get words place)

-- ---- the first argument that is wrong

-- the command that the program's arguments name, or the program itself
abbrev pub topic_of : List Text → Topic
topic_of words = unwrap_or (option_and_then named_topic (slice_get words 1)) topic.Program

-- the arguments after the command, or after the program's name if there is no command
abbrev pub arguments_of : Topic → List Text → List Text
arguments_of topic.Program words = drop 1 words
arguments_of t words = drop 2 words

-- this is the first argument that is wrong; without one, nothing is wrong with any
abbrev pub IsFirstFault : Topic → List Text → Option RefusedArgument → Type 0
IsFirstFault t words None = (place : ℕ) → place < length words → fault_at t words place ≡ None
IsFirstFault t words (Some refused) = (refused.place < length words) × (fault_at t words refused.place ≡ Some refused.fault)
    × ((place : ℕ) → place < refused.place → fault_at t words place ≡ None)
