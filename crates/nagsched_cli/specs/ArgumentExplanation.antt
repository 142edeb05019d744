-- The explanation of arguments that are refused.
use Rattle.std.specs.Prelude.{◌≡◌, List, [], ◌++◌, Option, Some, None, codes, decimal, slice_get, unwrap_or}
use Rattle.json.specs.Print.{quoted}
use Rattle.clap.specs.Words.{Text}
use Rattle.nagsched_cli.specs.ArgumentFaults.{IsFirstFault, arguments_of, name_part, topic_of, value_part}
use Rattle.nagsched_cli.specs.ArgumentNames.{command_names, limits_of, option_names, owners_text, switch_name, taken_text, topic_name}
use Rattle.nagsched_cli.specs.Nearest.{IsNearest}
use Rattle.nagsched_cli.specs.declared.argument_faults.ArgumentFault.{ArgumentFault}
use Rattle.nagsched_cli.specs.declared.argument_faults.ArgumentFault.TheVariants as fault
use Rattle.nagsched_cli.specs.declared.argument_faults.RefusedArgument.{RefusedArgument}
use Rattle.nagsched_cli.specs.declared.argument_names.Limits.{Limits}
use Rattle.nagsched_cli.specs.declared.argument_names.Topic.{Topic}
use Rattle.nagsched_cli.specs.declared.argument_names.Switch.{Switch}

-- the name that is near, if there is one
abbrev pub near_text : Option Text → Text
near_text None = []
near_text (Some name) = codes " (did you mean " ++ (name ++ codes "?)")

abbrev pub unknown_command_text : Text → Option Text → Text
unknown_command_text word near = codes "the command must be run, live, check, drill, schema or help, not " ++ (quoted word ++ near_text near)

abbrev pub unknown_option_text : Text → Topic → Option Text → Text
unknown_option_text word t near = quoted word ++ (codes " isn't an option of " ++ (topic_name t ++ (codes ", which takes " ++ (taken_text t ++ near_text near))))

abbrev pub other_commands_text : Text → Topic → Switch → Text
other_commands_text word t s = quoted word ++ (codes " is an option of " ++ (owners_text s ++ (codes ", not of " ++ topic_name t)))

abbrev pub range_text : Option Limits → Text
range_text None = []
range_text (Some l) = codes "a whole number from " ++ (decimal l.least ++ (codes " to " ++ decimal l.most))

-- the numbers that an option takes
abbrev pub limits_text : Switch → Text
limits_text s = range_text (limits_of s)

abbrev pub missing_value_text : Switch → Text
missing_value_text s = switch_name s ++ (codes " needs a value, " ++ limits_text s)

abbrev pub bad_value_text : Text → Switch → Text
bad_value_text word s = codes "the value of " ++ (switch_name s ++ (codes " must be " ++ (limits_text s ++ (codes ", not " ++ quoted (value_part word)))))

abbrev pub needless_value_text : Text → Switch → Text
needless_value_text word s = switch_name s ++ (codes " takes no value, so it can't be given as " ++ quoted word)

abbrev pub repeated_text : Switch → Text
repeated_text s = switch_name s ++ codes " must be given only once"

abbrev pub needless_text : Text → Topic → Text
needless_text word t = quoted word ++ (codes " is one argument too many: " ++ (topic_name t ++ (codes " takes only " ++ taken_text t)))

-- the text about a command that there isn't, with the nearest command
abbrev pub IsUnknownCommandText : Text → Text → Type 0
IsUnknownCommandText word text = (near : Option Text) × IsNearest word command_names near × (text ≡ unknown_command_text word near)

-- the text about an option that there isn't, with the nearest option of the command
abbrev pub IsUnknownOptionText : Text → Topic → Text → Type 0
IsUnknownOptionText word t text = (near : Option Text) × IsNearest (name_part word) (option_names t) near × (text ≡ unknown_option_text word t near)

-- the text about an argument of which this is wrong
abbrev pub IsArgumentText : Text → ArgumentFault → Text → Type 0
IsArgumentText word fault.UnknownCommand text = IsUnknownCommandText word text
IsArgumentText word (fault.UnknownOption t) text = IsUnknownOptionText word t text
IsArgumentText word (fault.OtherCommands t s) text = text ≡ other_commands_text word t s
IsArgumentText word (fault.MissingValue s) text = text ≡ missing_value_text s
IsArgumentText word (fault.BadValue s) text = text ≡ bad_value_text word s
IsArgumentText word (fault.NeedlessValue s) text = text ≡ needless_value_text word s
IsArgumentText word (fault.Repeated s) text = text ≡ repeated_text s
IsArgumentText word fault.LineWithResume text = text ≡ codes "--line and --resume can't be combined"
IsArgumentText word (fault.Needless t) text = text ≡ needless_text word t

-- the text about the first argument that is wrong; without one, it names no argument
abbrev pub IsFaultText : List Text → Option RefusedArgument → Text → Type 0
IsFaultText words None text = text ≡ codes "the arguments can't be read as a command and its options"
IsFaultText words (Some refused) text = IsArgumentText (unwrap_or (slice_get words refused.place) []) refused.fault text

-- the whole explanation of the program's arguments, whose first is the program's name
abbrev pub IsExplanation : List Text → Text → Type 0
IsExplanation words text = (refused : Option RefusedArgument) × IsFirstFault (topic_of words) (arguments_of (topic_of words) words) refused
    × IsFaultText (arguments_of (topic_of words) words) refused text
