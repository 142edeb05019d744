-- The names of the program's commands and of their options.
use Rattle.std.specs.Prelude.{◌^◌, Bool, List, [], ◌∷◌, ◌++◌, ◌||◌, Option, Some, None, codes, map, unwrap_or, if◌then◌else◌}
use Rattle.std.specs.List.{list_any}
use Rattle.std.specs.Str.{bytes_eq}
use Rattle.clap.specs.Words.{App, Shape, Text}
use Rattle.nagsched_cli.specs.declared.argument_names.Topic.{Topic}
use Rattle.nagsched_cli.specs.declared.argument_names.Topic.TheVariants as topic
use Rattle.nagsched_cli.specs.declared.argument_names.Switch.{Switch}
use Rattle.nagsched_cli.specs.declared.argument_names.Switch.TheVariants as switch
use Rattle.nagsched_cli.specs.declared.argument_names.Limits.{Limits}

-- the command of this name
abbrev pub named_topic : Text → Option Topic
named_topic name = if bytes_eq name (codes "run") then Some topic.Run
    else (if bytes_eq name (codes "live") then Some topic.Live
    else (if bytes_eq name (codes "check") then Some topic.Check
    else (if bytes_eq name (codes "drill") then Some topic.Drill
    else (if bytes_eq name (codes "schema") then Some topic.Schema
    else (if bytes_eq name (codes "help") then Some topic.Help else None)))))

-- the names of the commands
abbrev pub command_names : List Text
command_names = codes "run" ∷ codes "live" ∷ codes "check" ∷ codes "drill" ∷ codes "schema" ∷ codes "help" ∷ []

-- the name of a command, or of the program
abbrev pub topic_name : Topic → Text
topic_name topic.Program = codes "nagsched"
topic_name topic.Run = codes "run"
topic_name topic.Live = codes "live"
topic_name topic.Check = codes "check"
topic_name topic.Drill = codes "drill"
topic_name topic.Schema = codes "schema"
topic_name topic.Help = codes "help"

-- the option of this name, whatever it belongs to
abbrev pub named_switch : Text → Option Switch
named_switch name = if bytes_eq name (codes "--help") || bytes_eq name (codes "-h") then Some switch.Help
    else (if bytes_eq name (codes "--version") || bytes_eq name (codes "-V") then Some switch.Version
    else (if bytes_eq name (codes "--start") then Some switch.Start
    else (if bytes_eq name (codes "--resume") then Some switch.Resume
    else (if bytes_eq name (codes "--json") then Some switch.Json
    else (if bytes_eq name (codes "--explain") then Some switch.Explain
    else (if bytes_eq name (codes "--line") then Some switch.Line
    else (if bytes_eq name (codes "--workers") then Some switch.Workers
    else (if bytes_eq name (codes "--room") then Some switch.Room else None))))))))

-- the long name of an option
abbrev pub switch_name : Switch → Text
switch_name switch.Help = codes "--help"
switch_name switch.Version = codes "--version"
switch_name switch.Start = codes "--start"
switch_name switch.Resume = codes "--resume"
switch_name switch.Json = codes "--json"
switch_name switch.Explain = codes "--explain"
switch_name switch.Line = codes "--line"
switch_name switch.Workers = codes "--workers"
switch_name switch.Room = codes "--room"

-- the names of the options of a command, or of the program
abbrev pub option_names : Topic → List Text
option_names topic.Program = codes "--help" ∷ codes "--version" ∷ []
option_names topic.Run = codes "--start" ∷ codes "--resume" ∷ codes "--json" ∷ codes "--help" ∷ []
option_names topic.Live = codes "--start" ∷ codes "--resume" ∷ codes "--json" ∷ codes "--explain" ∷ codes "--help" ∷ []
option_names topic.Check = codes "--start" ∷ codes "--resume" ∷ codes "--line" ∷ codes "--help" ∷ []
option_names topic.Drill = codes "--start" ∷ codes "--workers" ∷ codes "--room" ∷ codes "--help" ∷ []
option_names topic.Schema = codes "--help" ∷ []
option_names topic.Help = []

-- whether an option belongs to a command, or to the program
abbrev pub has_switch : Topic → Switch → Bool
has_switch t s = list_any (λ n. bytes_eq n (switch_name s)) (option_names t)

-- the names of the options that `clap` reads after a command's name, or after the program's
abbrev pub read_options : Shape → List Text
read_options shape = map (λ rule. codes "--" ++ unwrap_or rule.long []) shape.rules
    ++ (codes "--help" ∷ (if shape.has_version then codes "--version" ∷ [] else []))

-- the names of the commands that `clap` reads
abbrev pub read_commands : App → List Text
read_commands app = map (λ shape. shape.name) app.subs ++ codes "help" ∷ []

-- what a command takes, or the program, in words
abbrev pub taken_text : Topic → Text
taken_text topic.Program = codes "a command or the options --help and --version"
taken_text topic.Run = codes "the options --start N, --resume, --json and --help"
taken_text topic.Live = codes "the options --start N, --resume, --json, --explain and --help"
taken_text topic.Check = codes "the options --start N, --line, --resume and --help"
taken_text topic.Drill = codes "the options --start N, --workers N, --room N and --help"
taken_text topic.Schema = codes "the option --help"
taken_text topic.Help = codes "the name of one command"

-- the commands that have an option, in words
abbrev pub owners_text : Switch → Text
owners_text switch.Help = codes "nagsched, run, live, check, drill and schema"
owners_text switch.Version = codes "nagsched"
owners_text switch.Start = codes "run, live, check and drill"
owners_text switch.Resume = codes "run, live and check"
owners_text switch.Json = codes "run and live"
owners_text switch.Explain = codes "live"
owners_text switch.Line = codes "check"
owners_text switch.Workers = codes "drill"
owners_text switch.Room = codes "drill"

-- the numbers that an option takes; none if it takes no value
abbrev pub limits_of : Switch → Option Limits
limits_of switch.Start = Some (record { least = 0; most = 2 ^ 60 })
limits_of switch.Workers = Some (record { least = 1; most = 64 })
limits_of switch.Room = Some (record { least = 0; most = 1000000 })
limits_of s = None
