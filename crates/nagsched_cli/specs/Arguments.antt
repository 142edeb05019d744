-- The job that the program's arguments ask for, as `clap` reads them.
use Rattle.std.specs.Prelude.{ℕ, ◌^◌, ◌≤◌, ◌≡◌, ◌≢◌, ◌⊎◌, ⊤, Bool, true, false, List, [], ◌∷◌, if◌then◌else◌, string_bytes}
use Rattle.std.specs.Prelude.{Option, Some, None, Result, Ok, Err, codes, option_map, option_and_then, unwrap_or}
use Rattle.std.specs.Option.{option_map_or}
use Rattle.std.specs.Str.{bytes_eq}
use Rattle.std.specs.Str.Parse.{digits_value, without_leading_plus}
use Rattle.clap.specs.Simple.{on_top}
use Rattle.clap.specs.ValueTests.{is_unsigned_in}
use Rattle.clap.specs.Words.{App, IsAmong, Row, Rule, Text, fault_of, first_of, new_app, new_rule, subcommand_of, with_rule, with_subcommand}
use Rattle.clap.specs.declared.builder.action.ArgAction.TheVariants as action
use Rattle.clap.specs.declared.error.kind.ErrorKind.{ErrorKind}
use Rattle.clap.specs.declared.error.kind.ErrorKind.TheVariants as kind
use Rattle.nagsched_protocol.specs.declared.answer_form.AnswerForm.{AnswerForm}
use Rattle.nagsched_protocol.specs.declared.answer_form.AnswerForm.TheVariants as forms
use Rattle.nagsched_protocol.specs.declared.start.Start.{Start}
use Rattle.nagsched_protocol.specs.declared.start.Start.TheVariants as start
use Rattle.nagsched_protocol.specs.Start.{CanStart}
use Rattle.nagsched_cli.specs.declared.arguments.Job.{Job}
use Rattle.nagsched_cli.specs.declared.arguments.Job.TheVariants as job
use Rattle.nagsched_cli.specs.declared.arguments.WordsError.{WordsError}
use Rattle.nagsched_cli.specs.declared.arguments.WordsError.TheVariants as error

-- ---- the arguments that the program takes

-- an option `--name N` of a number, with the default `otherwise`
abbrev pub number_option : Text → Text → Rule
number_option name otherwise = record (new_rule name) {
  long = Some name;
  value_names = 1;
  defaults = otherwise ∷ [];
}

-- the option `--start N`, with the default 0
abbrev pub start_option : Rule
start_option = number_option (codes "start") (codes "0")

-- the option `--workers N`, with the default 2
abbrev pub workers_option : Rule
workers_option = number_option (codes "workers") (codes "2")

-- the option `--room N`, with the default 1000
abbrev pub room_option : Rule
room_option = number_option (codes "room") (codes "1000")

-- the option `--start N` of `run`, `live` and `check`, without a default
abbrev pub optional_start_option : Rule
optional_start_option = record (new_rule (codes "start")) {
  long = Some (codes "start");
  value_names = 1;
}

-- a flag `--name`, which takes no value
abbrev pub flag_argument : Text → Rule
flag_argument name = record (new_rule name) {
  long = Some name;
  action = Some action.SetTrue;
}

-- the flag `--line`
abbrev pub line_flag : Rule
line_flag = flag_argument (codes "line")

-- the flag `--resume`
abbrev pub resume_flag : Rule
resume_flag = flag_argument (codes "resume")

-- the flag `--json`
abbrev pub json_flag : Rule
json_flag = flag_argument (codes "json")

-- the flag `--explain`
abbrev pub explain_flag : Rule
explain_flag = flag_argument (codes "explain")

-- a subcommand of this name, with the option `--start` and the flag `--resume`
abbrev pub subcommand_with_start : Text → App
subcommand_with_start name = with_rule (with_rule (new_app name) optional_start_option) resume_flag

-- a subcommand of this name, with these and the flag `--json`
abbrev pub subcommand_with_json : Text → App
subcommand_with_json name = with_rule (subcommand_with_start name) json_flag

-- the subcommand `run`, with its option and its two flags
abbrev pub run_subcommand : App
run_subcommand = subcommand_with_json (codes "run")

-- the subcommand `live`, with its option and its three flags
abbrev pub live_subcommand : App
live_subcommand = with_rule (subcommand_with_json (codes "live")) explain_flag

-- the subcommand `check`, with its option and its two flags
abbrev pub check_subcommand : App
check_subcommand = with_rule (subcommand_with_start (codes "check")) line_flag

-- the subcommand `drill`, with its three options
abbrev pub drill_subcommand : App
drill_subcommand = with_rule (with_rule (with_rule (new_app (codes "drill")) start_option) workers_option) room_option

-- the subcommand `schema`, without an option
abbrev pub schema_subcommand : App
schema_subcommand = new_app (codes "schema")

-- a command that has a version, and so the flags `--version` and `-V`
abbrev pub with_version : App → App
with_version = on_top (λ s. record s { has_version = true })

-- the program, with its version and its five subcommands
abbrev pub program : App
program = with_subcommand (with_subcommand (with_subcommand (with_subcommand
    (with_subcommand (with_version (new_app (codes "nagsched"))) run_subcommand.top) live_subcommand.top) check_subcommand.top) drill_subcommand.top) schema_subcommand.top

-- ---- the meaning of the arguments

-- the number that std reads as a `u64` from a text, if it is within these limits
abbrev pub number_between : ℕ → ℕ → Text → Option ℕ
number_between least most text = if is_unsigned_in least most text then Some (digits_value 10 (without_leading_plus text)) else None

-- the number of an option, within these limits, by the options that were read
abbrev pub option_number : Text → ℕ → ℕ → List Row → Option ℕ
option_number name least most options = option_and_then (number_between least most) (first_of name options)

-- the moment at which the scheduler starts, 0 to 2^60, by the options that were read
abbrev pub drill_start_of : List Row → Option ℕ
drill_start_of = option_number (codes "start") 0 (2 ^ 60)

-- the number of workers, 1 to 64, by the options that were read
abbrev pub drill_workers_of : List Row → Option ℕ
drill_workers_of = option_number (codes "workers") 1 64

-- the number of entries for which there is room, 0 to 1,000,000, by the options that were read
abbrev pub drill_room_of : List Row → Option ℕ
drill_room_of = option_number (codes "room") 0 1000000

-- whether a flag was given, by the options that were read: `clap` then has the text "true" for it
abbrev pub has_flag : Text → List Row → Bool
has_flag name options = option_map_or (λ text. bytes_eq text (codes "true")) (first_of name options) false

-- whether `--line` was given
abbrev pub has_line_flag : List Row → Bool
has_line_flag options = has_flag (codes "line") options

-- whether `--resume` was given
abbrev pub has_resume_flag : List Row → Bool
has_resume_flag options = has_flag (codes "resume") options

-- the start of `run`, `live` and `check`: none if the option isn't given, otherwise the moment that it gives, 0 to 2^60
abbrev pub start_of_text : Option Text → Option (Option ℕ)
start_of_text None = Some None
start_of_text (Some text) = option_map Some (number_between 0 (2 ^ 60) text)

abbrev pub optional_start_of : List Row → Option (Option ℕ)
optional_start_of options = start_of_text (first_of (codes "start") options)

-- how a scheduler starts with this flag `--resume` and this moment: from a saved state, or fresh, at 0 if no moment is given
abbrev pub start_from : Bool → Option ℕ → Start
start_from true moment = start.Resumed moment
start_from false moment = start.Fresh (unwrap_or moment 0)

-- how the scheduler of `run`, `live` or `check` starts, by the options that were read
abbrev pub scheduler_start_of : List Row → Option Start
scheduler_start_of options = option_map (start_from (has_resume_flag options)) (optional_start_of options)

-- whether `--json` was given
abbrev pub has_json_flag : List Row → Bool
has_json_flag options = has_flag (codes "json") options

-- whether `--explain` was given
abbrev pub has_explain_flag : List Row → Bool
has_explain_flag options = has_flag (codes "explain") options

-- the form of answers with these flags `--json` and `--explain`; JSON explains refusals anyway
abbrev pub answer_form : Bool → Bool → AnswerForm
answer_form true explains = forms.Json
answer_form false true = forms.Explained
answer_form false false = forms.Words

-- `run`, by the options that were read for it
abbrev pub run_job_of : List Row → Option Job
run_job_of options = option_map (λ how. job.Run how (answer_form (has_json_flag options) false)) (scheduler_start_of options)

-- `live`, by the options that were read for it
abbrev pub live_job_of : List Row → Option Job
live_job_of options =
    option_map (λ how. job.Live how (answer_form (has_json_flag options) (has_explain_flag options))) (scheduler_start_of options)

-- `check` with this flag `--line` and this start: a setup that is written as one line has no saved state
abbrev pub check_job : Bool → Start → Option Job
check_job false how = Some (job.Check how)
check_job true (start.Fresh moment) = Some job.SetupLine
check_job true (start.Resumed moment) = None

-- `check`, by the options that were read for it
abbrev pub check_job_of : List Row → Option Job
check_job_of options = option_and_then (check_job (has_line_flag options)) (scheduler_start_of options)

-- `drill`, by the options that were read for it
abbrev pub drill_job_of : List Row → Option Job
drill_job_of options = option_and_then (λ start.
    option_and_then (λ workers.
    option_map (job.Drill start workers) (drill_room_of options))
    (drill_workers_of options)) (drill_start_of options)

-- the job of a subcommand with its options; without a subcommand it is `run` from the start 0
abbrev pub job_of : Option (Text × List Row) → Option Job
job_of None = Some (job.Run (start.Fresh 0) forms.Words)
job_of (Some (name, options)) =
    if bytes_eq name (codes "run") then run_job_of options
    else (if bytes_eq name (codes "live") then live_job_of options
    else (if bytes_eq name (codes "check") then check_job_of options
    else (if bytes_eq name (codes "drill") then drill_job_of options
    else (if bytes_eq name (codes "schema") then Some job.Schema else None))))

-- The job that the arguments ask for. The first argument is the program's name. It is the job of the subcommand that `clap` reads from them, with the
-- first value of each of its options.
abbrev pub requested_job : List Text → Option Job
requested_job words = job_of (subcommand_of program words)

-- the numbers of a job are within their limits
abbrev pub IsWithinLimits : Job → Type 0
IsWithinLimits (job.Run how form) = CanStart how
IsWithinLimits (job.Live how form) = CanStart how
IsWithinLimits (job.Check how) = CanStart how
IsWithinLimits job.SetupLine = ⊤
IsWithinLimits job.Schema = ⊤
IsWithinLimits (job.Drill start workers room) = (start ≤ 2 ^ 60) × (1 ≤ workers) × (workers ≤ 64) × (room ≤ 1000000)

-- ---- arguments that are no job

-- the program's answer to `--version`
abbrev pub version_line : Text
version_line = codes "nagsched 1.0.0-dev\n"

-- `clap` reads from the arguments that help is asked for
abbrev pub AsksHelp : List Text → Type 0
AsksHelp words = IsAmong kind.DisplayHelp (fault_of program words)

-- `clap` reads from the arguments that the version is asked for
abbrev pub AsksVersion : List Text → Type 0
AsksVersion words = IsAmong kind.DisplayVersion (fault_of program words)

-- the arguments ask for this text: help, about which nothing more is said, or the version
abbrev pub AsksText : List Text → Text → Type 0
AsksText words text = AsksHelp words ⊎ (AsksVersion words × (text ≡ version_line))

-- an error of this kind says that the arguments are no job, and ask for no text
abbrev pub IsFault : ErrorKind → Type 0
IsFault k = (k ≢ kind.DisplayHelp) × (k ≢ kind.DisplayVersion)

-- `clap` finds another fault in the arguments
abbrev pub HasFault : List Text → Type 0
HasFault words = (k : ErrorKind) × IsFault k × IsAmong k (fault_of program words)

-- the arguments are no job, and ask for no text
abbrev pub IsRefused : List Text → Type 0
IsRefused words = HasFault words ⊎ (requested_job words ≡ None)

-- why the arguments are no job; out of memory says nothing about them
abbrev pub Explains : List Text → WordsError → Type 0
Explains words (error.Help text) = AsksText words (string_bytes text)
Explains words error.Refused = IsRefused words
Explains words error.Memory = ⊤

-- ---- steps of the reading

-- the job that was read is the expected one; a refusal comes only if no job is expected
abbrev pub IsExpectedJob : Result Job WordsError → Option Job → Type 0
IsExpectedJob (Ok job) expected = expected ≡ Some job
IsExpectedJob (Err error.Refused) expected = expected ≡ None
IsExpectedJob (Err e) expected = ⊥

-- the meaning of an error of this kind; making its text may run out of memory too
abbrev pub IsErrorFor : ErrorKind → WordsError → Type 0
IsErrorFor k (error.Help text) = (k ≡ kind.DisplayHelp) ⊎ ((k ≡ kind.DisplayVersion) × (string_bytes text ≡ version_line))
IsErrorFor k error.Refused = IsFault k × (k ≢ kind.OutOfMemory)
IsErrorFor k error.Memory = (k ≡ kind.OutOfMemory) ⊎ ((k ≡ kind.DisplayHelp) ⊎ (k ≡ kind.DisplayVersion))
