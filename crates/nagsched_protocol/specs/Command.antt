-- The words of `run`, and the command that each means with the members after it.
use Rattle.std.specs.Prelude.{ℕ, ◌+◌, Bool, List, Option, Some, None, Result, Ok, Err, ok_or, codes, bytes_eq, if◌then◌else◌}
use Rattle.serde_json.specs.Data.{Data, Items, no_items, item}
use Rattle.serde_json.specs.Find.{as_bool, as_str}
use Rattle.check_objects.specs.JsonTree.{whole_number}
use Rattle.check_objects.specs.Configuration.{Configuration, number_by_name}
use Rattle.check_states.specs.Numbers.{code_of_number}
use Rattle.check_states.specs.declared.state.Code.{Code}
use Rattle.check_sched.specs.declared.call.Call.{Call}
use Rattle.check_sched.specs.declared.call.Call.TheVariants as call
use Rattle.nagsched_protocol.specs.declared.command.RunCommand.{RunCommand}
use Rattle.nagsched_protocol.specs.declared.command.RunCommand.TheVariants as command
use Rattle.nagsched_protocol.specs.declared.refusal.LineFault.{LineFault}
use Rattle.nagsched_protocol.specs.declared.refusal.LineFault.TheVariants as fault
use Rattle.nagsched_protocol.specs.declared.refusal.LineShape.TheVariants as shape
use Rattle.nagsched_protocol.specs.declared.refusal.ValueKind.{ValueKind}
use Rattle.nagsched_protocol.specs.declared.refusal.ValueKind.TheVariants as kind
use Rattle.nagsched_protocol.specs.declared.refusal.Vocabulary.TheVariants as vocabulary
use Rattle.setup_model.specs.Agreement.{◌>>=◌}

-- ---- the members after a word: they are its values, counted from 1

abbrev pub one_of : Items → Option Data
one_of (item a no_items) = Some a
one_of members = None

abbrev pub two_of : Items → Option (Data × Data)
two_of (item a (item b no_items)) = Some (a, b)
two_of members = None

abbrev pub three_of : Items → Option (Data × Data × Data)
three_of (item a (item b (item c no_items))) = Some (a, b, c)
three_of members = None

-- how many there are
abbrev pub value_count : Items → ℕ
value_count no_items = 0
value_count (item d ds) = value_count ds + 1

-- they aren't as many as they have to be
abbrev pub wrong_count : Items → ℕ → LineFault
wrong_count members wanted = fault.Shape (shape.Count (value_count members) wanted)

-- the value with this number isn't of this kind
abbrev pub wrong_kind : ℕ → ValueKind → LineFault
wrong_kind number k = fault.Shape (shape.WrongKind number k)

-- the first value, as a name
abbrev pub name_in : Data → Result (List ℕ) LineFault
name_in d = ok_or (as_str d) (wrong_kind 1 kind.Name)

-- the value with this number, as a number of this kind
abbrev pub number_in : ℕ → ValueKind → Data → Result ℕ LineFault
number_in number k d = ok_or (whole_number d) (wrong_kind number k)

-- the value with this number, as true or false
abbrev pub switch_in : ℕ → Data → Result Bool LineFault
switch_in number d = ok_or (as_bool d) (wrong_kind number kind.Switch)

-- the value with this number, as a return code
abbrev pub code_in : ℕ → Data → Result Code LineFault
code_in number d = number_in number kind.Code d >>= λ digit. ok_or (code_of_number digit) (fault.Code number)

-- the number of the object with this full name
abbrev pub object_named : Configuration → List ℕ → Result ℕ LineFault
object_named c name = ok_or (number_by_name c name) fault.UnknownName

-- ---- one definition per word, over the values after the word: the tests are their number, their kinds in order, the return code, the name

-- `["take",now]`: the next check to run at the moment `now`
abbrev pub take_call : Items → Result Call LineFault
take_call members = ok_or (one_of members) (wrong_count members 1) >>= λ now. (number_in 1 kind.Time now >>= λ n. Ok (call.Take n))

abbrev pub report_of : Configuration → Data → Data → Data → Result Call LineFault
report_of c name run code = name_in name >>= λ n. (number_in 2 kind.Run run >>= λ number. (code_in 3 code >>= λ returned.
    (object_named c n >>= λ object. Ok (call.Report object number returned))))

-- `["report",name,run,code]`: the check of the object `name` that runs under the number `run` returned `code`
abbrev pub report_call : Configuration → Items → Result Call LineFault
report_call c members = ok_or (three_of members) (wrong_count members 3) >>= λ p. report_of c p.0 p.1 p.2

abbrev pub abandon_of : Configuration → Data → Data → Data → Result Call LineFault
abandon_of c name run now = name_in name >>= λ n. (number_in 2 kind.Run run >>= λ number. (number_in 3 kind.Time now >>= λ moment.
    (object_named c n >>= λ object. Ok (call.Abandon object number moment))))

-- `["abandon",name,run,now]`: the check of the object `name` that runs under the number `run` is abandoned at the moment `now`
abbrev pub abandon_call : Configuration → Items → Result Call LineFault
abandon_call c members = ok_or (three_of members) (wrong_count members 3) >>= λ p. abandon_of c p.0 p.1 p.2

abbrev pub reschedule_of : Configuration → Data → Data → Data → Result Call LineFault
reschedule_of c name time forced = name_in name >>= λ n. (number_in 2 kind.Time time >>= λ moment. (switch_in 3 forced >>= λ on.
    (object_named c n >>= λ object. Ok (call.Reschedule object moment on))))

-- `["reschedule",name,time,forced]`: the next check of the object `name` is at the moment `time`, forced or not
abbrev pub reschedule_call : Configuration → Items → Result Call LineFault
reschedule_call c members = ok_or (three_of members) (wrong_count members 3) >>= λ p. reschedule_of c p.0 p.1 p.2

abbrev pub enable_of : Configuration → Data → Data → Result Call LineFault
enable_of c name on = name_in name >>= λ n. (switch_in 2 on >>= λ b. (object_named c n >>= λ object. Ok (call.Enable object b)))

-- `["enable",name,on]`: the active checks of the object `name` are on or off
abbrev pub enable_call : Configuration → Items → Result Call LineFault
enable_call c members = ok_or (two_of members) (wrong_count members 2) >>= λ p. enable_of c p.0 p.1

-- `["status",name]`: the standing of the object `name`
abbrev pub status_call : Configuration → Items → Result Call LineFault
status_call c members = ok_or (one_of members) (wrong_count members 1) >>= λ name. (name_in name >>= λ n.
    (object_named c n >>= λ object. Ok (call.Status object)))

-- `["save"]`: the scheduler's saved state
abbrev pub save_command : Items → Result RunCommand LineFault
save_command no_items = Ok command.Save
save_command members = Err (wrong_count members 0)

-- `["list"]`: all objects
abbrev pub list_command : Items → Result RunCommand LineFault
list_command no_items = Ok command.List
list_command members = Err (wrong_count members 0)

-- ---- all words

-- the call of a word with these members after it
abbrev pub call_by : Configuration → List ℕ → Items → Result Call LineFault
call_by c word members = if bytes_eq word (codes "take") then take_call members
    else (if bytes_eq word (codes "report") then report_call c members
    else (if bytes_eq word (codes "abandon") then abandon_call c members
    else (if bytes_eq word (codes "reschedule") then reschedule_call c members
    else (if bytes_eq word (codes "enable") then enable_call c members
    else (if bytes_eq word (codes "status") then status_call c members else Err (fault.Shape (shape.UnknownWord vocabulary.Run)))))))

-- the command of a word with these members after it: to save, to list, or a call
abbrev pub command_by : Configuration → List ℕ → Items → Result RunCommand LineFault
command_by c word members = if bytes_eq word (codes "save") then save_command members
    else (if bytes_eq word (codes "list") then list_command members else (call_by c word members >>= λ made. Ok (command.Call made)))
