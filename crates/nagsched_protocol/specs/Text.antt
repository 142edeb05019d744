-- The text that a run writes: a function of how its scheduler starts and of the input. The wording of each line is defined once, here.
use Rattle.std.specs.Prelude.{ℕ, Bool, true, false, if◌then◌else◌, List, [], ◌∷◌, ◌++◌, Option, Some, None, Result, Ok, Err, codes, decimal, flat_map, length}
use Rattle.std.specs.List.{range_with_len}
use Rattle.ticket_steps.specs.declared.books.Entry.{Entry}
use Rattle.check_objects.specs.Configuration.{Configuration, name_of, object_count}
use Rattle.setup_model.specs.declared.error.LoadError.{LoadError}
use Rattle.setup_model.specs.declared.place.Place.{Place}
use Rattle.setup_model.specs.LoadError.{error_reason, place_of}
use Rattle.setup_model.specs.Members.{part_name}
use Rattle.check_states.specs.declared.standing.Standing.{Standing}
use Rattle.check_states.specs.Words.{kind_word, state_word}
use Rattle.check_sched.specs.declared.call.Call.{Call}
use Rattle.check_sched.specs.declared.call.Call.TheVariants as call
use Rattle.check_sched.specs.declared.call.Reply.{Reply}
use Rattle.check_sched.specs.ReplyTable as row
use Rattle.check_sched.specs.ReplyTable.{row_of}
use Rattle.check_saved_state.specs.Text.{saved_text}
use Rattle.check_saved_state.specs.Words.{flapping_word}
use Rattle.check_saved_state.specs.declared.fault.SavedFault.{SavedFault}
use Rattle.check_saved_state.specs.declared.fault.SavedFault.TheVariants as saved
use Rattle.check_sched.specs.Saved.{saved_of}
use Rattle.check_sched.specs.State.{State, next_of, run_number_of, standing_at}
use Rattle.check_sched.specs.Step.{step}
use Rattle.nagsched_protocol.specs.declared.command.RunCommand.{RunCommand}
use Rattle.nagsched_protocol.specs.declared.command.RunCommand.TheVariants as command
use Rattle.nagsched_protocol.specs.declared.refusal.LineFault.{LineFault}
use Rattle.nagsched_protocol.specs.declared.refusal.LineFault.TheVariants as fault
use Rattle.nagsched_protocol.specs.declared.refusal.InputRefusal.{InputRefusal}
use Rattle.nagsched_protocol.specs.declared.refusal.InputRefusal.TheVariants as refusal
use Rattle.nagsched_protocol.specs.declared.start.Start.{Start}
use Rattle.nagsched_protocol.specs.Script.{Script, script_of}

-- a line: its text, ended by a line feed
abbrev pub line_of : List ℕ → List ℕ
line_of text = text ++ 10 ∷ []

-- a number, as a time in milliseconds, or `none`
abbrev pub time_text : Option ℕ → List ℕ
time_text (Some time) = decimal time
time_text None = codes "none"

-- ---- what answers contain

-- A field of an answer. Its name is that of a member in JSON; words have no names.
pub data Field : Type 0 where
  -- a number
  number_field : List ℕ → ℕ → Field
  -- a time in milliseconds, if there is one
  time_field : List ℕ → Option ℕ → Field
  -- a text
  text_field : List ℕ → List ℕ → Field
  -- true or false, and the word for it
  flag_field : List ℕ → Bool → List ℕ → Field
  -- the code and the name of a refusal, with a space between them
  refusal_field : List ℕ → Field

-- an answer: its kind and its fields, in their order
pub record Answer : Type 0 where
  pub kind : List ℕ
  pub fields : List Field

-- a field in words
abbrev pub field_words : Field → List ℕ
field_words (number_field name n) = decimal n
field_words (time_field name time) = time_text time
field_words (text_field name text) = text
field_words (flag_field name flag word) = word
field_words (refusal_field reason) = reason

-- these fields in words, with a space between two of them
abbrev pub words_from : Field → List Field → List ℕ
words_from f [] = field_words f
words_from f (g ∷ gs) = field_words f ++ (codes " " ++ words_from g gs)

-- the fields after the kind
abbrev pub words_after_kind : List Field → List ℕ
words_after_kind [] = []
words_after_kind (f ∷ fs) = codes " " ++ words_from f fs

-- an answer in words
abbrev pub answer_words : Answer → List ℕ
answer_words a = a.kind ++ words_after_kind a.fields

-- ---- replies

-- the full name of an object
abbrev pub name_field : List ℕ → Field
name_field name = text_field (codes "name") name

-- the time of the next check, if there is one
abbrev pub next_field : Option ℕ → Field
next_field next = time_field (codes "next_check") next

-- the state of an object, or PENDING if it was never checked
abbrev pub state_text : Standing → List ℕ
state_text s = if s.checked then state_word s.state else codes "PENDING"

-- whether a state differs from the one before
abbrev pub changed_word : Bool → List ℕ
changed_word true = codes "yes"
changed_word false = codes "no"

abbrev pub state_field : Standing → Field
state_field s = text_field (codes "state") (state_text s)

abbrev pub kind_field : Standing → Field
kind_field s = text_field (codes "kind") (kind_word s.kind)

abbrev pub attempt_field : Standing → Field
attempt_field s = number_field (codes "attempt") s.attempt

abbrev pub flapping_field : Standing → Field
flapping_field s = flag_field (codes "flapping") s.flapping (flapping_word s.flapping)

abbrev pub changed_field : Bool → Field
changed_field changed = flag_field (codes "changed") changed (changed_word changed)

-- the full name of the object that a call asks for, or nothing if it asks for no object
abbrev pub asked_name : Configuration → Call → List ℕ
asked_name c (call.Take now) = []
asked_name c (call.Report object run code) = name_of c object
asked_name c (call.Abandon object run now) = name_of c object
asked_name c (call.Reschedule object time forced) = name_of c object
asked_name c (call.Enable object on) = name_of c object
asked_name c (call.Status object) = name_of c object

-- a refusal for this reason
abbrev pub refused_text : List ℕ → List ℕ
refused_text reason = codes "refused " ++ reason

-- The fields of an answer for one of a reply. An object is named by its full name.
abbrev pub answer_fields : Configuration → Call → row.Field → List Field
answer_fields c asked (row.run n) = number_field (codes "run") n ∷ []
answer_fields c asked (row.object i) = name_field (name_of c i) ∷ []
answer_fields c asked row.asked_object = name_field (asked_name c asked) ∷ []
answer_fields c asked (row.next_check next) = next_field next ∷ []
answer_fields c asked (row.standing s changed) = state_field s ∷ kind_field s ∷ attempt_field s ∷ changed_field changed ∷ flapping_field s ∷ []
answer_fields c asked (row.reason why) = refusal_field why ∷ []

-- the answer to a call, by the row of its reply
abbrev pub answer_by_row : Configuration → Call → row.Row → Answer
answer_by_row c asked r = record { kind = r.word; fields = flat_map (answer_fields c asked) r.fields }

abbrev pub answer_of : Configuration → Call → Reply → Answer
answer_of c asked r = answer_by_row c asked (row_of r)

-- the text of the reply to a call, in words
abbrev pub reply_text : Configuration → Call → Reply → List ℕ
reply_text c asked r = answer_words (answer_of c asked r)

abbrev pub reply_line : Configuration → Call → Reply → List ℕ
reply_line c asked r = line_of (reply_text c asked r)

-- ---- refusals of the input

abbrev pub index_text : Option ℕ → List ℕ
index_text None = []
index_text (Some i) = codes " " ++ decimal i

-- a place in a setup document: the part, and the index if there is one
abbrev pub document_place_text : Place → List ℕ
document_place_text p = part_name p.part ++ index_text p.index

-- a reason, and the place in a setup document if there is one
abbrev pub with_place : List ℕ → Option Place → List ℕ
with_place reason None = reason
with_place reason (Some p) = reason ++ (codes " " ++ document_place_text p)

-- the fault of a setup document
abbrev pub load_error_text : LoadError → List ℕ
load_error_text e = with_place (error_reason e) (place_of e)

-- The code and the name of the fault of a saved state. Out of memory isn't a fault of it, and is never the refusal of an input.
abbrev pub saved_fault_reason : SavedFault → List ℕ
saved_fault_reason saved.TooLong = codes "K1 TooLong"
saved_fault_reason saved.NotJson = codes "K2 NotJson"
saved_fault_reason saved.Version = codes "K3 Version"
saved_fault_reason (saved.Shape index) = codes "K4 Shape"
saved_fault_reason saved.TooMany = codes "K5 TooMany"
saved_fault_reason (saved.BadName index) = codes "K6 BadName"
saved_fault_reason (saved.Duplicate index) = codes "K7 Duplicate"
saved_fault_reason (saved.Range index) = codes "K8 Range"
saved_fault_reason (saved.Unlawful index) = codes "K9 Unlawful"
saved_fault_reason saved.Memory = codes "Memory"

-- the saved object that has the fault, if it is one object's
abbrev pub saved_fault_index : SavedFault → Option ℕ
saved_fault_index (saved.Shape index) = index
saved_fault_index (saved.BadName index) = Some index
saved_fault_index (saved.Duplicate index) = Some index
saved_fault_index (saved.Range index) = index
saved_fault_index (saved.Unlawful index) = Some index
saved_fault_index e = None

-- the fault of a saved state
abbrev pub saved_fault_text : SavedFault → List ℕ
saved_fault_text e = saved_fault_reason e ++ index_text (saved_fault_index e)

-- the fault of a line of a script
abbrev pub line_fault_text : LineFault → List ℕ
line_fault_text fault.TooLong = codes "S1 TooLong"
line_fault_text fault.NotJson = codes "S2 NotJson"
line_fault_text (fault.Shape why) = codes "S3 Shape"
line_fault_text (fault.Code value) = codes "S4 Code"
line_fault_text fault.UnknownName = codes "S5 UnknownName"

-- why an input is refused, and at which place
abbrev pub input_refusal_text : InputRefusal → List ℕ
input_refusal_text (refusal.Setup e) = load_error_text e
input_refusal_text (refusal.Saved e) = saved_fault_text e
input_refusal_text (refusal.Line f n) = line_fault_text f ++ (codes " " ++ decimal n)

abbrev pub refusal_line : InputRefusal → List ℕ
refusal_line r = line_of (refused_text (input_refusal_text r))

-- ---- the whole text

-- the line of the reply to a call, in this state
abbrev pub line_from : State → Call → List ℕ
line_from s c = reply_line s.setup c (step s c).1

-- the line of the saved state of a scheduler in this state
unfoldable pub saved_line : State → List ℕ
saved_line s = line_of (codes "saved " ++ saved_text (saved_of s))

-- the standing of the object with this full name, the time of its next check, and the number of the run under which it is being checked
abbrev pub listed_answer : Standing → Option ℕ → Option ℕ → List ℕ → Answer
listed_answer s next run name = record {
  kind = codes "object";
  fields = state_field s ∷ kind_field s ∷ attempt_field s ∷ flapping_field s ∷ next_field next ∷ time_field (codes "run") run ∷ name_field name ∷ [];
}

abbrev pub listed_text : Standing → Option ℕ → Option ℕ → List ℕ → List ℕ
listed_text s next run name = answer_words (listed_answer s next run name)

-- the object with this number, in this state
abbrev pub listed_object : State → ℕ → Answer
listed_object s number = listed_answer (standing_at s.standings number) (next_of number s) (run_number_of number s) (name_of s.setup number)

-- the line of the object with this number, in this state
abbrev pub listed_line : State → ℕ → List ℕ
listed_line s number = line_of (answer_words (listed_object s number))

-- The lines of all objects in this state: the number of objects, and then each object by number.
unfoldable pub list_lines : State → List ℕ
list_lines s = line_of (codes "listed " ++ decimal (object_count s.setup)) ++ flat_map (listed_line s) (range_with_len 0 (object_count s.setup))

-- The answer to a command, in this state: the line of the reply to a call, for `save` the line of the state itself, and for `list` the lines of all
-- objects.
abbrev pub answer_line : State → RunCommand → List ℕ
answer_line s (command.Call call) = line_from s call
answer_line s command.Save = saved_line s
answer_line s command.List = list_lines s

-- the state after the command: `save` and `list` leave it as it is
abbrev pub state_after_command : State → RunCommand → State
state_after_command s (command.Call call) = (step s call).0
state_after_command s command.Save = s
state_after_command s command.List = s

-- the lines of the answers to the commands, from this state on
abbrev pub text_from : State → List RunCommand → List ℕ
text_from s [] = []
text_from s (c ∷ cs) = answer_line s c ++ text_from (state_after_command s c) cs

-- the text of a script, or of the refusal of its input
abbrev pub script_text : Result Script InputRefusal → List ℕ
script_text (Ok s) = text_from s.state s.commands
script_text (Err r) = refusal_line r

-- The text that a run writes on the input, by how its scheduler starts. It is the line of the input's first refusal, or the lines of the answers to its
-- commands, in order.
unfoldable pub text : Start → List ℕ → List ℕ
text how input = script_text (script_of how input)

-- ---- the text of a drill

-- the line of an entry: the number of the pass that made the call, and the line of the reply
abbrev pub entry_line : Configuration → Entry Call Reply → List ℕ
entry_line c e = decimal e.pass ++ (codes " " ++ reply_line c e.call e.reply)

-- the number of entries, and the number of calls that were refused when out of memory
abbrev pub total_text : ℕ → ℕ → List ℕ
total_text entries refused = codes "total " ++ (decimal entries ++ (codes " " ++ decimal refused))

abbrev pub total_line : ℕ → ℕ → List ℕ
total_line entries refused = line_of (total_text entries refused)

-- The text that a drill writes for a history: the lines of its entries, in order, and then the total.
abbrev pub drill_text : Configuration → List (Entry Call Reply) → ℕ → List ℕ
drill_text c entries refused = flat_map (entry_line c) entries ++ total_line (length entries) refused
