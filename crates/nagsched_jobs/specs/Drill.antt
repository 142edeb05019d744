-- The history that the workers of a drill leave, and the text that a drill writes.
use Rattle.std.specs.Prelude.{◌≡◌, ◌≢◌, ◌⊎◌, ℕ, ◌+◌, ◌<◌, ◌≤◌, ⊤, List, [], ◌∷◌, filter_map, length, Option, Result, Ok, Err, IfErr, IfOk, IfSome}
use Rattle.std.specs.Prelude.{OnErr, OnOk}
use Rattle.std.specs.Io.KnownBytes.{Appends, Keeps}
use Rattle.ticket_steps.specs.declared.books.Entry.{Entry}
use Rattle.ticket_steps.specs.History.{of, IsLegal}
use Rattle.check_states.specs.declared.state.Code.{Code}
use Rattle.check_sched.specs.declared.call.Call.{Call}
use Rattle.check_sched.specs.declared.call.Reply.{Reply}
use Rattle.check_sched.specs.State.{opening}
use Rattle.check_sched.specs.Step.{step}
use Rattle.check_workers.specs.Shifts.{IsShift, Shift, shift_entries}
use Rattle.nagsched_protocol.specs.declared.drive_error.DriveError.{DriveError}
use Rattle.nagsched_protocol.specs.declared.drive_error.DriveError.TheVariants as errors
use Rattle.nagsched_protocol.specs.declared.outcome.Outcome.{Outcome}
use Rattle.nagsched_protocol.specs.declared.refusal.InputRefusal.{InputRefusal}
use Rattle.nagsched_protocol.specs.DrillScript.{DrillScript, drill_script_of}
use Rattle.nagsched_protocol.specs.Notes.{note_of}
use Rattle.nagsched_protocol.specs.Streams.{HasRead, IsInput, outcome_by}
use Rattle.nagsched_protocol.specs.Streams.{Streams}
use Rattle.nagsched_protocol.specs.Output.{WroteFront, WroteLinesUpTo}
use Rattle.nagsched_jobs.specs.ScriptedCodes.{scripted_code}
use Rattle.nagsched_protocol.specs.Text.{drill_text, refusal_line}

-- the plugin of a drill gives the scripted code and no other, at any moment
abbrev pub returns_scripted : List (List Code) → ℕ → ℕ → ℕ → Code → Type 0
returns_scripted codes object run now code = code ≡ scripted_code codes object run

-- The entries of the pass with this number are those of this shift. They are a take for each moment in order, and after each check that was taken its
-- report with the scripted code. If the worker stopped early, they are only a beginning of that.
pub record IsWorkerOf (s : DrillScript) (number : ℕ) (entries : List (Entry Call Reply)) (shift : Shift) : Type 0 where
  pub number_is : shift.number ≡ number
  pub worked : IsShift (returns_scripted s.returns) s.moments shift
  pub entries_are : entries ≡ shift_entries shift

-- these are the shifts of the passes from this number on, in order
abbrev pub AreWorkersOf : DrillScript → List (Entry Call Reply) → ℕ → List Shift → Type 0
AreWorkersOf s history number [] = ⊤
AreWorkersOf s history number (shift ∷ shifts) = IsWorkerOf s number (of number history) shift × AreWorkersOf s history (number + 1) shifts

-- the number of shifts that stopped early
abbrev pub stop_count : List Shift → ℕ
stop_count shifts = length (filter_map (λ shift. shift.stopped) shifts)

-- A history that this many workers can leave over a script, from this start and with this room. With it comes the number of calls that were refused
-- when out of memory.
pub record IsDrill (s : DrillScript) (start workers room : ℕ) (history : List (Entry Call Reply)) (refused : ℕ) : Type 0 where
  -- it is that of one thread
  pub legal : IsLegal step (opening s.setup start) history
  -- the pass numbers are those below the number of workers
  pub numbers : (number : ℕ) → workers ≤ number → of number history ≡ []
  -- each worker has worked a shift
  pub shifts : List Shift
  pub one_each : length shifts ≡ workers
  pub each : AreWorkersOf s history 0 shifts
  -- a worker stops at its first call without memory, and there are no other refusals
  pub refusals : refused ≡ stop_count shifts
  -- no call is refused below the room
  pub within_room : length history < room → refused ≡ 0

-- the text of a history that the workers can leave over this script
pub record IsDrillText (s : DrillScript) (start workers room : ℕ) (text : List ℕ) : Type 0 where
  pub history : List (Entry Call Reply)
  pub refused : ℕ
  pub drill : IsDrill s start workers room history refused
  pub text_is : text ≡ drill_text s.setup history refused

-- a text that a drill can write over a script or the input's refusal
abbrev pub IsTextBy : ℕ → ℕ → ℕ → Result DrillScript InputRefusal → List ℕ → Type 0
IsTextBy start workers room (Ok s) text = IsDrillText s start workers room text
IsTextBy start workers room (Err r) text = text ≡ refusal_line r

-- A text that a drill can write on the input: the line of its first refusal, or the lines of a history and its total.
abbrev pub IsTextOf : ℕ → ℕ → ℕ → List ℕ → List ℕ → Type 0
IsTextOf start workers room input text = IsTextBy start workers room (drill_script_of input) text

-- whether a drill on the input lets workers work or refuses it
abbrev pub drill_outcome : List ℕ → Outcome
drill_outcome input = outcome_by (drill_script_of input)

-- what a drill on the input notes
unfoldable pub drill_note : List ℕ → List ℕ
drill_note input = note_of input (drill_script_of input)

-- such a text was written, whole
pub record WroteDrill (start workers room : ℕ) (input : List ℕ) (held holds : Option (List ℕ)) : Type 0 where
  pub text : List ℕ
  pub is_text : IsTextOf start workers room input text
  pub written : Appends held holds text

-- a prefix of such a text was written
pub record WroteDrillFront (start workers room : ℕ) (input : List ℕ) (held holds : Option (List ℕ)) : Type 0 where
  pub text : List ℕ
  pub is_text : IsTextOf start workers room input text
  pub written : WroteFront held holds text

-- whole lines from the beginning of such a text were written, and not all of it
pub record WroteDrillPart (start workers room : ℕ) (input : List ℕ) (held holds : Option (List ℕ)) : Type 0 where
  pub text : List ℕ
  pub is_text : IsTextOf start workers room input text
  pub rest : List ℕ
  pub is_missing : rest ≢ []
  pub written : WroteLinesUpTo held holds text rest

-- nothing was written, or whole lines from the beginning of such a text that aren't all of it
abbrev pub WroteDrillShort : ℕ → ℕ → ℕ → List ℕ → Option (List ℕ) → Option (List ℕ) → Type 0
WroteDrillShort start workers room input held holds = Keeps held holds ⊎ WroteDrillPart start workers room input held holds

-- The output of a drill on an input that was read, by how the drill ended. Without an error it is such a text. After an error it is nothing or a prefix
-- of such a text. Out of memory this prefix is whole lines, and not all of the text. The error isn't a fault of a reader.
pub record IsDrillWritten (start workers room : ℕ) (input : List ℕ) (ended : Result Outcome DriveError) (held holds : Option (List ℕ)) : Type 0 where
  pub written : OnOk ended (WroteDrill start workers room input held holds)
  pub front : OnErr ended (Keeps held holds ⊎ WroteDrillFront start workers room input held holds)
  pub kind : IfErr ended (λ e. e ≢ errors.Read)
  pub short : IfErr ended (λ e. e ≡ errors.Memory → WroteDrillShort start workers room input held holds)

-- The output that an error of a drill leaves. After a fault of the reader it is nothing. After any other error it is nothing, or the input was read and
-- the output is a prefix of a text that a drill can write on it; out of memory the prefix is whole lines, and not all of the text.
abbrev pub LeavesDrill : DriveError → ℕ → ℕ → ℕ → List ℕ → Streams → Type 0
LeavesDrill errors.Read start workers room input io = Keeps io.held io.holds
LeavesDrill errors.Write start workers room input io =
    Keeps io.held io.holds ⊎ (IfSome io.had (HasRead io.had io.left) × WroteDrillFront start workers room input io.held io.holds)
LeavesDrill errors.Memory start workers room input io =
    Keeps io.held io.holds ⊎ (IfSome io.had (HasRead io.had io.left) × WroteDrillPart start workers room input io.held io.holds)

-- A drill that ended like this is a drill on one input, even if the reader and the writer aren't known. It let workers work over that input or refused
-- it, and wrote such a text on it.
pub record DrillEnded (start workers room : ℕ) (ended : Result Outcome DriveError) (io : Streams) : Type 0 where
  pub input : List ℕ
  pub is_input : IsInput io.had input
  pub outcome_is : IfOk ended (λ outcome. outcome ≡ drill_outcome input)
  pub written : OnOk ended (WroteDrill start workers room input io.held io.holds)
  pub read : OnOk ended (IfSome io.had (HasRead io.had io.left))
  pub fault : IfErr ended (λ e. LeavesDrill e start workers room input io)
