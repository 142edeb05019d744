-- The work of a worker at its moments, as its entries in the history show it: rounds, and how its shift ended.
use Rattle.std.specs.Prelude.{◌≡◌, ℕ, ◌+◌, ◌≤◌, ◌<◌, ⊤, List, [], ◌∷◌, ◌++◌, length, map, flat_map, Option, Some, None}
use Rattle.std.specs.List.{All}
use mathlib.Core.List.{IsPrefix}
use Rattle.ticket_steps.specs.declared.books.Entry.{Entry}
use Rattle.ticket_steps.specs.History.{entry, of}
use Rattle.ticket_steps.specs.Sums.{occurrences}
use Rattle.ticket_lock.specs.Callers.{Caller}
use Rattle.check_states.specs.declared.state.Code.{Code}
use Rattle.check_sched.specs.declared.call.Call.{Call}
use Rattle.check_sched.specs.declared.call.Call.TheVariants as call
use Rattle.check_sched.specs.declared.call.Reply.{Reply}
use Rattle.check_sched.specs.declared.call.Reply.TheVariants as reply
use Rattle.check_workers.specs.declared.tally.Stop.{Stop}
use Rattle.check_workers.specs.declared.tally.Stop.TheVariants as stop

-- ---- a round: the work of one moment

-- The reply to the take of this moment. If it began a run, also the code that the plugin gave and the reply to its report.
pub record Round : Type 0 where
  pub now : ℕ
  pub reply : Reply
  pub result : Option (Code × Reply)

-- the report of the run that this reply began
abbrev pub report_entries : ℕ → Reply → Option (Code × Reply) → List (Entry Call Reply)
report_entries number (reply.Taken object run) (Some (code, answer)) = entry number (call.Report object run code) answer ∷ []
report_entries number other result = []

-- the entries of a round, under this pass number
abbrev pub round_entries : ℕ → Round → List (Entry Call Reply)
round_entries number r = entry number (call.Take r.now) r.reply ∷ report_entries number r.reply r.result

-- if the take of this moment began a run, its result is a code that the plugin allows; otherwise there is no result
abbrev pub IsResult : (ℕ → ℕ → ℕ → Code → Type 0) → ℕ → Reply → Option (Code × Reply) → Type 0
IsResult allows now (reply.Taken object run) (Some (code, answer)) = allows object run now code
IsResult allows now (reply.Taken object run) None = ⊥
IsResult allows now other result = result ≡ None

-- a round with a plugin that allows these codes
abbrev pub IsRound : (ℕ → ℕ → ℕ → Code → Type 0) → Round → Type 0
IsRound allows r = IsResult allows r.now r.reply r.result

-- ---- a shift: the work of one worker

-- A check that was taken at this moment, and whose result could not be reported.
pub record OpenCheck : Type 0 where
  pub now : ℕ
  pub object : ℕ
  pub run : ℕ

-- The rounds of a worker in order, the check that it left open, if any, and why it stopped early, if it did.
pub record Shift : Type 0 where
  pub number : ℕ
  pub rounds : List Round
  pub left_open : Option OpenCheck
  pub stopped : Option Stop

abbrev pub open_entries : ℕ → Option OpenCheck → List (Entry Call Reply)
open_entries number None = []
open_entries number (Some o) = entry number (call.Take o.now) (reply.Taken o.object o.run) ∷ []

abbrev pub open_moments : Option OpenCheck → List ℕ
open_moments None = []
open_moments (Some o) = o.now ∷ []

-- the entries of a shift, in order
abbrev pub shift_entries : Shift → List (Entry Call Reply)
shift_entries s = flat_map (round_entries s.number) s.rounds ++ open_entries s.number s.left_open

-- the moments at which a check was asked for, and answered
abbrev pub shift_moments : Shift → List ℕ
shift_moments s = map (λ r. r.now) s.rounds ++ open_moments s.left_open

-- a list of at most one stop
abbrev pub stops_of : Option Stop → List Stop
stops_of None = []
stops_of (Some why) = why ∷ []

-- the object and the run of a check that was left open
abbrev pub open_run : Option OpenCheck → Option (ℕ × ℕ)
open_run None = None
open_run (Some o) = Some (o.object, o.run)

-- A shift over these moments, with a plugin that allows these codes. Its rounds are those of the first moments in order. If it didn't stop early,
-- they are those of all moments. A check is left open only if the shift stopped early.
pub record IsShift (allows : ℕ → ℕ → ℕ → Code → Type 0) (moments : List ℕ) (s : Shift) : Type 0 where
  pub rounds : All (IsRound allows) s.rounds
  pub in_order : IsPrefix (shift_moments s) moments
  pub all : s.stopped ≡ None → shift_moments s ≡ moments
  pub none_open : s.stopped ≡ None → s.left_open ≡ None
  -- a worker that stopped early has some moment's work left
  pub early : (why : Stop) → s.stopped ≡ Some why → length s.rounds < length moments

-- the number of calls that got no answer if the shift ended like this
abbrev pub unanswered : Option Stop → ℕ
unanswered (Some stop.NoMemory) = 1
unanswered other = 0

-- A worker stops early only if there is no memory for an entry, and its history has reached the room, or if it has no call left.
abbrev pub IsStopReason : ℕ → ℕ → ℕ → Option Stop → Type 0
IsStopReason room recorded left (Some stop.NoMemory) = room ≤ recorded
IsStopReason room recorded left (Some stop.Spent) = left ≡ 0
IsStopReason room recorded left None = ⊤

-- ---- the calls of callers

-- A caller has made this many more calls, and these entries of its own are the new entries of the numbers for which it answers.
pub record HasMadeCalls (entries : List (Entry Call Reply)) (unanswered : ℕ) (before after : Caller Call Reply) : Type 0 where
  pub own : after.own ≡ before.own
  pub numbers : after.numbers ≡ before.numbers
  pub seen : IsPrefix before.seen after.seen
  pub new : (number : ℕ) → 0 < occurrences number before.numbers → of number after.seen ≡ of number before.seen ++ of number entries
  pub calls : after.calls ≡ before.calls + length entries + unanswered
  pub left : before.left ≡ after.left + length entries + unanswered

-- A worker's caller has worked this shift on these moments, over a desk with this room.
pub record HasWorkedShift (allows : ℕ → ℕ → ℕ → Code → Type 0) (moments : List ℕ) (room : ℕ) (s : Shift) (before after : Caller Call Reply) : Type 0 where
  pub number : s.number ≡ before.own
  pub shift : IsShift allows moments s
  pub made : HasMadeCalls (shift_entries s) (unanswered s.stopped) before after
  pub reason : IsStopReason room (length after.seen) after.left s.stopped
