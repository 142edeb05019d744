-- The progress of a worker with one moment.
use Rattle.std.specs.Prelude.{◌≡◌, ℕ, ⊤, List, [], ◌∷◌, ◌++◌, length, Option, Some, None}
use Rattle.ticket_steps.specs.declared.books.Entry.{Entry}
use Rattle.ticket_steps.specs.History.{entry}
use Rattle.ticket_lock.specs.Callers.{Caller}
use Rattle.check_states.specs.declared.state.Code.{Code}
use Rattle.check_sched.specs.declared.call.Call.{Call}
use Rattle.check_sched.specs.declared.call.Call.TheVariants as call
use Rattle.check_sched.specs.declared.call.Reply.{Reply}
use Rattle.check_sched.specs.declared.call.Reply.TheVariants as reply
use Rattle.check_workers.specs.declared.round.Progress.{Progress}
use Rattle.check_workers.specs.declared.round.Progress.TheVariants as progress
use Rattle.check_workers.specs.declared.tally.Stop.{Stop}
use Rattle.check_workers.specs.declared.tally.Tally.{Tally}
use Rattle.check_workers.specs.Shifts.{HasMadeCalls, IsStopReason, IsRound, OpenCheck, Round, open_entries, open_run, round_entries, unanswered}
use Rattle.check_workers.specs.Tallies.{tally_of}

-- the work of the moment is done: a round
pub record IsDone (allows : ℕ → ℕ → ℕ → Code → Type 0) (now : ℕ) (before after : Caller Call Reply) (tally : Tally) : Type 0 where
  pub round : Round
  pub at : round.now ≡ now
  pub allowed : IsRound allows round
  pub made : HasMadeCalls (round_entries before.own round) 0 before after
  pub counted : tally ≡ tally_of (round_entries before.own round) []

-- a check that was left open was taken at this moment
abbrev pub IsOpenAt : ℕ → Option OpenCheck → Type 0
IsOpenAt now None = ⊤
IsOpenAt now (Some o) = o.now ≡ now

-- a call got no answer: at most a check was taken
pub record IsStopped (now room : ℕ) (stop : Stop) (given : Option (ℕ × ℕ)) (before after : Caller Call Reply) (tally : Tally) : Type 0 where
  pub left_open : Option OpenCheck
  pub run_is : given ≡ open_run left_open
  pub at : IsOpenAt now left_open
  pub made : HasMadeCalls (open_entries before.own left_open) (unanswered (Some stop)) before after
  pub reason : IsStopReason room (length after.seen) after.left (Some stop)
  pub counted : tally ≡ tally_of (open_entries before.own left_open) []

abbrev pub HasProgressed : (ℕ → ℕ → ℕ → Code → Type 0) → ℕ → ℕ → Caller Call Reply → Caller Call Reply → Tally → Progress → Type 0
HasProgressed allows now room before after tally progress.Done = IsDone allows now before after tally
HasProgressed allows now room before after tally (progress.Stopped stop given) = IsStopped now room stop given before after tally

-- ---- the same for the report alone, of a check that was taken at this moment

pub record IsReported (allows : ℕ → ℕ → ℕ → Code → Type 0) (now object run : ℕ) (before after : Caller Call Reply) (tally : Tally) : Type 0 where
  pub code : Code
  pub answer : Reply
  pub allowed : allows object run now code
  pub made : HasMadeCalls (entry before.own (call.Report object run code) answer ∷ []) 0 before after
  pub counted : tally ≡ tally_of (entry before.own (call.Report object run code) answer ∷ []) []

pub record IsUnreported (object run room : ℕ) (stop : Stop) (given : Option (ℕ × ℕ)) (before after : Caller Call Reply) (tally : Tally) : Type 0 where
  pub run_is : given ≡ Some (object, run)
  pub made : HasMadeCalls [] (unanswered (Some stop)) before after
  pub reason : IsStopReason room (length after.seen) after.left (Some stop)
  pub counted : tally ≡ tally_of [] []

abbrev pub HasReported : (ℕ → ℕ → ℕ → Code → Type 0) → ℕ → ℕ → ℕ → ℕ → Caller Call Reply → Caller Call Reply → Tally → Progress → Type 0
HasReported allows now object run room before after tally progress.Done = IsReported allows now object run before after tally
HasReported allows now object run room before after tally (progress.Stopped stop given) = IsUnreported object run room stop given before after tally

-- the history ends in a take that began this run of the object
pub record EndsInTake (object run : ℕ) (history : List (Entry Call Reply)) : Type 0 where
  pub front : List (Entry Call Reply)
  pub pass : ℕ
  pub now : ℕ
  pub is : history ≡ front ++ entry pass (call.Take now) (reply.Taken object run) ∷ []
