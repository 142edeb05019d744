-- The facts about a round of the loop that clauses state.
use Rattle.std.specs.Prelude.{◌≡◌, ℕ, ◌+◌, ◌<◌, ◌≤◌, ◌==◌, ◌&&◌, ◌⊎◌, Bool, false, not, List, [], ◌∷◌, ◌++◌, length, filter, flat_map}
use Rattle.std.specs.Prelude.{Result, Ok, Err, Some, None, Any, Contains, if◌then◌else◌}
use Rattle.std.specs.List.{All, list_any}
use mathlib.Core.List.{IsPrefix}
use Rattle.ticket_steps.specs.declared.books.Entry.{Entry}
use Rattle.ticket_steps.specs.History.{entry}
use Rattle.ticket_lock.specs.Callers.{Caller}
use Rattle.check_sched.specs.State.{State, run_number_of}
use Rattle.check_sched.specs.declared.call.Call.{Call}
use Rattle.check_sched.specs.declared.call.Call.TheVariants as call
use Rattle.check_sched.specs.declared.call.Reply.{Reply}
use Rattle.check_sched.specs.declared.call.Reply.TheVariants as reply
use Rattle.check_desk.specs.Desks.{IsPassOf}
use Rattle.check_desk.specs.Passes.{pass_of}
use Rattle.check_desk.specs.declared.desk.Desk.{Desk}
use Rattle.check_desk.specs.declared.passes.Pass.{Pass}
use Rattle.check_workers.specs.Shifts.{HasMadeCalls}
use Rattle.nagsched_loop.specs.Effects.{Effect, HasEffects, asks, answers, begins, sleeps}
use Rattle.nagsched_loop.specs.declared.environment.Event.TheVariants as news
use Rattle.nagsched_loop.specs.declared.round.GenerationEnd.{GenerationEnd}
use Rattle.nagsched_loop.specs.declared.runs.Run.{Run}

-- ---- runs

-- the run's object is being checked under its number
abbrev pub IsRunning : State → Run → Type 0
IsRunning state run = run_number_of run.object state ≡ Some run.number

-- a run of this object, with this number and this limit
abbrev pub run_with_limit : ℕ → ℕ → ℕ → Run
run_with_limit object number limit = record { object = object; number = number; limit = limit }

-- the limit of a check that was taken at this moment: five minutes later, or at once if its plugin couldn't be started
abbrev pub limit_at : Bool → ℕ → ℕ
limit_at is_begun now = if is_begun then now + 300000 else now

-- whether the call reports or abandons this run
abbrev pub is_call_for : Call → Run → Bool
is_call_for (call.Report object number code) run = (object == run.object) && (number == run.number)
is_call_for (call.Abandon object number now) run = (object == run.object) && (number == run.number)
is_call_for other run = false

-- whether the call of one of the entries reports or abandons this run
abbrev pub has_call_for : List (Entry Call Reply) → Run → Bool
has_call_for entries run = list_any (λ e. is_call_for e.call run) entries

-- the runs that a call leaves, and those that all calls of some entries leave, in their order
abbrev pub runs_after_call : Call → List Run → List Run
runs_after_call asked runs = filter (λ run. not (is_call_for asked run)) runs

abbrev pub runs_after_calls : List (Entry Call Reply) → List Run → List Run
runs_after_calls entries runs = filter (λ run. not (has_call_for entries run)) runs

-- if no call of these entries names a run of the first list, the second list contains the run
abbrev pub KeepsOtherRuns : List (Entry Call Reply) → List Run → List Run → Type 0
KeepsOtherRuns entries before after = All (λ run. has_call_for entries run ≡ false → Contains after run) before

-- from one history that was seen to another, a run leaves the list only by a call that is new
abbrev pub KeepsRuns : List (Entry Call Reply) → List (Entry Call Reply) → List Run → List Run → Type 0
KeepsRuns before after runs left = (new : List (Entry Call Reply)) × (before ++ new ≡ after) × KeepsOtherRuns new runs left

-- ---- passes

-- the pass is of this desk, and no run was lost since this caller had it
abbrev pub IsReturned : Desk → Caller Call Reply → List Run → List Run → Pass → Type 0
IsReturned desk before runs left pass = IsPassOf desk pass × KeepsRuns before.seen (pass_of pass).seen runs left

-- the same for the pass that comes back, at the end of a generation too
abbrev pub IsReturnedResult : Desk → Caller Call Reply → List Run → List Run → Result Pass GenerationEnd → Type 0
IsReturnedResult desk before runs left (Ok pass) = IsReturned desk before runs left pass
IsReturnedResult desk before runs left (Err ended) = IsReturned desk before runs left ended.pass

-- the pass with a reply, or at the end of a generation: it is of this desk, and has seen all that this caller had
abbrev pub IsReturnedWithReply : Desk → Caller Call Reply → Result (Pass × Reply) GenerationEnd → Type 0
IsReturnedWithReply desk before (Ok made) = IsPassOf desk made.0 × IsPrefix before.seen (pass_of made.0).seen
IsReturnedWithReply desk before (Err ended) = IsPassOf desk ended.pass × IsPrefix before.seen (pass_of ended.pass).seen

-- ---- the parts of a round

-- for each of these entries: its call came in, and its reply was handed over
abbrev pub effects_of : List (Entry Call Reply) → List Effect
effects_of entries = flat_map (λ e. asks (Some (news.Call e.call)) ∷ answers e.call e.reply ∷ []) entries

-- The calls of these entries came in, and each was answered: all that had come in, or as many as a round takes.
abbrev pub AreIncomingCalls : {S : Type 0} → (S → Effect → S → Type 0) → List (Entry Call Reply) → S → S → Type 0
AreIncomingCalls does entries s t =
    HasEffects does (effects_of entries ++ asks None ∷ []) s t ⊎ ((length entries ≡ 1000) × HasEffects does (effects_of entries) s t)

-- the caller has made the calls that had come in, and the runs that they name have left the list
pub record HasMadeIncomingCalls {S : Type 0} (does : S → Effect → S → Type 0) (before after : Caller Call Reply)
    (runs left : List Run) (s t : S) : Type 0 where
  pub entries : List (Entry Call Reply)
  pub came : AreIncomingCalls does entries s t
  pub made : HasMadeCalls entries 0 before after
  pub left_are : left ≡ runs_after_calls entries runs

-- the entry's call abandons a run of this list that is past its limit at this moment
abbrev pub IsAbandonment : ℕ → List Run → Entry Call Reply → Type 0
IsAbandonment now runs e =
    (run : Run) × Contains runs run × (run.limit ≤ now) × (e.call ≡ call.Abandon run.object run.number now)

-- the caller has abandoned runs of the list that are past their limit, and they have left it; it made no other call
pub record HasAbandoned (now : ℕ) (before after : Caller Call Reply) (runs left : List Run) : Type 0 where
  pub entries : List (Entry Call Reply)
  pub are_abandonments : All (IsAbandonment now runs) entries
  pub made : HasMadeCalls entries 0 before after
  pub left_are : left ≡ runs_after_calls entries runs

-- if the reply is that a check was taken at this moment, its plugin was to be started, and its run was added to the list
abbrev pub HasBegunCheck : {S : Type 0} → (S → Effect → S → Type 0) → ℕ → Reply → List Run → List Run → S → S → Type 0
HasBegunCheck does now (reply.Taken object number) before after s t =
    (is_begun : Bool) × does s (begins object number now is_begun) t
    × (after ≡ before ++ run_with_limit object number (limit_at is_begun now) ∷ [])
HasBegunCheck does now other before after s t = (after ≡ before) × (s ≡ t)

-- ---- sleeping

-- the time until which to sleep after this reply, by the reply alone
abbrev pub due_after : ℕ → Reply → ℕ
due_after now (reply.Idle (Some time)) = time
due_after now reply.AtLimit = now + 1000
due_after now other = now + 3600000

-- the earliest of that moment and the runs' limits
pub record IsWakeTime (now : ℕ) (answer : Reply) (runs : List Run) (until : ℕ) : Type 0 where
  pub due_time : until ≤ due_after now answer
  pub limits : All (λ run. until ≤ run.limit) runs
  pub earliest : (until ≡ due_after now answer) ⊎ Any (λ run. until ≡ run.limit) runs

-- if no check was taken or put off, the loop has slept until then, once
abbrev pub HasSlept : {S : Type 0} → (S → Effect → S → Type 0) → ℕ → Reply → List Run → S → S → Type 0
HasSlept does now (reply.Taken object number) runs s t = s ≡ t
HasSlept does now (reply.PutOff object until) runs s t = s ≡ t
HasSlept does now other runs s t = (until : ℕ) × IsWakeTime now other runs until × does s (sleeps until) t

-- ---- a round

-- A round at this moment that ended well: the calls that came in, then the runs that were abandoned, then a take, and then sleep.
pub record IsLoopRound {S : Type 0} (does : S → Effect → S → Type 0) (now : ℕ) (before after : Caller Call Reply)
    (runs left : List Run) (s t : S) : Type 0 where
  pub incoming : List (Entry Call Reply)
  pub abandoned : List (Entry Call Reply)
  pub answer : Reply
  pub asked : S
  pub begun : S
  pub came : AreIncomingCalls does incoming s asked
  pub are_abandonments : All (IsAbandonment now (runs_after_calls incoming runs)) abandoned
  pub in_time : All (λ run. now < run.limit) (runs_after_calls (incoming ++ abandoned) runs)
  pub made : HasMadeCalls (incoming ++ abandoned ++ entry before.own (call.Take now) answer ∷ []) 0 before after
  pub taken : HasBegunCheck does now answer (runs_after_calls (incoming ++ abandoned) runs) left asked begun
  pub slept : HasSlept does now answer left begun t
