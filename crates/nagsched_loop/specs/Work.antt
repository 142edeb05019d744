-- The work of a generation: its rounds, each at a moment of the clock, and how it ended.
use Rattle.std.specs.Prelude.{◌≡◌, ℕ, zero, suc, ◌<◌, ◌⊎◌, List, [], ◌∷◌, ◌++◌, Some}
use Rattle.ticket_steps.specs.declared.books.Entry.{Entry}
use Rattle.ticket_lock.specs.Callers.{Caller}
use Rattle.check_sched.specs.declared.call.Call.{Call}
use Rattle.check_sched.specs.declared.call.Reply.{Reply}
use Rattle.nagsched_loop.specs.Effects.{Effect, HasEffects, asks, reads}
use Rattle.nagsched_loop.specs.Loop.{AreIncomingCalls, IsLoopRound, KeepsRuns, effects_of}
use Rattle.nagsched_loop.specs.declared.environment.End.{End}
use Rattle.nagsched_loop.specs.declared.environment.End.TheVariants as end
use Rattle.nagsched_loop.specs.declared.environment.Event.TheVariants as news
use Rattle.nagsched_loop.specs.declared.runs.Run.{Run}

-- A whole round, at the moment that the clock showed when it began.
pub record IsTimedRound {S : Type 0} (does : S → Effect → S → Type 0) (before after : Caller Call Reply) (runs left : List Run) (s t : S) : Type 0 where
  pub now : ℕ
  pub clock : S
  pub read : does s (reads now) clock
  pub round : IsLoopRound does now before after runs left clock t

-- this many whole rounds, one after another, and nothing between them
abbrev pub AreRounds : {S : Type 0} → (S → Effect → S → Type 0) → ℕ → Caller Call Reply → Caller Call Reply → List Run → List Run → S → S → Type 0
AreRounds does zero before after runs left s t = (after ≡ before) × (left ≡ runs) × (t ≡ s)
AreRounds {S} does (suc n) before after runs left s t =
    (between : Caller Call Reply) × (kept : List Run) × (u : S)
    × AreRounds does n before between runs kept s u × IsTimedRound does between after kept left u t

-- The generation ended for this reason in a round. The event that ends it came in after the calls of these entries; or a call that came in couldn't
-- be made; or the round couldn't abandon a run or take a check. After that the environment was left alone.
pub data EndsRound {S : Type 0} (does : S → Effect → S → Type 0) : End → S → S → Type 0 where
  by_event : {s t : S} → (end : End) → (entries : List (Entry Call Reply))
      → HasEffects does (effects_of entries ++ asks (Some (news.Ends end)) ∷ []) s t → EndsRound does end s t
  by_call : {s t : S} → (entries : List (Entry Call Reply)) → (call : Call)
      → HasEffects does (effects_of entries ++ asks (Some (news.Call call)) ∷ []) s t → EndsRound does end.Renewal s t
  by_round : {s t : S} → (entries : List (Entry Call Reply)) → AreIncomingCalls does entries s t → EndsRound does end.Renewal s t

-- A round was begun at the moment that the clock showed, and the generation ended in it.
pub record IsLastRound {S : Type 0} (does : S → Effect → S → Type 0) (ending : End) (s t : S) : Type 0 where
  pub now : ℕ
  pub clock : S
  pub read : does s (reads now) clock
  pub ends : EndsRound does ending clock t

-- From this caller and these runs on, after this many rounds: all rounds were made, or the generation ended in a further one.
abbrev pub IsWorkEnd : {S : Type 0} → (S → Effect → S → Type 0) → ℕ → ℕ → End → Caller Call Reply → Caller Call Reply → List Run → List Run → S → S → Type 0
IsWorkEnd does rounds count ending before after runs left s t =
    ((count ≡ rounds) × (ending ≡ end.Renewal) × (after ≡ before) × (left ≡ runs) × (t ≡ s))
    ⊎ ((count < rounds) × KeepsRuns before.seen after.seen runs left × IsLastRound does ending s t)

-- The work of a generation of at most this many rounds.
pub record HasWorked {S : Type 0} (does : S → Effect → S → Type 0) (rounds : ℕ) (ending : End) (before after : Caller Call Reply) (runs left : List Run)
    (s t : S) : Type 0 where
  pub count : ℕ
  pub between : Caller Call Reply
  pub kept : List Run
  pub u : S
  pub made : AreRounds does count before between runs kept s u
  pub ended : IsWorkEnd does rounds count ending between after kept left u t
