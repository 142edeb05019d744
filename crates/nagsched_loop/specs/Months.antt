-- The facts about generations, restarts and changes of setups that clauses state.
use Rattle.std.specs.Prelude.{◌≡◌, ◌⊎◌, ℕ, false, List, [], ◌∷◌, ◌++◌, flat_map, Contains, Ok, Option, Some, None}
use Rattle.ticket_steps.specs.declared.books.Entry.{Entry}
use Rattle.ticket_steps.specs.History.{IsLegal, replay}
use Rattle.ticket_lock.specs.Callers.{Caller}
use Rattle.check_objects.specs.Configuration.{Configuration}
use Rattle.check_saved_state.specs.Saved.{Saved}
use Rattle.check_saved_state.specs.Text.{saved_of_text, saved_text}
use Rattle.check_sched.specs.Saved.{state_after_resume, saved_of}
use Rattle.check_sched.specs.State.{State, opening, run_number_of}
use Rattle.check_sched.specs.Step.{step}
use Rattle.check_sched.specs.declared.call.Call.{Call}
use Rattle.check_sched.specs.declared.call.Reply.{Reply}
use Rattle.nagsched_loop.specs.Effects.{Effect, reads}
use Rattle.nagsched_loop.specs.Loop.{has_call_for, run_with_limit}
use Rattle.nagsched_loop.specs.Work.{HasWorked}
use Rattle.nagsched_loop.specs.declared.environment.End.{End}
use Rattle.nagsched_loop.specs.declared.environment.End.TheVariants as end
use Rattle.nagsched_loop.specs.declared.runs.Run.{Run}

-- the text of the saved state of a scheduler in this state
abbrev pub saved_text_of : State → List ℕ
saved_text_of state = saved_text (saved_of state)

-- the text is that of the saved state of a scheduler in this state, and is read as that saved state
pub record IsSavedText (state : State) (text : Option (List ℕ)) : Type 0 where
  pub is_text : text ≡ Some (saved_text_of state)
  pub reads_back : saved_of_text (saved_text_of state) ≡ Ok (saved_of state)

-- the state is resumed from this text, over this setup and from this moment on
pub record IsResumedState (setup : Configuration) (text : List ℕ) (start : ℕ) (state : State)
    : Type 0 where
  pub saved : Saved
  pub read : saved_of_text text ≡ Ok saved
  pub resumes : state ≡ state_after_resume setup saved start

-- the state is resumed from the stored text, or is the opening if there is no text
abbrev pub IsFirst : Configuration → Option (List ℕ) → ℕ → State → Type 0
IsFirst setup (Some text) start state = IsResumedState setup text start state
IsFirst setup None start state = state ≡ opening setup start

-- A generation led from one state to another, by a legal history that was handed over. One caller worked at a new desk, and its history is this one.
pub record IsGeneration {S : Type 0} (does : S → Effect → S → Type 0) (past : Configuration → List (Entry Call Reply) → Type 0) (rounds : ℕ) (ending : End)
    (history : List (Entry Call Reply)) (from to : State) (runs left : List Run) (s t : S) : Type 0 where
  pub legal : IsLegal step from history
  pub leads : to ≡ replay step from history
  pub handed_over : past to.setup history
  pub before : Caller Call Reply
  pub after : Caller Call Reply
  pub new : before.seen ≡ []
  pub all : history ≡ after.seen
  pub worked : HasWorked does rounds ending before after runs left s t

-- Generations led from one state to another, one after another. Each of them ended to be renewed.
abbrev pub AreGenerations : {S : Type 0} → (S → Effect → S → Type 0) → (Configuration → List (Entry Call Reply) → Type 0) → ℕ
    → List (List (Entry Call Reply)) → State → State → List Run → List Run → S → S → Type 0
AreGenerations does past rounds [] from to runs left s t = (to ≡ from) × (left ≡ runs) × (t ≡ s)
AreGenerations {S} does past rounds (history ∷ histories) from to runs left s t =
    (next : State) × (kept : List Run) × (u : S) × IsGeneration does past rounds end.Renewal history from next runs kept s u
    × AreGenerations does past rounds histories next to kept left u t

-- the entries of several histories, in order
abbrev pub entries_in : List (List (Entry Call Reply)) → List (Entry Call Reply)
entries_in histories = flat_map (λ history. history) histories

-- Each check that was running in this state is in the list, with this limit, unless the call of one of the entries reports or abandons it.
abbrev pub AreStillListed : State → ℕ → List (Entry Call Reply) → List Run → Type 0
AreStillListed state limit entries runs = (object number : ℕ) → run_number_of object state ≡ Some number
    → has_call_for entries (run_with_limit object number limit) ≡ false → Contains runs (run_with_limit object number limit)

-- A setup is begun over the stored text: the files gave the setup, and its first state is resumed from the text, at the first moment of the clock.
pub record IsBegun {S : Type 0} (does : S → Effect → S → Type 0) (gives : Configuration → Type 0) (stored : Option (List ℕ)) (environment : S)
    (start : ℕ) (first : State) : Type 0 where
  pub clock : S
  pub read : does environment (reads start) clock
  pub setup : Configuration
  pub given : gives setup
  pub is_first : IsFirst setup stored start first

-- A setup was monitored, until a generation ended as another setup or no further one was to be used. It was begun over the stored text, and generations led from its
-- first state to the last one. Of the checks that were running in the first state, none was forgotten.
pub record IsWatched {S : Type 0} (does : S → Effect → S → Type 0) (gives : Configuration → Type 0)
    (past : Configuration → List (Entry Call Reply) → Type 0) (rounds : ℕ) (stored : Option (List ℕ)) (ending : End) (to : State) (runs : List Run)
    (environment t : S) : Type 0 where
  pub ends : (ending ≡ end.Setup) ⊎ (ending ≡ end.Program)
  pub start : ℕ
  pub first : State
  pub begun : IsBegun does gives stored environment start first
  pub histories : List (List (Entry Call Reply))
  pub from : State
  pub listed : List Run
  pub kept : List Run
  pub u : S
  pub lead : AreGenerations does past rounds histories first from listed kept begun.clock u
  pub history : List (Entry Call Reply)
  pub last : IsGeneration does past rounds ending history from to kept runs u t
  pub still_listed : AreStillListed first start (entries_in (histories ++ history ∷ [])) runs

-- Setups were monitored one after another. Each was begun over the text that was stored last, and ended as another setup was to be used.
pub data AreSetups {S : Type 0} (does : S → Effect → S → Type 0) (gives : Configuration → Type 0) (past : Configuration → List (Entry Call Reply) → Type 0)
    (rounds : ℕ) (before : Option (List ℕ)) (s : S) : Option (List ℕ) → S → Type 0 where
  none : AreSetups does gives past rounds before s before s
  more : {last text : Option (List ℕ)} → {u t : S} → (to : State) → (runs : List Run) → AreSetups does gives past rounds before s last u
      → IsWatched does gives past rounds last end.Setup to runs u t → IsSavedText to text → AreSetups does gives past rounds before s text t

-- Setups were monitored one after another, the last of them until the program was to end.
pub record IsMonitored {S : Type 0} (does : S → Effect → S → Type 0) (gives : Configuration → Type 0)
    (past : Configuration → List (Entry Call Reply) → Type 0) (rounds : ℕ) (stored : Option (List ℕ)) (to : State) (s t : S) : Type 0 where
  pub last : Option (List ℕ)
  pub u : S
  pub runs : List Run
  pub setups : AreSetups does gives past rounds stored s last u
  pub watched : IsWatched does gives past rounds last end.Program to runs u t

-- ---- the text that is stored after an error

-- the text of the state at the end of a generation: a legal history led to that state from this one, and was handed over
pub record IsGenerationText (past : Configuration → List (Entry Call Reply) → Type 0) (from : State) (text : Option (List ℕ)) : Type 0 where
  pub history : List (Entry Call Reply)
  pub legal : IsLegal step from history
  pub handed_over : past (replay step from history).setup history
  pub is_saved : IsSavedText (replay step from history) text

-- The text of the state at the end of a generation, after others that were handed over.
pub record IsTextOfGenerations {S : Type 0} (does : S → Effect → S → Type 0) (past : Configuration → List (Entry Call Reply) → Type 0) (rounds : ℕ)
    (first : State) (listed : List Run) (s : S) (text : Option (List ℕ)) : Type 0 where
  pub histories : List (List (Entry Call Reply))
  pub from : State
  pub kept : List Run
  pub u : S
  pub lead : AreGenerations does past rounds histories first from listed kept s u
  pub ended : IsGenerationText past from text

-- The same in the monitoring of a setup that was begun over the text from before.
pub record IsTextOfSetup {S : Type 0} (does : S → Effect → S → Type 0) (gives : Configuration → Type 0)
    (past : Configuration → List (Entry Call Reply) → Type 0) (rounds : ℕ) (before : Option (List ℕ)) (environment : S) (text : Option (List ℕ))
    : Type 0 where
  pub start : ℕ
  pub first : State
  pub listed : List Run
  pub begun : IsBegun does gives before environment start first
  pub ended : IsTextOfGenerations does past rounds first listed begun.clock text

-- The text from before, or that of the state at the end of a generation since then, after any number of setups. Each of the setups was begun over the text
-- that was stored last.
pub data IsTextSince {S : Type 0} (does : S → Effect → S → Type 0) (gives : Configuration → Type 0)
    (past : Configuration → List (Entry Call Reply) → Type 0) (rounds : ℕ) (before : Option (List ℕ)) : Option (List ℕ) → Type 0 where
  unchanged : IsTextSince does gives past rounds before before
  later : {last text : Option (List ℕ)} → (environment : S) → IsTextSince does gives past rounds before last
      → IsTextOfSetup does gives past rounds last environment text → IsTextSince does gives past rounds before text
