-- The results for C of saving a state, of resuming one in a book, and of asking for running checks.
use Rattle.std.specs.Prelude.{◌≡◌, ◌≢◌, ◌⊎◌, ◌<◌, ◌≤◌, ◌^◌, ℕ, List, false, is_some, Ok, Err, Option, Some, None, option_and_then, slice_get}
use Rattle.check_objects.specs.Configuration.{object_count}
use Rattle.check_saved_state.specs.Saved.{Saved}
use Rattle.check_saved_state.specs.Scheduling.{OpenRun}
use Rattle.check_saved_state.specs.Text.{saved_of_text, saved_text}
use Rattle.check_saved_state.specs.declared.fault.SavedFault.{SavedFault}
use Rattle.check_saved_state.specs.declared.fault.SavedFault.TheVariants as fault
use Rattle.check_sched.specs.Saved.{saved_of}
use Rattle.check_sched.specs.State.{State}
use Rattle.nagsched_handles.specs.declared.target.HandleTarget.{HandleTarget}
use Rattle.nagsched_handles.specs.Resuming.{IsResumedBook, IsSameSetup, IsSetupTarget}
use Rattle.nagsched_handles.specs.declared.structs.CRefusal.{CRefusal}
use Rattle.nagsched_handles.specs.SavedFaults.{c_fault}
use Rattle.nagsched_c.specs.Texts.{IsTextOutput}
use Rattle.nagsched_c.specs.declared.status.TheConstants.{MISSING, OK, WRONG}

-- the text of a scheduler's saved state was written, or why not
abbrev pub HasSavedText : State → List ℕ → ℕ → ℕ → List ℕ → ℕ → Type 0
HasSavedText sched room before status after bytes = IsTextOutput (saved_text (saved_of sched)) room before status after bytes

-- ---- resuming

-- a setup, in a handle
abbrev pub IsSetupIn : Option HandleTarget → Type 0
IsSetupIn (Some target) = IsSetupTarget target
IsSetupIn None = ⊥

-- all that resuming needs except a saved state and memory: a setup, a start within its limit, and an empty handle for the book
abbrev pub MayResume : ℕ → Option HandleTarget → Option HandleTarget → Type 0
MayResume start setup book = IsSetupIn setup × (start ≤ 2 ^ 60) × (is_some book ≡ false)

-- a setup became the book that resumes the saved state of the text
abbrev pub IsResumedFrom : ℕ → ℕ → List ℕ → HandleTarget → HandleTarget → Type 0
IsResumedFrom start room text before after = (saved : Saved) × (saved_of_text text ≡ Ok saved) × IsResumedBook start room saved before after

-- the same for handles: the setup's is empty, and the book is in the other
abbrev pub HasResumedFrom : ℕ → ℕ → List ℕ → Option HandleTarget → Option HandleTarget → Option HandleTarget → Type 0
HasResumedFrom start room text setup setup' book' =
    (setup' ≡ None) × ((before : HandleTarget) × (after : HandleTarget) × (setup ≡ Some before) × (book' ≡ Some after)
    × IsResumedFrom start room text before after)

-- the struct of the text's first fault, which is never out of memory
abbrev pub IsSavedRefusalOf : List ℕ → CRefusal → Type 0
IsSavedRefusalOf text output = (why : SavedFault) × (saved_of_text text ≡ Err why) × (output ≡ c_fault why) × (why ≢ fault.Memory)

-- nothing was changed, or a setup is unchanged
abbrev pub IsLeft : HandleTarget → HandleTarget → Type 0
IsLeft before after = (after ≡ before) ⊎ IsSameSetup before after

abbrev pub IsLeftIn : Option HandleTarget → Option HandleTarget → Type 0
IsLeftIn setup setup' = (setup' ≡ setup)
    ⊎ ((before : HandleTarget) × (after : HandleTarget) × (setup ≡ Some before) × (setup' ≡ Some after) × IsSameSetup before after)

-- ---- running checks

-- the run of the running check, and the moment at which it began; or no check is running
abbrev pub IsRunOutput : Option OpenRun → ℕ → ℕ → ℕ → ℕ → ℕ → Type 0
IsRunOutput (Some found) run start status run' start' = (status ≡ OK) × (run' ≡ found.number) × (start' ≡ found.start)
IsRunOutput None run start status run' start' = (status ≡ MISSING) × (run' ≡ run) × (start' ≡ start)

-- the running check of the object, if there is one
abbrev pub running_check_of : State → ℕ → Option OpenRun
running_check_of sched object = option_and_then (λ o. o.run) (slice_get sched.objects object)

-- the result for C of the object with this number; or there is no such object, and nothing was written
abbrev pub HasRun : State → ℕ → ℕ → ℕ → ℕ → ℕ → ℕ → Type 0
HasRun sched object run start status run' start' =
    ((object < object_count sched.setup) × IsRunOutput (running_check_of sched object) run start status run' start')
    ⊎ ((object_count sched.setup ≤ object) × (status ≡ WRONG) × (run' ≡ run) × (start' ≡ start))
