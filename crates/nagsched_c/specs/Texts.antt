-- The texts that C gets.
use Rattle.std.specs.Prelude.{◌≡◌, ◌≢◌, ◌⊎◌, ℕ, List}
use Rattle.ticket_steps.specs.declared.books.Entry.{Entry}
use Rattle.setup_model.specs.declared.error.LoadError.{LoadError}
use Rattle.setup_model.specs.declared.error.LoadError.TheVariants as load
use Rattle.check_objects.specs.Configuration.{Configuration}
use Rattle.check_sched.specs.declared.call.Call.{Call}
use Rattle.check_sched.specs.declared.call.Reply.{Reply}
use Rattle.nagsched_protocol.specs.declared.refusal.InputRefusal.TheVariants as refusal
use Rattle.check_saved_state.specs.declared.fault.SavedFault.{SavedFault}
use Rattle.check_saved_state.specs.declared.fault.SavedFault.TheVariants as fault
use Rattle.nagsched_protocol.specs.Text.{entry_line, refusal_line, reply_line}
use Rattle.nagsched_handles.specs.declared.structs.CCall.{CCall}
use Rattle.nagsched_handles.specs.declared.structs.CEntry.{CEntry}
use Rattle.nagsched_handles.specs.declared.structs.CRefusal.{CRefusal}
use Rattle.nagsched_handles.specs.declared.structs.CReply.{CReply}
use Rattle.nagsched_c.specs.Names.{IsPut}
use Rattle.nagsched_handles.specs.Structs.{c_call, c_entry, c_refusal, c_reply}
use Rattle.nagsched_handles.specs.SavedFaults.{c_fault, IsNoFault}
use Rattle.nagsched_handles.specs.Structs.{IsNoCall, IsNoEntry, IsNoRefusal, IsNoReply}
use Rattle.nagsched_c.specs.declared.status.TheConstants.{NO_MEMORY, WRONG}

-- nothing was written, and the status says why
abbrev pub IsNoOutput : ℕ → List ℕ → ℕ → ℕ → List ℕ → ℕ → Type 0
IsNoOutput why room before status after bytes = (status ≡ why) × (after ≡ room) × (bytes ≡ before)

-- the line was written, or memory was refused for it
abbrev pub IsTextOutput : List ℕ → List ℕ → ℕ → ℕ → List ℕ → ℕ → Type 0
IsTextOutput line room before status after bytes = IsPut line room status after bytes ⊎ IsNoOutput NO_MEMORY room before status after bytes

-- The line of the refusal with this struct was written, of a document or of a saved state. Or no refusal except out of memory has this struct, and
-- nothing was written.
abbrev pub HasRefusalText : CRefusal → List ℕ → ℕ → ℕ → List ℕ → ℕ → Type 0
HasRefusalText output room before status after bytes =
    ((error : LoadError) × (error ≢ load.Memory) × (c_refusal error ≡ output)
    × IsTextOutput (refusal_line (refusal.Setup error)) room before status after bytes)
    ⊎ (((why : SavedFault) × (why ≢ fault.Memory) × (c_fault why ≡ output) × IsTextOutput (refusal_line (refusal.Saved why)) room before status after bytes)
    ⊎ (IsNoOutput WRONG room before status after bytes × IsNoRefusal output × IsNoFault output))

-- the line of the reply with this struct, to the call with this struct, was written; or no call or no reply has its struct
abbrev pub HasReplyText : Configuration → CCall → CReply → List ℕ → ℕ → ℕ → List ℕ → ℕ → Type 0
HasReplyText setup asked output room before status after bytes =
    ((call : Call) × (reply : Reply) × (c_call call ≡ asked) × (c_reply reply ≡ output)
    × IsTextOutput (reply_line setup call reply) room before status after bytes)
    ⊎ (IsNoOutput WRONG room before status after bytes × (IsNoCall asked ⊎ IsNoReply output))

-- the line of the entry with this struct was written; or no entry has it
abbrev pub HasEntryText : Configuration → CEntry → List ℕ → ℕ → ℕ → List ℕ → ℕ → Type 0
HasEntryText setup output room before status after bytes =
    ((entry : Entry Call Reply) × (c_entry entry ≡ output) × IsTextOutput (entry_line setup entry) room before status after bytes)
    ⊎ (IsNoOutput WRONG room before status after bytes × IsNoEntry output)
