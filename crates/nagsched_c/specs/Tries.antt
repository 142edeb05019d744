-- The result for C of a try of one of the six calls.
use Rattle.std.specs.Prelude.{◌≡◌, ℕ, Option, Some, None}
use Rattle.check_sched.specs.declared.call.Call.{Call}
use Rattle.nagsched_handles.specs.declared.desk_pass.DeskPass.{DeskPass}
use Rattle.nagsched_handles.specs.declared.target.HandleTarget.{HandleTarget}
use Rattle.nagsched_handles.specs.declared.target.HandleTarget.TheVariants as target
use Rattle.nagsched_handles.specs.declared.structs.CReply.{CReply}
use Rattle.nagsched_handles.specs.declared.pass_state.Step.{Step}
use Rattle.nagsched_handles.specs.declared.pass_state.Step.TheVariants as tried
use Rattle.nagsched_handles.specs.Desks.{AreOneDesk, desk_of, pass_state_of}
use Rattle.nagsched_handles.specs.Tries.{HasAdvanced}
use Rattle.nagsched_handles.specs.Structs.{c_reply}
use Rattle.nagsched_c.specs.declared.status.TheConstants.{NO_MEMORY, OK, SPENT, WAIT, WRONG}

-- the status of a try
abbrev pub status_of : Step → ℕ
status_of (tried.Replied reply) = OK
status_of tried.NotYet = WAIT
status_of tried.Spent = SPENT
status_of tried.NoMemory = NO_MEMORY
status_of tried.OtherWaits = WRONG

-- the struct of the reply: it is written if there is a reply
abbrev pub reply_after : Step → CReply → CReply
reply_after (tried.Replied reply) before = c_reply reply
reply_after made before = before

-- a pass of the same desk has continued with this call
abbrev pub HasTriedBy : Call → DeskPass → CReply → ℕ → DeskPass → CReply → Type 0
HasTriedBy call before reply status after output =
    AreOneDesk before after × ((made : Step) × (status ≡ status_of made) × (output ≡ reply_after made reply)
    × HasAdvanced (desk_of before) call (pass_state_of before) made (pass_state_of after))

-- nothing was done: the handle has the same target, and the struct of the reply is as it was
abbrev pub IsWrongTry : Option HandleTarget → CReply → ℕ → Option HandleTarget → CReply → Type 0
IsWrongTry before reply status after output = (status ≡ WRONG) × (after ≡ before) × (output ≡ reply)

-- A try by a handle: a pass continues, and with anything else nothing is done.
abbrev pub HasTried : Call → Option HandleTarget → CReply → ℕ → Option HandleTarget → CReply → Type 0
HasTried call (Some (target.Pass before)) reply status (Some (target.Pass after)) output = HasTriedBy call before reply status after output
HasTried call (Some (target.Pass before)) reply status after output = ⊥
HasTried call before reply status after output = IsWrongTry before reply status after output

-- The same if C names a part of the call by a number. If there is no such number, nothing is done.
abbrev pub HasTriedIf : {X : Type 0} → Option X → (X → Call) → Option HandleTarget → CReply → ℕ → Option HandleTarget → CReply → Type 0
HasTriedIf (Some part) call before reply status after output = HasTried (call part) before reply status after output
HasTriedIf None call before reply status after output = IsWrongTry before reply status after output
