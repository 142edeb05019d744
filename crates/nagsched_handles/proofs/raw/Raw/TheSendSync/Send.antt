-- A handle may go to another thread, since what it leads to may.
use Rattle.std.specs.Prelude.{Option, Some, None}
use mir.Raw.{raw}
use base.Fraction.{full_share}
use base.Shift.{Keyless}
use denote.Memory.{lone}
use denote.Param.Send.{IsSend, part_keyless, owning_send, plain_send}
use denote.RawPtr.{Ptr, block_ptr, null_ptr}
use Rattle.std.proofs.Crossing.{frees}
use Rattle.nagsched_handles.specs.Ownership.{heap, owned_at}
use Rattle.nagsched_handles.specs.declared.target.HandleTarget.{HandleTarget}
use Rattle.nagsched_handles.specs.contracts.target.HandleTarget.{the_row as target_row}
use Rattle.nagsched_handles.proofs.target.HandleTarget.TheSendSync.{the_send as target_send}
use Rattle.nagsched_handles.specs.contracts.raw.Raw.{the_row, the_type}

held_keyless : (p : Ptr) (x : Option HandleTarget) → Keyless (owned_at target_row p x)
held_keyless p None = tt
held_keyless (block_ptr b o) (Some x) = (part_keyless target_row target_send full_share x b o, frees.frees heap (raw (lone target_row.mir)) (block_ptr b o))
held_keyless null_ptr (Some x) = (tt, frees.frees heap (raw (lone target_row.mir)) null_ptr)

pub send : IsSend the_row
send = owning_send the_type (plain_send _ _ _ _ _, tt) (λ d. held_keyless d.at d.value) (λ k d w. tt)
