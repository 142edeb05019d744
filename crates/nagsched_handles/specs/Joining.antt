-- The state of the pass that two joined passes become.
use Rattle.std.specs.Prelude.{◌≡◌}
use Rattle.ticket_lock.specs.Callers.{gathered_caller}
use Rattle.check_desk.specs.Passes.{pass_of}
use Rattle.nagsched_handles.specs.declared.pass_state.PassState.{PassState}
use Rattle.nagsched_handles.specs.declared.pass_state.PassState.TheVariants as state

-- a pass that answers for the numbers of both, has made the calls of both, and has seen the longer history
abbrev pub HasJoined : PassState → PassState → PassState → Type 0
HasJoined (state.Resting a) (state.Resting b) (state.Resting both) = pass_of both ≡ gathered_caller (pass_of a) (pass_of b)
HasJoined a b both = ⊥
