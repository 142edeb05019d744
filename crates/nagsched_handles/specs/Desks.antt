-- The parts of a pass that clauses speak of: its desk, its state between two calls, and the parts that stay from call to call.
use Rattle.std.specs.Prelude.{◌≡◌, ℕ}
use Rattle.std_alloc.specs.Arc.{arc_value}
use Rattle.check_desk.specs.declared.desk.Desk.{Desk}
use Rattle.nagsched_handles.specs.declared.desk_pass.DeskPass.{DeskPass}
use Rattle.nagsched_handles.specs.declared.pass_state.PassState.{PassState}

-- the desk of a pass
abbrev pub desk_of : DeskPass → Desk
desk_of c = (arc_value c.shared).desk

-- the mark with which its desk was opened
abbrev pub mark_of : DeskPass → ℕ
mark_of c = (arc_value c.shared).mark

-- the pass at rest, or the turn of a call that waits
abbrev pub pass_state_of : DeskPass → PassState
pass_state_of c = c.state

-- two passes of one desk
abbrev pub AreOneDesk : DeskPass → DeskPass → Type 0
AreOneDesk a b = desk_of a ≡ desk_of b

-- the same pass
pub record IsSamePass (before after : DeskPass) : Type 0 where
  pub shared : after.shared ≡ before.shared
  pub state : pass_state_of after ≡ pass_state_of before
