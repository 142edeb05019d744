-- The result of a glance.
use Rattle.std.specs.Prelude.{◌≡◌, ◌<◌, ◌≤◌, ℕ, Option, Some, None}
use Rattle.ticket_lock.specs.Callers.{caller_with_history}
use Rattle.ticket_lock.specs.Views.{Follows}
use Rattle.check_desk.specs.declared.desk.Desk.{Desk}
use Rattle.check_desk.specs.declared.passes.Pass.{Pass}
use Rattle.check_desk.specs.Desks.{objects_of, standing_after, IsHistoryOf}
use Rattle.check_desk.specs.Passes.{pass_of}
use Rattle.check_states.specs.declared.standing.Standing.{Standing}
use Rattle.nagsched_handles.specs.declared.pass_state.PassState.{PassState}
use Rattle.nagsched_handles.specs.declared.pass_state.PassState.TheVariants as state

-- The standing is the object's after a history of the desk. The history begins with all that the pass had seen, and has nothing new of the numbers for
-- which the pass answers. The pass has seen this history now.
pub record IsGlance (desk : Desk) (object : ℕ) (before after : Pass) (standing : Standing) : Type 0 where
  pub there : object < objects_of desk
  pub pass : pass_of after ≡ caller_with_history (pass_of after).seen (pass_of before)
  pub follows : Follows (pass_of before).numbers (pass_of before).seen (pass_of after).seen
  pub legal : IsHistoryOf desk (pass_of after).seen
  pub standing_is : standing ≡ standing_after desk (pass_of after).seen object

-- a pass that rests gets no standing exactly if there is no such object; a pass that waits sees nothing
abbrev pub IsGlanceResult : Desk → ℕ → PassState → Option Standing → PassState → Type 0
IsGlanceResult desk object (state.Resting before) (Some standing) (state.Resting after) = IsGlance desk object before after standing
IsGlanceResult desk object (state.Resting before) None after = (objects_of desk ≤ object) × (after ≡ state.Resting before)
IsGlanceResult desk object before None after = after ≡ before
IsGlanceResult desk object before seen after = ⊥
