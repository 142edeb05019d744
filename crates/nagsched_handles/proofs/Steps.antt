-- What a try of a pass at rest is.
use Rattle.std.proofs.Common.{◌≡◌, subst}
use mathlib.Core.Logic.{◌≢◌}
use Rattle.ticket_lock.specs.Callers.{caller_after_draw}
use Rattle.check_sched.specs.declared.call.Call.{Call}
use Rattle.check_desk.specs.declared.desk.Desk.{Desk}
use Rattle.check_desk.specs.declared.passes.Pass.{Pass}
use Rattle.check_desk.specs.declared.passes.Turn.{Turn}
use Rattle.check_desk.specs.Passes.{pass_of, turn_caller}
use Rattle.nagsched_handles.specs.declared.pass_state.PassState.{PassState}
use Rattle.nagsched_handles.specs.declared.pass_state.PassState.TheVariants as state
use Rattle.nagsched_handles.specs.declared.pass_state.Step.{Step}
use Rattle.nagsched_handles.specs.declared.pass_state.Step.TheVariants as tried
use Rattle.nagsched_handles.specs.Tries.{HasAdvanced, HasTriedAtRest, HasLooked, HasTurn, MayContinue}

-- one that has drawn a ticket looks, and isn't answered that its calls are spent
pub begun : (desk : Desk) (call : Call) (pass : Pass) (turn : Turn) (made : Step) (after : PassState) → (pass_of pass).left ≢ 0
    → turn_caller turn ≡ caller_after_draw (pass_of pass) → HasLooked desk call turn made after → HasTriedAtRest desk call pass made after
begun desk call pass turn (tried.Replied reply) after left is looked = (left, (turn, is, looked))
begun desk call pass turn tried.NoMemory after left is looked = (left, (turn, is, looked))
begun desk call pass turn tried.Spent after left is looked = absurd looked
begun desk call pass turn tried.NotYet after left is looked = (left, (turn, is, looked))
begun desk call pass turn tried.OtherWaits after left is looked = (left, (turn, is, looked))

-- one that can continue, and looks by its turn, has continued
pub advanced : (desk : Desk) (call : Call) (before : PassState) (turn : Turn) (made : Step) (after : PassState) → MayContinue call before → HasTurn before turn
    → HasLooked desk call turn made after → HasAdvanced desk call before made after
advanced desk call (state.Resting pass) turn made after may has looked = begun desk call pass turn made after may has looked
advanced desk call (state.Waiting again asked) turn (tried.Replied reply) after may has looked =
    (may, subst (λ t. HasLooked desk call t (tried.Replied reply) after) has looked)
advanced desk call (state.Waiting again asked) turn tried.NoMemory after may has looked =
    (may, subst (λ t. HasLooked desk call t tried.NoMemory after) has looked)
advanced desk call (state.Waiting again asked) turn tried.Spent after may has looked = absurd looked
advanced desk call (state.Waiting again asked) turn tried.NotYet after may has looked =
    (may, subst (λ t. HasLooked desk call t tried.NotYet after) has looked)
advanced desk call (state.Waiting again asked) turn tried.OtherWaits after may has looked = absurd looked
advanced desk call state.Gone turn made after may has looked = absurd may
