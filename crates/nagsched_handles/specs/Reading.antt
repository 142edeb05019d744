-- The setup of a document, and the handles that can't be freed.
use Rattle.std.specs.Prelude.{◌≡◌, ⊤, ℕ, List, Ok, Option, Some}
use Rattle.check_objects.specs.Setup.{setup_of}
use Rattle.nagsched_handles.specs.declared.target.HandleTarget.{HandleTarget}
use Rattle.nagsched_handles.specs.declared.target.HandleTarget.TheVariants as target
use Rattle.nagsched_handles.specs.declared.pass_state.PassState.{PassState}
use Rattle.nagsched_handles.specs.declared.pass_state.PassState.TheVariants as state
use Rattle.nagsched_handles.specs.Desks.{pass_state_of}

-- the setup of the document
abbrev pub IsSetupOf : List ℕ → Option HandleTarget → Type 0
IsSetupOf document (Some (target.Setup named)) = setup_of document ≡ Ok named.setup
IsSetupOf document contents = ⊥

-- the pass waits for its turn
abbrev pub IsWaiting : PassState → Type 0
IsWaiting (state.Waiting turn asked) = ⊤
IsWaiting other = ⊥

-- a pass that waits for its turn
abbrev pub IsTurnWaitingIn : Option HandleTarget → Type 0
IsTurnWaitingIn (Some (target.Pass pass)) = IsWaiting (pass_state_of pass)
IsTurnWaitingIn contents = ⊥
