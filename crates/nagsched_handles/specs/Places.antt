-- The places on the heap for the passes of a desk.
use Rattle.std.specs.Prelude.{◌≡◌, ⊤, List, [], ◌∷◌, Option, Some}
use Rattle.std_alloc.specs.Arc.{arc_value}
use Rattle.check_desk.specs.declared.passes.Pass.{Pass}
use Rattle.check_desk.specs.Desks.{IsPassOf}
use Rattle.nagsched_handles.specs.declared.handle.Handle.{Handle}
use Rattle.nagsched_handles.specs.declared.pass_state.PassState.TheVariants as state
use Rattle.nagsched_handles.specs.declared.shared.Shared.{Shared}
use Rattle.nagsched_handles.specs.declared.target.HandleTarget.{HandleTarget}
use Rattle.nagsched_handles.specs.declared.target.HandleTarget.TheVariants as target
use Rattle.nagsched_handles.specs.Desks.{desk_of, pass_state_of}
use Rattle.nagsched_handles.specs.Handles.{contents_of}

-- a place for a pass of this desk
abbrev pub IsPlaceOf : Shared → HandleTarget → Type 0
IsPlaceOf desk (target.Pass place) = arc_value place.shared ≡ desk
IsPlaceOf desk other = ⊥

-- a place for a pass of this pass's desk
abbrev pub IsPlaceFor : Pass → HandleTarget → Type 0
IsPlaceFor pass (target.Pass place) = IsPassOf (desk_of place) pass
IsPlaceFor pass other = ⊥

-- the place with the pass
abbrev pub IsPlaceWithPass : Pass → HandleTarget → HandleTarget → Type 0
IsPlaceWithPass pass (target.Pass place) (target.Pass taken) = (taken.shared ≡ place.shared) × (pass_state_of taken ≡ state.Resting pass)
IsPlaceWithPass pass place taken = ⊥

-- this pass rests in a place of this desk
abbrev pub HasPass : Shared → Pass → Option HandleTarget → Type 0
HasPass desk pass (Some (target.Pass place)) = (arc_value place.shared ≡ desk) × (pass_state_of place ≡ state.Resting pass)
HasPass desk pass other = ⊥

-- the handles lead to these passes of this desk, in their order
abbrev pub HavePasses : Shared → List Pass → List Handle → Type 0
HavePasses desk [] [] = ⊤
HavePasses desk (pass ∷ passes) (handle ∷ handles) = HasPass desk pass (contents_of handle) × HavePasses desk passes handles
HavePasses desk passes handles = ⊥
