-- A pass's state is of its desk.
use Rattle.std.specs.Prelude.{⊤}
use mathlib.Core.Path.{refl}
use Rattle.core.specs.Mem.{manually_drop_value}
use Rattle.check_desk.specs.declared.desk.Desk.{Desk}
use Rattle.check_desk.specs.Belonging.{IsPassOf-prop, IsWaitingAt-prop}
use Rattle.check_desk.specs.Desks.{IsPassOf, IsWaitingAt}
use Rattle.nagsched_handles.specs.declared.pass_state.PassState.{PassState}
use Rattle.nagsched_handles.specs.declared.pass_state.PassState.TheVariants as state

abbrev pub IsPassStateOf : Desk → PassState → Type 0
IsPassStateOf desk state.Gone = ⊤
IsPassStateOf desk (state.Resting pass) = IsPassOf desk pass
IsPassStateOf desk (state.Waiting turn asked) = IsWaitingAt desk (manually_drop_value turn)

pub IsPassStateOf-prop : (desk : Desk) (s : PassState) → IsProp (IsPassStateOf desk s)
IsPassStateOf-prop desk state.Gone = λ a b. refl
IsPassStateOf-prop desk (state.Resting pass) = IsPassOf-prop desk pass
IsPassStateOf-prop desk (state.Waiting turn asked) = IsWaitingAt-prop desk (manually_drop_value turn)
