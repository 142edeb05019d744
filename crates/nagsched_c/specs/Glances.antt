-- The result of a glance for C.
use Rattle.std.specs.Prelude.{◌≡◌, ℕ, Option, Some, None}
use Rattle.check_states.specs.declared.standing.Standing.{Standing}
use Rattle.nagsched_handles.specs.declared.target.HandleTarget.{HandleTarget}
use Rattle.nagsched_handles.specs.declared.target.HandleTarget.TheVariants as target
use Rattle.nagsched_handles.specs.declared.structs.CStanding.{CStanding}
use Rattle.nagsched_handles.specs.Desks.{AreOneDesk, desk_of, pass_state_of}
use Rattle.nagsched_handles.specs.Glances.{IsGlanceResult}
use Rattle.nagsched_handles.specs.Structs.{c_standing}
use Rattle.nagsched_c.specs.declared.status.TheConstants.{OK, WRONG}

-- the result for C of a standing, or of no standing
abbrev pub IsStandingOutput : Option Standing → CStanding → ℕ → CStanding → Type 0
IsStandingOutput (Some standing) before status output = (status ≡ OK) × (output ≡ c_standing standing)
IsStandingOutput None before status output = (status ≡ WRONG) × (output ≡ before)

-- A glance by a handle. With a pass it shows a standing, or no standing. With anything else nothing is done.
abbrev pub HasGlanced : ℕ → Option HandleTarget → CStanding → ℕ → Option HandleTarget → CStanding → Type 0
HasGlanced object (Some (target.Pass before)) shown status (Some (target.Pass after)) output =
    AreOneDesk before after × ((seen : Option Standing) × IsStandingOutput seen shown status output
    × IsGlanceResult (desk_of before) object (pass_state_of before) seen (pass_state_of after))
HasGlanced object (Some (target.Pass before)) shown status other output = ⊥
HasGlanced object before shown status after output = (status ≡ WRONG) × (after ≡ before) × (output ≡ shown)
