-- Refusals of a saved state, and how a function of the code agrees with their definitions.
use Rattle.std.specs.Prelude.{Option, Some, None, Result}
use Rattle.setup_model.specs.Agreement as agreement
use Rattle.check_saved_state.specs.declared.fault.SavedFault.{SavedFault}
use Rattle.check_saved_state.specs.declared.fault.SavedFault.TheVariants as faults

-- the refusal that an error of the code is; None if the code is out of memory
abbrev pub refusal : SavedFault → Option SavedFault
refusal faults.Memory = None
refusal e = Some e

-- the result of the code, seen by view, is the defined one, unless memory ran out
abbrev pub IsExpectedResult : {X Y : Type 0} → (X → Y) → Result X SavedFault → Result Y SavedFault → Type 0
IsExpectedResult view result expected = agreement.IsExpectedResult refusal view result expected
