-- How the code's reading of an input agrees with the definitions, out of memory aside.
use Rattle.std.specs.Prelude.{Option, Some, None, Result}
use Rattle.setup_model.specs.Agreement as agreement
use Rattle.nagsched_protocol.specs.declared.refusal.CommandError.{CommandError}
use Rattle.nagsched_protocol.specs.declared.refusal.CommandError.TheVariants as command_errors
use Rattle.nagsched_protocol.specs.declared.refusal.InputRefusal.{InputRefusal}
use Rattle.nagsched_protocol.specs.declared.refusal.LineFault.{LineFault}
use Rattle.nagsched_protocol.specs.declared.refusal.ScriptError.{ScriptError}
use Rattle.nagsched_protocol.specs.declared.refusal.ScriptError.TheVariants as errors

-- the refusal that an error of the code is, unless the code is out of memory
abbrev pub refusal : ScriptError → Option InputRefusal
refusal errors.Memory = None
refusal (errors.Refused why) = Some why

-- The result of the code is the expected one: its value, seen by `view`, or its refusal.
abbrev pub IsExpectedResult : {X Y : Type 0} → (X → Y) → Result X ScriptError → Result Y InputRefusal → Type 0
IsExpectedResult view result expected = agreement.IsExpectedResult refusal view result expected

-- the same of the command that an array is, and its fault
abbrev pub line_fault : CommandError → Option LineFault
line_fault command_errors.Memory = None
line_fault (command_errors.Refused fault) = Some fault

abbrev pub IsExpectedCommand : {X Y : Type 0} → (X → Y) → Result X CommandError → Result Y LineFault → Type 0
IsExpectedCommand view result expected = agreement.IsExpectedResult line_fault view result expected
