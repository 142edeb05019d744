-- Why the loop ends early: the faults that it makes of refusals, and those that it gives by itself.
use Rattle.std.specs.Prelude.{ℕ, List, Option, IsErr, IsSomeAnd, ⊤}
use Rattle.setup_model.specs.declared.error.LoadError.{LoadError}
use Rattle.setup_model.specs.declared.error.LoadError.TheVariants as load
use Rattle.check_saved_state.specs.Text.{saved_of_text}
use Rattle.check_saved_state.specs.declared.fault.SavedFault.{SavedFault}
use Rattle.check_saved_state.specs.declared.fault.SavedFault.TheVariants as saved
use Rattle.nagsched_loop.specs.declared.fault.Fault.{Fault}
use Rattle.nagsched_loop.specs.declared.fault.Fault.TheVariants as fault

-- a setup that can't be read is refused, unless memory ran out
abbrev pub fault_of_setup : LoadError → Fault
fault_of_setup load.Memory = fault.Memory
fault_of_setup other = fault.Refused

-- a saved text that can't be read is refused, unless memory ran out
abbrev pub fault_of_text : SavedFault → Fault
fault_of_text saved.Memory = fault.Memory
fault_of_text other = fault.Refused

-- a fault of the loop itself over this stored text: the text isn't a saved state, or memory ran out
abbrev pub IsLoopFault : Option (List ℕ) → Fault → Type 0
IsLoopFault stored fault.Refused = IsSomeAnd stored (λ text. IsErr (saved_of_text text))
IsLoopFault stored fault.Memory = ⊤
IsLoopFault stored other = ⊥

-- the exit status that reports a fault
abbrev pub exit_status : Fault → ℕ
exit_status fault.Words = 2
exit_status fault.Output = 3
exit_status fault.Memory = 4
exit_status fault.Refused = 5
