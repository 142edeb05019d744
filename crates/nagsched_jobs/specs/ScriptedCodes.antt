-- The return codes that the plugin of a drill gives.
use Rattle.std.specs.Prelude.{ℕ, ◌==◌, ◌-◌, ◌%◌, if◌then◌else◌, List, [], ◌∷◌, length, slice_index_or}
use Rattle.check_states.specs.declared.state.Code.{Code}
use Rattle.check_states.specs.declared.state.Code.TheVariants as code

-- The code of a run over these codes. Runs count from 1, and after the last code the first comes again. Run 0 gives Ok, and so does every run if there
-- is no code.
abbrev pub code_of_run : List Code → ℕ → Code
code_of_run [] run = code.Ok
code_of_run (c ∷ cs) run = if run == 0 then code.Ok else slice_index_or (c ∷ cs) ((run - 1) % length (c ∷ cs)) code.Ok

-- the code of a run of an object, by the codes of all objects in the order of their numbers
abbrev pub scripted_code : List (List Code) → ℕ → ℕ → Code
scripted_code all object run = code_of_run (slice_index_or all object []) run
