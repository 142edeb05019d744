-- The script that an input of `drill` is: a setup, the return codes of each object's plugin, and the moments.
use Rattle.std.specs.Prelude.{ℕ, ◌==◌, List, [], Option, Some, None, Result, Ok, if◌then◌else◌, map, filter_map, unwrap_or, slice_set}
use Rattle.std.specs.List.{last_or, range_with_len}
use Rattle.check_objects.specs.Configuration.{Configuration, object_count}
use Rattle.check_objects.specs.Setup.{setup_of}
use Rattle.setup_model.specs.Agreement.{◌>>=◌}
use Rattle.check_states.specs.declared.state.Code.{Code}
use Rattle.nagsched_protocol.specs.declared.refusal.InputRefusal.{InputRefusal}
use Rattle.nagsched_protocol.specs.DrillCommand.{Command, PluginOf, MomentAt, drill_command_by}
use Rattle.nagsched_protocol.specs.Input.{first_line_of, lines_of}
use Rattle.nagsched_protocol.specs.LiveInput.{rest_after_line}
use Rattle.nagsched_protocol.specs.Script.{commands_of_lines, with_setup_refusal, if_within_limit}

pub record DrillScript : Type 0 where
  pub setup : Configuration
  -- the return codes of each object's plugin, by the object's number; no codes if no command gives the object any
  pub returns : List (List Code)
  pub moments : List ℕ

-- the moment that a command adds
abbrev pub moment_of : Command → Option ℕ
moment_of (MomentAt now) = Some now
moment_of (PluginOf object returned) = None

-- the moments that commands add, in their order
abbrev pub moments_in : List Command → List ℕ
moments_in commands = filter_map moment_of commands

-- the return codes that a command gives to an object
abbrev pub returns_by : ℕ → Command → Option (List Code)
returns_by object (PluginOf named returned) = if named == object then Some returned else None
returns_by object (MomentAt now) = None

-- the return codes of an object: those of the last command that gives it any, or else none
abbrev pub returns_of : List Command → ℕ → List Code
returns_of commands object = unwrap_or (last_or None (filter_map (returns_by object) commands)) []

-- the return codes of each object below this number
abbrev pub returns_below : ℕ → List Command → List (List Code)
returns_below count commands = map (returns_of commands) (range_with_len 0 count)

-- the lists of return codes after a command, which replaces those of its object by its own
abbrev pub returns_after : Command → List (List Code) → List (List Code)
returns_after (PluginOf object returned) lists = slice_set lists object returned
returns_after (MomentAt now) lists = lists

-- the script that commands make together over a setup
abbrev pub drill_over : Configuration → List Command → DrillScript
drill_over c commands = record { setup = c; returns = returns_below (object_count c) commands; moments = moments_in commands }

-- The script of an input of `drill`, or its first refusal: line 1 is the setup document, and every later line a command.
unfoldable pub drill_script_of : List ℕ → Result DrillScript InputRefusal
drill_script_of input = if_within_limit input (with_setup_refusal (setup_of (first_line_of input)) >>= λ c.
    (commands_of_lines 2 (drill_command_by c) (lines_of (rest_after_line input)) >>= λ all. Ok (drill_over c all)))
