use Rattle.std.proofs.Common.{◌≡◌, ◌+◌, ◌≤◌, length, map}
use Rattle.nagsched_protocol.specs.Input.{lines_of}
use Rattle.nagsched_protocol.specs.Script.{commands_of_lines}
use Rattle.nagsched_protocol.specs.declared.script.TheConstants.{MAX_INPUT_BYTES}
use Rattle.setup_model.specs.Agreement.{with_front}
use Rattle.nagsched_protocol.proofs.ScriptLemmas.{commands_from}
use Rattle.nagsched_protocol.proofs.script.read_commands.Given as goal

abbrev pub invariant-loop-line : goal.invariant-loop-line
invariant-loop-line g l =
    (commands_of_lines l.first (g.C.Command.meaning l.setup) (lines_of l.fn.bytes)
    ≡ with_front (map g.C.Command.seen l.commands.items) (commands_from (g.C.Command.meaning l.setup) l.number (lines_of l.line-iterator.rest.now)))
    × (l.number + length (lines_of l.line-iterator.rest.now) ≤ MAX_INPUT_BYTES + 3)
