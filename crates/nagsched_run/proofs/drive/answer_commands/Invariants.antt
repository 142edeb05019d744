use Rattle.std.proofs.Common.{drop}
use Rattle.nagsched_protocol.specs.Output.{WroteLinesUpTo}
use Rattle.nagsched_protocol.specs.Text.{text_from}
use Rattle.nagsched_run.proofs.drive.answer_commands.Given as goal

abbrev pub invariant-loop-command : goal.invariant-loop-command
invariant-loop-command g l =
    WroteLinesUpTo (g.W.Write.contents l.initial.writer) (g.W.Write.contents l.writer)
    (text_from l.initial.sched l.commands) (text_from l.sched (drop l.command-index l.commands))
