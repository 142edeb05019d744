use Rattle.std.proofs.Common.{◌++◌, drop, length}
use Rattle.std.specs.Prelude.{flat_map}
use Rattle.nagsched_protocol.specs.Output.{WroteLinesUpTo}
use Rattle.nagsched_protocol.specs.Text.{drill_text, entry_line, total_line}
use Rattle.nagsched_jobs.proofs.drill.write_history.Given as goal

abbrev pub invariant-loop-entry : goal.invariant-loop-entry
invariant-loop-entry g l =
    WroteLinesUpTo (g.W.Write.contents l.initial.writer) (g.W.Write.contents l.writer) (drill_text l.setup l.entries l.refused)
    (flat_map (entry_line l.setup) (drop l.entry-index l.entries) ++ total_line (length l.entries) l.refused)
