use Rattle.std.proofs.Common.{arith}
use Rattle.std.proofs.lemmas.Result.{err_from_is_err_and}
use Rattle.nagsched_protocol.proofs.OutputLemmas.{lines_next, lines_none}
use Rattle.nagsched_protocol.proofs.TextLemmas.{entries_next, entries_end, entry_line_ends, total_line_ends}
use Rattle.nagsched_protocol.proofs.WrittenLemmas.{text_cut, text_ended}
use Rattle.nagsched_jobs.proofs.drill.write_history.Goals as goal

pub loop-entry-init : goal.loop-entry-init
loop-entry-init g c = lines_none _ _

pub loop-entry-preserved : goal.loop-entry-preserved
loop-entry-preserved g c =
    lines_next _ _ _ _ _ _ _ c.loop-entry.invariant
    (entries_next c.args.setup.now c.args.entries.now c.loop-entry.entry-index _ _ c.loop-entry-test.true) c.in_ok-write_entry.ensures
    (entry_line_ends c.args.setup.now _)

pub returns-in_err-write_entry : goal.returns-in_err-write_entry
returns-in_err-write_entry g c =
    let next = entries_next c.args.setup.now c.args.entries.now c.loop-entry.entry-index _ _ c.loop-entry-test.true in
    let p = err_from_is_err_and c.from_residual.result c.from_residual.ensures.1 in
    rw (p.1, p.2) (text_cut _ _ _ _ _ _ _ _ c.loop-entry.invariant next (entry_line_ends c.args.setup.now _) c.in_err-write_entry.ensures)

pub returns : goal.returns
returns g c =
    text_ended c.write_total.result _ _ _ _ _ _ c.loop-entry.invariant
    (entries_end c.args.setup.now c.args.entries.now c.loop-entry.entry-index _ (omega arith)) (total_line_ends _ _) c.write_total.ensures
