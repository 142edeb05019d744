use Rattle.std.proofs.Common.{arith, get_or}
use Rattle.std.proofs.lemmas.Result.{err_from_is_err_and}
use Rattle.check_sched.specs.declared.call.Call.TheVariants as call
use Rattle.nagsched_protocol.specs.declared.command.RunCommand.TheVariants as command
use Rattle.nagsched_protocol.proofs.OutputLemmas.{WroteUpTo-whole, lines_next, lines_none}
use Rattle.nagsched_protocol.proofs.TextLemmas.{answer_line_ends, text_end, text_next}
use Rattle.nagsched_protocol.proofs.WrittenLemmas.{text_cut}
use Rattle.nagsched_run.proofs.drive.answer_commands.Goals as goal

pub loop-command-init : goal.loop-command-init
loop-command-init g c = lines_none _ _

pub loop-command-preserved : goal.loop-command-preserved
loop-command-preserved g c =
    let next = text_next c.loop-command.sched c.args.commands.now c.loop-command.command-index (command.Call (call.Take 0)) c.loop-command-test.true in
    let ends = answer_line_ends c.loop-command.sched (get_or c.args.commands.now c.loop-command.command-index (command.Call (call.Take 0))) in
    rw c.answer_command.ensures.state (lines_next _ _ _ _ _ _ _ c.loop-command.invariant next c.in_ok-answer_command.ensures.wrote ends)

pub returns-in_err-answer_command-clause-wrote : goal.returns-in_err-answer_command-clause-wrote
returns-in_err-answer_command-clause-wrote g c =
    let next = text_next c.loop-command.sched c.args.commands.now c.loop-command.command-index (command.Call (call.Take 0)) c.loop-command-test.true in
    let p = err_from_is_err_and c.from_residual.result c.from_residual.ensures.1 in
    let ends = answer_line_ends c.loop-command.sched (get_or c.args.commands.now c.loop-command.command-index (command.Call (call.Take 0))) in
    rw (p.1, p.2) (text_cut _ _ _ _ _ _ _ _ c.loop-command.invariant next ends c.in_err-answer_command.ensures.wrote)

pub returns-clause-wrote : goal.returns-clause-wrote
returns-clause-wrote g c =
    WroteUpTo-whole _ _ _ _ c.loop-command.invariant.0 (text_end c.loop-command.sched c.args.commands.now c.loop-command.command-index (omega arith))
