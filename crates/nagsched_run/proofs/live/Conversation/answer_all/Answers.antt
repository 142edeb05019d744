use Rattle.std.proofs.lemmas.Result.{err_from_is_err_and}
use Rattle.nagsched_protocol.specs.declared.live_error.LiveError.TheVariants as live
use Rattle.nagsched_run.proofs.ContinuationLemmas.{unanswered}
use Rattle.nagsched_run.proofs.live.Conversation.answer_all.Goals as goal

pub returns-in_err-self-clause-lines : goal.returns-in_err-self-clause-lines
returns-in_err-self-clause-lines g c =
    let p = err_from_is_err_and c.from_residual.result c.from_residual.ensures.1 in
    rw (p.1, p.2) (λ follows.
    unanswered c.args.form c.args.begins c.args.self.now.sched c.args.self.now.buffered live.Memory (g.R.Read.remaining c.args.reader.now) (g.W.Write.contents c.args.writer.now))

pub returns-in_err-answer_lines-clause-lines : goal.returns-in_err-answer_lines-clause-lines
returns-in_err-answer_lines-clause-lines g c =
    let p = err_from_is_err_and c.from_residual-in_err-answer_lines.result c.from_residual-in_err-answer_lines.ensures.1 in
    rw (p.1, p.2) (λ follows. c.in_err-answer_lines.ensures.lines)
