use Rattle.nagsched_protocol.specs.Script.{state_after_resume_at}
use Rattle.nagsched_protocol.specs.declared.live_error.LiveError.TheVariants as live
use Rattle.nagsched_run.proofs.ContinuationLemmas.{unanswered}
use Rattle.nagsched_run.proofs.live.continue_from_saved.Goals as goal

pub returns-in-Err-clause-lines : goal.returns-in-Err-clause-lines
returns-in-Err-clause-lines g c = λ follows.
    unanswered c.args.form 3 (state_after_resume_at c.args.setup c.args.saved.now c.args.moment) c.args.buffered live.Memory
    (g.R.Read.remaining c.args.reader.now) (g.W.Write.contents c.args.writer.now)
