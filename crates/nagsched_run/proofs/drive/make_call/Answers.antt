use Rattle.std.proofs.Common.{rules, ◌≡◌}
use Rattle.std.proofs.lemmas.Result.{err_from_is_err_and}
use Rattle.nagsched_protocol.specs.Text.{line_from}
use Rattle.nagsched_protocol.proofs.WrittenLemmas.{Keeps-same, line_written}
use Rattle.nagsched_run.proofs.drive.make_call.Goals as goal

pub returns-in_err-push_reply-clause-wrote : goal.returns-in_err-push_reply-clause-wrote
returns-in_err-push_reply-clause-wrote g c =
    let p = err_from_is_err_and c.from_residual.result c.from_residual.ensures.1 in
    rw (p.1, p.2) (Keeps-same _)

pub returns-clause-wrote : goal.returns-clause-wrote
returns-clause-wrote g c =
    let w = c.write_text.ensures in
    let same : c.as_bytes.result.now ≡ line_from c.args.sched.now c.args.call = search rules in
    line_written c.write_text.result _ _ _ _ same w.ok w.err w.only
