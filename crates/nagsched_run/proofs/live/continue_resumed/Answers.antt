use Rattle.std.proofs.Common.{◌≡◌, ◌++◌, Ok, Err}
use Rattle.std.proofs.lemmas.Result.{err_from_is_err_and}
use Rattle.nagsched_run.specs.Live.{saved_at_start}
use Rattle.nagsched_run.proofs.LiveLemmas.{gives_refused}
use Rattle.nagsched_protocol.proofs.WrittenLemmas.{Keeps-same}
use Rattle.nagsched_run.proofs.ContinuationLemmas.{answered_later, gone_answered, gone_refused, gone_unwritten, saved_ends}
use Rattle.nagsched_run.proofs.live.continue_resumed.Goals as goal

pub returns-in_err-saved-clause-continuation : goal.returns-in_err-saved-clause-continuation
returns-in_err-saved-clause-continuation g c =
    let t = c.in_err-saved.ensures.reading in
    let p = err_from_is_err_and c.from_residual.result c.from_residual.ensures.1 in
    rw (p.1) (gone_unwritten _ _ _ _ t.0 _ _ _ _ _ t.1 c.requires.end (Keeps-same _))

pub returns-in-Ok-clause-continuation : goal.returns-in-Ok-clause-continuation
returns-in-Ok-clause-continuation g c =
    let t = c.in_ok-saved.ensures.reading in
    let s : saved_at_start (c.args.buffered ++ t.0) ≡ Ok c.in-Ok.saved = rw (c.in-Ok.is) at t.4.0 in
    let a = c.continue_from_saved.ensures in
    gone_answered _ _ c.in-Ok.saved _ _ _ t.0 _ _ _ _ _ _ s t.1 t.2 c.requires.end t.4.1.follows
    (saved_ends _ c.in-Ok.saved _ _ s t.4.1.follows t.4.1.ended) a.outcome a.none (rw (t.4.1.buffer_is) at a.lines)

pub returns-in-Err-Refused-clause-continuation : goal.returns-in-Err-Refused-clause-continuation
returns-in-Err-Refused-clause-continuation g c =
    let t = c.in_ok-saved.ensures.reading in
    let s : saved_at_start (c.args.buffered ++ t.0) ≡ Err c.in-Err-Refused.why =
    gives_refused _ c.in_ok-saved.saved _ c.in-Err-Refused.why _ t.4.0 c.in-Err-Refused.is
    (rw (c.in-Err-Refused.is) at c.in-Err-Refused.field-0-is) in
    let r = c.refuse.ensures in
    gone_refused _ _ _ _ _ t.0 _ _ _ _ c.in-Err-Refused.why _ _ s t.1 t.2 t.3 c.requires.end t.4.1.follows t.4.1.ended r.outcome r.written r.fault c.as_live_result.ensures

pub returns-clause-continuation : goal.returns-clause-continuation
returns-clause-continuation g c =
    let t = c.in_ok-saved.ensures.reading in
    gone_unwritten _ _ _ _ t.0 _ _ _ _ _ t.1 c.requires.end (Keeps-same _)

pub returns-in-Ok-clause-spent : goal.returns-in-Ok-clause-spent
returns-in-Ok-clause-spent g c =
    let t = c.in_ok-saved.ensures.reading in
    let a = c.continue_from_saved.ensures in
    answered_later c.args.form _ _ _ t.0 _ _ _ _ _ c.in_ok-saved.follow t.4.1.follows t.1 (λ f. (a.none f).0)
    (rw (t.4.1.buffer_is) at a.spent)
