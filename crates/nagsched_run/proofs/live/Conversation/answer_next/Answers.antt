use Rattle.std.proofs.Common.{◌∙◌, ap, ◌++◌}
use Rattle.std.proofs.lemmas.Result.{err_from_is_err_and}
use Rattle.nagsched_protocol.specs.Input.{first_line_of}
use Rattle.std.specs.Prelude.{IfErr}
use Rattle.nagsched_protocol.specs.LiveError.{IsLineReadingError}
use Rattle.nagsched_protocol.specs.LiveInput.{LinePrefix, prefix_of}
use Rattle.nagsched_protocol.proofs.LiveInputLemmas.{if_ok_never}
use Rattle.nagsched_run.proofs.LiveLemmas.{written_err, written_line, written_ok, unanswered, untaken, wrote_behind}
use Rattle.nagsched_run.proofs.live.Conversation.answer_next.Goals as goal

pub returns-in_err-whole-clause-reading : goal.returns-in_err-whole-clause-reading
returns-in_err-whole-clause-reading g c =
    let t = c.in_err-whole.ensures.reading in
    let p = err_from_is_err_and c.from_residual.result c.from_residual.ensures.1 in
    let after : IfErr c.from_residual.result (IsLineReadingError t.0) = rw (p.1, p.2) t.3 in
    (t.0, t.1, if_ok_never _ _ c.from_residual.ensures.0, after)

pub returns-in_err-whole-clause-fault : goal.returns-in_err-whole-clause-fault
returns-in_err-whole-clause-fault g c =
    let t = c.in_err-whole.ensures.reading in
    let p = err_from_is_err_and c.from_residual.result c.from_residual.ensures.1 in
    rw (p.1, p.2) (untaken c.args.form c.args.self.now.sched c.args.number c.args.self.now.buffered t.0 _ _ _ _ _ t.1 c.in_err-whole.ensures.kept)

pub returns-in_err-as_live_result-clause-reading : goal.returns-in_err-as_live_result-clause-reading
returns-in_err-as_live_result-clause-reading g c =
    let t = c.in_ok-whole.ensures.reading in
    let p = err_from_is_err_and c.from_residual-in_err-as_live_result.result c.from_residual-in_err-as_live_result.ensures.1 in
    let after : IfErr c.from_residual-in_err-as_live_result.result (IsLineReadingError t.0) = rw (p.1, p.2) (written_line _ _ t.0 c.in_err-as_live_result.ensures) in
    (t.0, t.1, if_ok_never _ _ c.from_residual-in_err-as_live_result.ensures.0, after)

pub returns-in_err-as_live_result-clause-fault : goal.returns-in_err-as_live_result-clause-fault
returns-in_err-as_live_result-clause-fault g c =
    let t = c.in_ok-whole.ensures.reading in
    let p = err_from_is_err_and c.from_residual-in_err-as_live_result.result c.from_residual-in_err-as_live_result.ensures.1 in
    let line = first_line_of (c.args.self.now.buffered ++ t.0) in
    let kept = t.2.line_is ∙ ap (λ i. prefix_of i line) c.requires.0 in
    rw (p.1, p.2)
    (unanswered c.args.form c.args.self.now.sched c.args.number c.args.self.now.buffered t.0 _ _ _ _ _ _ c.in_ok-whole.whole t.1 t.2.whole_is t.2.ended
    c.in_ok-whole.ensures.kept (written_err _ _ _ c.in_err-as_live_result.ensures (c.answer.ensures.fault line kept)))

pub returns-clause-reading : goal.returns-clause-reading
returns-clause-reading g c =
    let t = c.in_ok-whole.ensures.reading in
    let line = first_line_of (c.args.self.now.buffered ++ t.0) in
    let kept = t.2.line_is ∙ ap (λ i. prefix_of i line) c.requires.0 in
    let a = written_ok _ _ c.in_ok-as_live_result.ensures (c.answer.ensures.answered line kept) in (
      t.0,
      t.1,
      record {
        follows = t.2.whole_is;
        ended = t.2.ended;
        buffer_is = c.answer.ensures.buffered ∙ t.2.rest_is;
        state_is = a.0;
        wrote = wrote_behind _ _ _ _ c.in_ok-whole.ensures.kept a.1;
      },
      tt,
    )

pub returns-clause-line : goal.returns-clause-line
returns-clause-line g c =
    let t = c.in_ok-whole.ensures.reading in
    ap (λ (x : LinePrefix). x.most) (c.answer.ensures.line ∙ t.2.line_is) ∙ c.requires.0
