use Rattle.std.proofs.Common.{arith, ◌-◌, ◌^◌, ◌∙◌, sym, ap, Err}
use Rattle.std.proofs.lemmas.Result.{err_from_is_err_and}
use Rattle.nagsched_protocol.specs.declared.live_error.LiveError.TheVariants as errors
use Rattle.nagsched_run.proofs.LiveLemmas.{talk_begins, talk_ends, talk_fails, lines_answered, line_spends, written_lines, talk_goes_on, talk_spent}
use Rattle.nagsched_run.proofs.live.Conversation.answer_lines.Goals as goal

pub loop-number-init : goal.loop-number-init
loop-number-init g c = (talk_begins _ _ _ _ _, c.requires.buffers.0, c.requires.buffers.1)

pub loop-number-preserved : goal.loop-number-preserved
loop-number-preserved g c =
    let k = c.loop-number.invariant in
    let a = c.in_ok-answer_next.ensures in
    let t = a.reading in
    (talk_goes_on _ _ _ _ _ _ _ t.0 _ _ _ _ _ _ _ k.0 t.1 (sym t.2.follows ∙ c.if-not-branch.false) t.2.buffer_is t.2.state_is t.2.wrote, a.line, a.capacity)

pub returns-in_err-answer_next-clause-lines : goal.returns-in_err-answer_next-clause-lines
returns-in_err-answer_next-clause-lines g c =
    let k = c.loop-number.invariant in
    let f = c.in_err-answer_next.ensures.fault in
    let p = err_from_is_err_and c.from_residual.result c.from_residual.ensures.1 in
    talk_fails _ _ _ _ _ f.0 _ _ _ _ _ _ _ _ _ k.0 f.1 f.2 (p.1 ∙ ap Err p.2)

pub returns-in_err-answer_next-clause-spent : goal.returns-in_err-answer_next-clause-spent
returns-in_err-answer_next-clause-spent g c =
    let k = c.loop-number.invariant in
    let t = c.in_err-answer_next.ensures.reading in
    let p = err_from_is_err_and c.from_residual.result c.from_residual.ensures.1 in
    rw (p.1, p.2) (line_spends _ _ _ _ _ t.0 _ _ _ _ _ _ _ _ k.0 t.1 t.3)

pub returns-then-not-branch-clause-lines : goal.returns-then-not-branch-clause-lines
returns-then-not-branch-clause-lines g c =
    let k = c.loop-number.invariant in
    let t = c.in_ok-answer_next.ensures.reading in
    talk_ends _ _ _ _ _ t.0 _ _ _ _ _ _ _ _ _ _ k.0 t.1 (sym t.2.follows ∙ c.if-not-branch.true) (t.2.ended c.if-not-branch.true) t.2.wrote c.flush.ensures.kept c.as_live_result.ensures
    c.flush.ensures.kind

pub returns-then-not-branch-clause-spent : goal.returns-then-not-branch-clause-spent
returns-then-not-branch-clause-spent g c = written_lines c.args.form _ _ _ _ _ _ _ _ _ c.as_live_result.ensures

pub returns-clause-lines : goal.returns-clause-lines
returns-clause-lines g c = talk_spent _ _ _ _ _ _ _ _ _ _ errors.LinesSpent c.loop-number.invariant.0

pub returns-clause-spent : goal.returns-clause-spent
returns-clause-spent g c =
    lines_answered _ _ _ _ _ _ _ _ _ _ (2 ^ 64 - 1 - c.args.begins) c.loop-number.invariant.0
    (omega (arith, c.loop-number-test.false, c.loop-number.auto.number-end, c.requires.begins))
