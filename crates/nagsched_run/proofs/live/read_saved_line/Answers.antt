use Rattle.std.proofs.Common.{◌≡◌, ◌∙◌, ◌++◌, [], ap, refl}
use Rattle.std.proofs.lemmas.Result.{err_from_is_err_and}
use Rattle.check_saved_state.specs.Text.{saved_of_text}
use Rattle.nagsched_protocol.specs.Input.{first_line_of}
use Rattle.nagsched_protocol.specs.LiveInput.{LinePrefix, prefix_of}
use Rattle.nagsched_protocol.specs.Script.{with_saved_refusal}
use Rattle.nagsched_protocol.specs.declared.line_reader.TheConstants.{SAVED_PREFIX_BYTES}
use Rattle.nagsched_protocol.proofs.LiveInputLemmas.{Consumes-none, if_ok_never}
use Rattle.nagsched_run.proofs.ContinuationLemmas.{kept_saved, unfollowed, unread}
use Rattle.nagsched_run.proofs.live.read_saved_line.Goals as goal

pub returns-then-not-may_follow-clause-reading : goal.returns-then-not-may_follow-clause-reading
returns-then-not-may_follow-clause-reading g c =
    let e = c.requires.end c.if-not-may_follow.true in
    ([], Consumes-none _, λ f. refl, unread _ e.0, unfollowed _ _ _ e.0 e.1 c.read_saved.ensures, tt)

pub returns-in_err-follow-clause-reading : goal.returns-in_err-follow-clause-reading
returns-in_err-follow-clause-reading g c =
    let t = c.in_err-follow.ensures.reading in
    let most : c.new-line.result.most ≡ SAVED_PREFIX_BYTES = ap (λ (x : LinePrefix). x.most) c.new-line.ensures in
    let p = err_from_is_err_and c.from_residual.result c.from_residual.ensures.1 in
    (t.0, t.1, λ f. (let k = c.if-not-may_follow.false in cc), rw most at t.3, if_ok_never _ _ c.from_residual.ensures.0, rw (p.1, p.2) t.4)

pub returns-clause-reading : goal.returns-clause-reading
returns-clause-reading g c =
    let t = c.in_ok-follow.ensures.reading in
    let line = first_line_of (c.args.buffered.now ++ t.0) in
    let most : c.new-line.result.most ≡ SAVED_PREFIX_BYTES = ap (λ (x : LinePrefix). x.most) c.new-line.ensures in
    let kept = t.2.line_is ∙ ap (λ i. prefix_of i line) most in
    let same = ap (λ l. with_saved_refusal (saved_of_text l)) (c.bytes.ensures ∙ ap (λ (x : LinePrefix). x.bytes) kept) ∙ ap with_saved_refusal (kept_saved line) in (
      t.0,
      t.1,
      λ f. (let k = c.if-not-may_follow.false in cc),
      rw most at t.3,
      (rw same at c.read_saved-2.ensures, record { follows = t.2.whole_is; buffer_is = t.2.rest_is; ended = rw most at t.2.ended }),
      tt,
    )
