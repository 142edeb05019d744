use Rattle.std.proofs.Common.{◌≡◌, ◌∙◌, ap}
use Rattle.std.specs.Prelude.{IfErr}
use Rattle.std.proofs.lemmas.Result.{err_from_is_err_and}
use Rattle.check_objects.specs.Setup.{setup_of}
use Rattle.nagsched_protocol.specs.LiveError.{IsReadingError}
use Rattle.nagsched_protocol.specs.Input.{first_line_of}
use Rattle.nagsched_protocol.specs.LiveInput.{LinePrefix, prefix_of}
use Rattle.nagsched_protocol.specs.Script.{with_setup_refusal}
use Rattle.nagsched_protocol.specs.declared.line_reader.TheConstants.{SETUP_PREFIX_BYTES}
use Rattle.nagsched_protocol.proofs.KeptLemmas.{kept_setup}
use Rattle.nagsched_protocol.proofs.LiveInputLemmas.{if_ok_never}
use Rattle.nagsched_run.proofs.live.read_setup_line.Goals as goal

pub returns-in_err-whole : goal.returns-in_err-whole
returns-in_err-whole g c =
    let t = rw (c.requires) at c.in_err-whole.ensures.reading in
    let most : c.new-document.result.most ≡ SETUP_PREFIX_BYTES = ap (λ (x : LinePrefix). x.most) c.new-document.ensures in
    let p = err_from_is_err_and c.from_residual.result c.from_residual.ensures.1 in
    let after : IfErr c.from_residual.result (IsReadingError t.0) = rw (p.1, p.2) t.4 in
    (t.0, t.1, rw most at t.3, if_ok_never _ _ c.from_residual.ensures.0, after)

pub returns : goal.returns
returns g c =
    let t = rw (c.requires) at c.in_ok-whole.ensures.reading in
    let most : c.new-document.result.most ≡ SETUP_PREFIX_BYTES = ap (λ (x : LinePrefix). x.most) c.new-document.ensures in
    let kept = t.2.line_is ∙ ap (λ i. prefix_of i (first_line_of t.0)) most in
    let setup = ap (λ l. with_setup_refusal (setup_of l)) (c.bytes.ensures ∙ ap (λ (x : LinePrefix). x.bytes) kept) ∙ ap with_setup_refusal (kept_setup (first_line_of t.0)) in
    (t.0, t.1, rw most at t.3, (rw setup at c.read_setup.ensures, record { follows = t.2.whole_is; buffer_is = t.2.rest_is; ended = rw most at t.2.ended }), tt)
