use Rattle.std.proofs.Common.{◌≡◌, Ok, Err}
use Rattle.std.proofs.lemmas.Result.{err_from_is_err_and}
use Rattle.check_objects.specs.Setup.{setup_of}
use Rattle.nagsched_protocol.specs.Input.{first_line_of}
use Rattle.nagsched_protocol.specs.Script.{with_setup_refusal}
use Rattle.nagsched_protocol.specs.declared.line_reader.TheConstants.{SETUP_PREFIX_BYTES}
use Rattle.nagsched_protocol.proofs.LiveInputLemmas.{behind_size}
use Rattle.nagsched_run.proofs.LiveLemmas.{gives_refused, live_unwritten, reads_spend, written_spends, written_is}
use Rattle.nagsched_run.proofs.ContinuationLemmas.{ends_short, if_later, setup_refusal, whole_gone}
use Rattle.nagsched_run.proofs.live.converse.Goals as goal

pub continue_live-requires-clause-end : goal.continue_live-requires-clause-end
continue_live-requires-clause-end g c =
    let t = c.in_ok-setup.ensures in
    let s : with_setup_refusal (setup_of (first_line_of t.0)) ≡ Ok c.in-Ok.setup = rw (c.in-Ok.is) at t.3.0 in
    ends_short c.in-Ok.setup t.0 _ _ _ s t.3.1.follows t.3.1.buffer_is t.3.1.ended

pub continue_live-requires-clause-bounded : goal.continue_live-requires-clause-bounded
continue_live-requires-clause-bounded g c =
    let t = c.in_ok-setup.ensures in
    rw (t.3.1.buffer_is) (behind_size SETUP_PREFIX_BYTES t.0 t.2)

pub returns-in_err-setup-clause-conversation : goal.returns-in_err-setup-clause-conversation
returns-in_err-setup-clause-conversation g c =
    let p = err_from_is_err_and c.from_residual.result c.from_residual.ensures.1 in
    rw (p.1) (live_unwritten c.args.start _ _ _ _ c.in_err-setup.ensures.0 c.in_err-setup.ensures.1)

pub returns-in-Ok-clause-conversation : goal.returns-in-Ok-clause-conversation
returns-in-Ok-clause-conversation g c =
    let t = c.in_ok-setup.ensures in
    let s : with_setup_refusal (setup_of (first_line_of t.0)) ≡ Ok c.in-Ok.setup = rw (c.in-Ok.is) at t.3.0 in
    whole_gone _ c.in-Ok.setup t.0 _ _ _ _ _ c.in_ok-setup.whole _ s t.3.1.follows t.1 (rw (t.3.1.buffer_is) at c.continue_live.ensures.continuation)

pub returns-in-Err-Refused-clause-conversation : goal.returns-in-Err-Refused-clause-conversation
returns-in-Err-Refused-clause-conversation g c =
    let t = c.in_ok-setup.ensures in
    let s : with_setup_refusal (setup_of (first_line_of t.0)) ≡ Err c.in-Err-Refused.refusal =
    gives_refused _ c.in_ok-setup.setup _ c.in-Err-Refused.refusal _ t.3.0 c.in-Err-Refused.is
    (rw (c.in-Err-Refused.is) at c.in-Err-Refused.field-0-is) in
    let r = c.refuse.ensures in
    rw (← written_is _ _ c.as_live_result.ensures)
    (setup_refusal _ t.0 _ _ _ _ c.in-Err-Refused.refusal c.in_ok-setup.whole _ s t.1 t.2 t.3.1.follows t.3.1.ended r.outcome r.written r.fault)

pub returns-clause-conversation : goal.returns-clause-conversation
returns-clause-conversation g c =
    let t = c.in_ok-setup.ensures in
    live_unwritten c.args.start _ _ _ _ t.0 t.1

pub returns-in_err-setup-clause-spent : goal.returns-in_err-setup-clause-spent
returns-in_err-setup-clause-spent g c =
    let t = c.in_err-setup.ensures in
    let p = err_from_is_err_and c.from_residual.result c.from_residual.ensures.1 in
    rw (p.1, p.2) (reads_spend _ t.0 _ _ t.1 t.4)

pub returns-in-Ok-clause-spent : goal.returns-in-Ok-clause-spent
returns-in-Ok-clause-spent g c = let t = c.in_ok-setup.ensures in if_later _ t.0 _ _ _ t.1 (rw (t.3.1.buffer_is) at c.continue_live.ensures.spent)

pub returns-in-Err-Refused-clause-spent : goal.returns-in-Err-Refused-clause-spent
returns-in-Err-Refused-clause-spent g c = written_spends _ _ _ _ c.as_live_result.ensures
