use Rattle.std.proofs.lemmas.Result.{err_from_is_err_and}
use Rattle.check_desk.specs.Passes.{pass_of}
use Rattle.nagsched_loop.proofs.RoundLemmas.{answered_more, answered_none, called_all, ended_by_call, ended_by_event}
use Rattle.nagsched_loop.proofs.RunLemmas.{keeps_none, keeps_then}
use Rattle.nagsched_loop.proofs.round.Round.make_calls.Goals as goal

pub loop-call-init : goal.loop-call-init
loop-call-init g c =
    ((c.requires, keeps_none (pass_of c.args.pass).seen c.args.runs.now.items), answered_none g.O.Environment.does (pass_of c.args.pass) c.args.runs.now.items c.args.environment.now)

pub returns-in_err-pass-in-Some-Call-clause-returned : goal.returns-in_err-pass-in-Some-Call-clause-returned
returns-in_err-pass-in-Some-Call-clause-returned g c =
    let p = err_from_is_err_and c.from_residual.result c.from_residual.ensures.1 in
    let returned = c.in_err-pass-in-Some-Call.ensures.returned in
    rw (p.1, p.2) (returned.0, keeps_then _ _ _ _ _ _ c.loop-call.invariant.0.1 returned.1)

pub returns-in-None-clause-called : goal.returns-in-None-clause-called
returns-in-None-clause-called g c = called_all g.O.Environment.does _ _ _ _ _ _ _ _ c.loop-call.invariant.1 c.in-None.ensures

pub loop-call-preserved : goal.loop-call-preserved
loop-call-preserved g c =
    let returned = c.in_ok-pass-in-Some-Call.ensures.returned in
    let made = c.in_ok-pass-in-Some-Call.ensures.made in
    let came = rw (c.in-Some-Call.field-0-is) at c.in-Some-Call.ensures in (
      (returned.0, keeps_then _ _ _ _ _ _ c.loop-call.invariant.0.1 returned.1),
      answered_more g.O.Environment.does _ _ made.0 _ _ _ _ _ _ _ _ _ _ c.loop-call.invariant.1 came made.1 made.2 made.3,
    )

pub returns-in_err-pass-in-Some-Call-clause-ended : goal.returns-in_err-pass-in-Some-Call-clause-ended
returns-in_err-pass-in-Some-Call-clause-ended g c =
    let p = err_from_is_err_and c.from_residual.result c.from_residual.ensures.1 in
    let made = c.in_err-pass-in-Some-Call.ensures in
    let came = rw (c.in-Some-Call.field-0-is) at c.in-Some-Call.ensures in
    rw (p.1, p.2, made.stays.0) (ended_by_call g.O.Environment.does _ _ _ _ _ _ _ _ _ _ c.loop-call.invariant.1 came made.ended)

pub returns-in-Some-Ends-clause-ended : goal.returns-in-Some-Ends-clause-ended
returns-in-Some-Ends-clause-ended g c =
    let came = rw (c.in-Some-Ends.field-0-is) at c.in-Some-Ends.ensures in
    ended_by_event g.O.Environment.does _ _ _ _ _ _ _ _ _ c.loop-call.invariant.1 came
