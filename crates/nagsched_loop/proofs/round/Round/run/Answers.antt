use Rattle.std.proofs.Common.{subst}
use Rattle.std.proofs.lemmas.Result.{err_from_is_err_and}
use Rattle.nagsched_loop.specs.Loop.{HasSlept}
use Rattle.nagsched_loop.proofs.RoundLemmas.{begun_keeps, ended_after_calls, taken_round}
use Rattle.nagsched_loop.proofs.RunLemmas.{keeps_same, keeps_then}
use Rattle.nagsched_loop.proofs.round.Round.run.Goals as goal

pub returns-in_err-pass-2-clause-returned : goal.returns-in_err-pass-2-clause-returned
returns-in_err-pass-2-clause-returned g c =
    let p = err_from_is_err_and c.from_residual-in_err-pass-2.result c.from_residual-in_err-pass-2.ensures.1 in
    let returned = c.in_err-pass-2.ensures.returned in
    rw (p.1, p.2) (returned.0, keeps_then _ _ _ _ _ _ c.in_ok-pass.ensures.returned.1 returned.1)

pub returns-in_err-pass-3-clause-returned : goal.returns-in_err-pass-3-clause-returned
returns-in_err-pass-3-clause-returned g c =
    let p = err_from_is_err_and c.from_residual-in_err-pass-3.result c.from_residual-in_err-pass-3.ensures.1 in
    let returned = c.in_err-pass-3.ensures.returned in
    let before = keeps_then _ _ _ _ _ _ c.in_ok-pass.ensures.returned.1 c.in_ok-pass-2.ensures.returned.1 in
    rw (p.1, p.2, c.in_err-pass-3.ensures.stays.1) (returned.0, (keeps_then _ _ _ _ _ _ before (keeps_same _ _ _ returned.1)))

pub returns-clause-returned : goal.returns-clause-returned
returns-clause-returned g c =
    let returned = c.in_ok-pass-3.ensures.returned in
    let before = keeps_then _ _ _ _ _ _ c.in_ok-pass.ensures.returned.1 c.in_ok-pass-2.ensures.returned.1 in
    (returned.0, keeps_then _ _ _ _ _ _ before (begun_keeps g.O.Environment.does _ _ _ _ _ _ _ _ c.in_ok-pass-3.ensures.begun returned.1))

pub returns-clause-taken : goal.returns-clause-taken
returns-clause-taken g c =
    let slept =
    subst (λ runs. HasSlept g.O.Environment.does c.args.self.now.moment c.in_ok-pass-3.reply runs c.take.new.environment c.rest.new.environment)
    c.as_slice.ensures.value c.rest.ensures in
    taken_round g.O.Environment.does c.args.self.now.moment _ _ _ _ _ _ _ _ _ _ _ _ _ c.in_ok-pass.ensures.called c.in_ok-pass-2.ensures.abandoned
    c.in_ok-pass-2.ensures.none_left c.in_ok-pass-3.ensures.taken c.in_ok-pass-3.ensures.begun slept

pub returns-in_err-pass-2-clause-ended : goal.returns-in_err-pass-2-clause-ended
returns-in_err-pass-2-clause-ended g c =
    let p = err_from_is_err_and c.from_residual-in_err-pass-2.result c.from_residual-in_err-pass-2.ensures.1 in
    rw (p.1, p.2) (ended_after_calls g.O.Environment.does _ _ _ _ _ _ _ c.in_ok-pass.ensures.called c.in_err-pass-2.ensures.ended)

pub returns-in_err-pass-3-clause-ended : goal.returns-in_err-pass-3-clause-ended
returns-in_err-pass-3-clause-ended g c =
    let p = err_from_is_err_and c.from_residual-in_err-pass-3.result c.from_residual-in_err-pass-3.ensures.1 in
    rw (p.1, p.2, c.in_err-pass-3.ensures.stays.0)
    (ended_after_calls g.O.Environment.does _ _ _ _ _ _ _ c.in_ok-pass.ensures.called c.in_err-pass-3.ensures.ended)
