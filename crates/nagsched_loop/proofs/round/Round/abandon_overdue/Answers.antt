use Rattle.std.proofs.Common.{subst}
use Rattle.std.proofs.lemmas.Result.{err_from_is_err_and}
use Rattle.std.specs.Prelude.{Contains}
use Rattle.check_sched.specs.declared.call.Call.TheVariants as call
use Rattle.check_desk.specs.Passes.{pass_of}
use Rattle.nagsched_loop.proofs.RoundLemmas.{abandoned_more, abandoned_none}
use Rattle.nagsched_loop.proofs.RunLemmas.{keeps_none, keeps_then, left_shorter, names_itself}
use Rattle.nagsched_loop.proofs.round.Round.abandon_overdue.Goals as goal

pub loop-run-init : goal.loop-run-init
loop-run-init g c =
    ((c.requires, keeps_none (pass_of c.args.pass).seen c.args.runs.now.items), abandoned_none c.args.self.now.moment (pass_of c.args.pass) c.args.runs.now.items)

pub returns-in_err-pass-clause-returned : goal.returns-in_err-pass-clause-returned
returns-in_err-pass-clause-returned g c =
    let p = err_from_is_err_and c.from_residual.result c.from_residual.ensures.1 in
    let returned = c.in_err-pass.ensures.returned in
    rw (p.1, p.2) (returned.0, keeps_then _ _ _ _ _ _ c.loop-run.invariant.0.1 returned.1)

pub loop-run-smaller : goal.loop-run-smaller
loop-run-smaller g c =
    let listed = subst (λ runs. Contains runs c.in-Some.run') c.as_slice.ensures.value c.in-Some.ensures.listed in
    rw c.in_ok-pass.ensures.abandoned.2 (left_shorter (call.Abandon c.in-Some.run'.object c.in-Some.run'.number c.args.self.now.moment) _ c.in-Some.run' listed (names_itself c.in-Some.run' c.args.self.now.moment))

pub loop-run-preserved : goal.loop-run-preserved
loop-run-preserved g c =
    let listed = subst (λ runs. Contains runs c.in-Some.run') c.as_slice.ensures.value c.in-Some.ensures.listed in
    let returned = c.in_ok-pass.ensures.returned in
    let made = c.in_ok-pass.ensures.abandoned in (
      (returned.0, keeps_then _ _ _ _ _ _ c.loop-run.invariant.0.1 returned.1),
      abandoned_more c.args.self.now.moment c.in-Some.run' made.0 _ _ _ _ _ _ c.loop-run.invariant.1 listed c.in-Some.ensures.past made.1 made.2,
    )
