use Rattle.std.proofs.lemmas.Result.{err_from_is_err_and}
use Rattle.nagsched_jobs.proofs.DrillDriveLemmas.{cut_drill, noted_drill, unflushed_drill, unread_drill}
use Rattle.nagsched_jobs.proofs.drill.drill.Goals as goal

pub returns-in_err-input : goal.returns-in_err-input
returns-in_err-input g c =
    let p = err_from_is_err_and c.from_residual.result c.from_residual.ensures.1 in
    rw (p.1, p.2) (unread_drill _ _ _ _ _ _ _ c.in_err-input.ensures.errors, tt)

pub returns-in_err-outcome : goal.returns-in_err-outcome
returns-in_err-outcome g c =
    let p = err_from_is_err_and c.from_residual-in_err-outcome.result c.from_residual-in_err-outcome.ensures.1 in
    rw (p.1, p.2) (
      cut_drill _ _ _ _ _ _ c.in_ok-input.input.items c.in_ok-input.ensures.all c.in_ok-input.ensures.left.0 _ _
          (rw c.deref.ensures.value at c.in_err-outcome.ensures.wrote),
      tt,
    )

pub returns-in_err-flush : goal.returns-in_err-flush
returns-in_err-flush g c =
    let p = err_from_is_err_and c.from_residual-in_err-flush.result c.from_residual-in_err-flush.ensures.1 in
    rw (p.1, p.2) (
      unflushed_drill _ _ _ _ _ _ c.in_ok-input.input.items c.in_ok-input.ensures.all c.in_ok-input.ensures.left.0 _ _ _
          (rw c.deref.ensures.value at c.in_ok-outcome.ensures.wrote.written) c.flush.ensures.kept c.in_err-flush.ensures.kind,
      tt,
    )

pub returns : goal.returns
returns g c =
    noted_drill _ _ _ _ _ _ c.in_ok-input.input.items c.in_ok-input.ensures.all c.in_ok-input.ensures.left.0 _ _ _ c.args.note.now c.answer.new.note
    (rw c.deref.ensures.value at c.in_ok-outcome.ensures.wrote.written) c.flush.ensures.kept
    (rw c.deref.ensures.value at c.in_ok-outcome.ensures.outcome) (rw c.deref.ensures.value at c.in_ok-outcome.ensures.note)
