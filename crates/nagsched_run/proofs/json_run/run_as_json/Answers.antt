use Rattle.std.proofs.lemmas.Result.{err_from_is_err_and}
use Rattle.nagsched_run.proofs.JsonRunLemmas.{cut_run, flushed_noted, unflushed_run, unread_run}
use Rattle.nagsched_run.proofs.json_run.run_as_json.Goals as goal

pub returns-in_err-input : goal.returns-in_err-input
returns-in_err-input g c =
    let p = err_from_is_err_and c.from_residual.result c.from_residual.ensures.1 in
    rw (p.1, p.2) (unread_run c.args.start _ _ _ _, tt)

pub returns-in_err-outcome : goal.returns-in_err-outcome
returns-in_err-outcome g c =
    let r = c.in_ok-input.ensures in
    let p = err_from_is_err_and c.from_residual-in_err-outcome.result c.from_residual-in_err-outcome.ensures.1 in
    rw (p.1, p.2) (cut_run c.args.start _ _ _ _ _ c.in_ok-input.input.items r.all r.left.0 (rw c.deref.ensures.value at c.in_err-outcome.ensures.wrote), tt)

pub returns-in_err-flush : goal.returns-in_err-flush
returns-in_err-flush g c =
    let r = c.in_ok-input.ensures in
    let p = err_from_is_err_and c.from_residual-in_err-flush.result c.from_residual-in_err-flush.ensures.1 in
    rw (p.1, p.2) (
      unflushed_run c.args.start _ _ _ _ _ _ c.in_ok-input.input.items c.in_err-flush.ensures.kind r.all r.left.0
          (rw c.deref.ensures.value at c.in_ok-outcome.ensures.wrote) c.flush.ensures.kept,
      tt,
    )

pub returns : goal.returns
returns g c =
    let r = c.in_ok-input.ensures in
    flushed_noted c.args.start _ _ _ _ _ _ c.in_ok-input.input.items c.args.note.now c.answer.new.note r.all r.left.0
    (rw c.deref.ensures.value at c.in_ok-outcome.ensures.wrote) c.flush.ensures.kept
    (rw c.deref.ensures.value at c.in_ok-outcome.ensures.outcome) (rw c.deref.ensures.value at c.in_ok-outcome.ensures.note)
