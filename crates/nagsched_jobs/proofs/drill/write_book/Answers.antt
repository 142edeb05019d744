use Rattle.std.proofs.lemmas.Result.{err_from_is_err_and}
use Rattle.nagsched_jobs.proofs.drill.write_book.Goals as goal

pub returns-in_err-write_history-clause-wrote : goal.returns-in_err-write_history-clause-wrote
returns-in_err-write_history-clause-wrote g c =
    let p = err_from_is_err_and c.from_residual.result c.from_residual.ensures.1 in
    rw (p.1, p.2) (rw (c.setup.ensures, c.sched.ensures, c.entries.ensures, c.refused.ensures) at c.in_err-write_history.ensures)
