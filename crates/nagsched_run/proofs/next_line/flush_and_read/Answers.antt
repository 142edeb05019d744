use Rattle.std.proofs.lemmas.Result.{err_from_is_err_and}
use Rattle.nagsched_run.proofs.NextLineLemmas.{read_asked, written_asked}
use Rattle.nagsched_run.proofs.next_line.flush_and_read.Goals as goal

pub returns-in_err-as_live_result-clause-errors : goal.returns-in_err-as_live_result-clause-errors
returns-in_err-as_live_result-clause-errors g c =
    let p = err_from_is_err_and c.from_residual.result c.from_residual.ensures.1 in
    rw (p.1, p.2) (written_asked _ _ c.in_err-as_live_result.ensures)

pub returns-clause-errors : goal.returns-clause-errors
returns-clause-errors g c = read_asked c.read_more.result c.read_more.ensures.errors
