use Rattle.std.proofs.lemmas.Result.{err_from_is_err_and}
use Rattle.nagsched_loop.proofs.FaultLemmas.{not_read}
use Rattle.nagsched_loop.proofs.resuming.resume_book.Goals as goal

pub returns-in_err-saved-clause-fault : goal.returns-in_err-saved-clause-fault
returns-in_err-saved-clause-fault c =
    let p = err_from_is_err_and c.from_residual.result c.from_residual.ensures.1 in
    rw (p.1, p.2) (not_read c.args.text.now _ c.in_err-saved.ensures.exact)
