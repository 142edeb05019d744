use Rattle.std.proofs.lemmas.Result.{err_from_is_err_and}
use Rattle.nagsched_run.proofs.LiveLemmas.{leaves_all, leaves_left}
use Rattle.nagsched_protocol.proofs.OutputLemmas.{Appends-Keeps}
use Rattle.nagsched_protocol.proofs.WrittenLemmas.{left_clauses}
use Rattle.nagsched_run.proofs.live.refuse.Goals as goal

pub returns-in_err-refuse_as-clause-fault : goal.returns-in_err-refuse_as-clause-fault
returns-in_err-refuse_as-clause-fault g c =
    let p = err_from_is_err_and c.from_residual.result c.from_residual.ensures.1 in
    rw (p.1, p.2) (leaves_left _ _ _ _ c.in_err-refuse_as.ensures)

pub returns-in_err-refuse_as-clause-kind : goal.returns-in_err-refuse_as-clause-kind
returns-in_err-refuse_as-clause-kind g c =
    let p = err_from_is_err_and c.from_residual.result c.from_residual.ensures.1 in
    rw (p.1, p.2) (left_clauses _ _ _ _ c.in_err-refuse_as.ensures).1

pub returns-in_err-flush-clause-fault : goal.returns-in_err-flush-clause-fault
returns-in_err-flush-clause-fault g c =
    let k = c.in_err-flush.ensures in
    let p = err_from_is_err_and c.from_residual-in_err-flush.result c.from_residual-in_err-flush.ensures.1 in
    rw (p.1, p.2, k.kind) (leaves_all _ _ _ _ c.in_ok-refuse_as.ensures k.kept)

pub returns-clause-written : goal.returns-clause-written
returns-clause-written g c = Appends-Keeps _ _ _ _ c.in_ok-refuse_as.ensures c.in_ok-flush.ensures.kept
