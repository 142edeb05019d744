use Rattle.std.proofs.Common.{subst}
use Rattle.nagsched_handles.specs.declared.target.HandleTarget.{HandleTarget}
use Rattle.nagsched_handles.specs.Closing.{HasClosedDesk, IsUnchangedPass}
use Rattle.nagsched_handles.proofs.closing.close.Goals as goal

pub returns-in-Ok-clause-closed : goal.returns-in-Ok-clause-closed
returns-in-Ok-clause-closed c = λ is.
    rw (c.put.ensures) (subst (λ (b : HandleTarget). HasClosedDesk b c.in-Ok.book) c.take.ensures.value c.in-Ok.ensures.ended)

pub returns-in-Err-clause-open : goal.returns-in-Err-clause-open
returns-in-Err-clause-open c = λ is.
    rw (c.put-in-Err.ensures) (subst (λ (b : HandleTarget). IsUnchangedPass b c.in-Err.pass) c.take.ensures.value c.in-Err.ensures.err)
