use Rattle.std.proofs.Common.{subst}
use Rattle.nagsched_handles.specs.declared.target.HandleTarget.{HandleTarget}
use Rattle.nagsched_handles.specs.Closing.{HasClosedDesk, IsUnchangedPass}
use Rattle.nagsched_c.proofs.closing.nagsched_close.Goals as goal

pub returns-then-is_closed-clause-closed : goal.returns-then-is_closed-clause-closed
returns-then-is_closed-clause-closed c = λ is.
    let closed = c.close-is_closed.ensures.closed c.if-is_closed.true in
    rw (← c.in-Some.ensures.value, c.of-2.ensures)
    (subst (λ (b : HandleTarget). HasClosedDesk b c.close-is_closed.new.target) c.deref_mut.ensures.value closed)

pub returns-else-is_closed-clause-err : goal.returns-else-is_closed-clause-err
returns-else-is_closed-clause-err c = λ is.
    let is_open = c.close-is_closed.ensures.open c.if-is_closed.false in
    rw (← c.in-Some.ensures.value, c.of-2.ensures)
    (subst (λ (b : HandleTarget). IsUnchangedPass b c.close-is_closed.new.target) c.deref_mut.ensures.value is_open)
