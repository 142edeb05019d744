use Rattle.nagsched_run.proofs.live.continue_live.Goals as goal

pub returns-in-Fresh-clause-continuation : goal.returns-in-Fresh-clause-continuation
returns-in-Fresh-clause-continuation g c = rw (c.in-Fresh.is) (c.continue_fresh.ensures.continuation)

pub returns-in-Resumed-clause-continuation : goal.returns-in-Resumed-clause-continuation
returns-in-Resumed-clause-continuation g c = rw (c.in-Resumed.is) (c.continue_resumed.ensures.continuation)
