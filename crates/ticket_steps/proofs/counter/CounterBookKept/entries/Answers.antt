use Rattle.ticket_steps.proofs.counter.CounterBookKept.entries.Goals as goal

pub returns : goal.returns
returns c = c.as_slice.ensures.value
