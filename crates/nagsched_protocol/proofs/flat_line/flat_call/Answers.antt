use Rattle.nagsched_protocol.proofs.FlatLemmas.{tree_of_tokens}
use Rattle.nagsched_protocol.proofs.flat_line.flat_call.Goals as goal

pub returns : goal.returns
returns c =
    rw (tree_of_tokens c.args.line.now c.in-Ok.ensures.cases.1) (rw (c.in-Ok-new.ensures.ok, c.in-Ok.ensures.cases.0) at c.call_of_tokens.ensures)
