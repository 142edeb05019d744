use Rattle.nagsched_protocol.proofs.InputLemmas.{first_place}
use Rattle.nagsched_protocol.proofs.input.line_end.Goals as goal

pub returns-clause-index : goal.returns-clause-index
returns-clause-index c = first_place _ _ _ c.memchr.ensures
