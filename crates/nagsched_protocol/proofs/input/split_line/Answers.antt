use Rattle.std.proofs.Common.{sym}
use Rattle.nagsched_protocol.proofs.InputLemmas.{behind_fewer, behind_some, line_end_none, line_end_some}
use Rattle.nagsched_protocol.proofs.LiveInputLemmas.{behind_none, no_feed}
use Rattle.nagsched_protocol.proofs.input.split_line.Goals as goal

pub returns-in-Some-clause-line : goal.returns-in-Some-clause-line
returns-in-Some-clause-line c = line_end_some _ _ (sym c.in-Some.ensures.index)

pub returns-in-Some-clause-rest : goal.returns-in-Some-clause-rest
returns-in-Some-clause-rest c = behind_some _ _ c.in-Some.ensures.index

pub returns-in-None-clause-line : goal.returns-in-None-clause-line
returns-in-None-clause-line c = line_end_none _ (sym c.in-None.ensures.index)

pub returns-in-None-clause-rest : goal.returns-in-None-clause-rest
returns-in-None-clause-rest c = sym (behind_none c.args.bytes.now (no_feed c.args.bytes.now c.in-None.ensures.index))
