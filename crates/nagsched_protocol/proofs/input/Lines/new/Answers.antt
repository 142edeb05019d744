use Rattle.nagsched_protocol.proofs.LineLaws.{lines_are, lines_only}
use Rattle.nagsched_protocol.proofs.input.Lines.new.Goals as goal

pub returns-clause-lines : goal.returns-clause-lines
returns-clause-lines c = lines_are c.args.input.now

pub returns-clause-only : goal.returns-clause-only
returns-clause-only c = lines_only c.args.input.now
