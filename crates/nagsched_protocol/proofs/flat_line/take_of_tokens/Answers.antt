use Rattle.nagsched_protocol.proofs.FlatLemmas.{take_read}
use Rattle.nagsched_protocol.proofs.flat_line.take_of_tokens.Goals as goal

pub returns-then-ends : goal.returns-then-ends
returns-then-ends c =
    take_read c.args.reader.now c.next_number.new.reader c.in_ok-now.now c.in_ok-now.ensures (c.ends.ensures c.if-ends.true)
