use Rattle.nagsched_protocol.proofs.FlatLemmas.{whole_digits}
use Rattle.nagsched_protocol.proofs.flat_line.whole_number.Goals as goal

pub returns : goal.returns
returns c =
    whole_digits c.args.digits.now c.to_u64.result (rw c.as_bytes-digits.ensures.value at c.if-digits-eq45.false)
    (rw (c.scan.ensures.parts, c.as_bytes-digits.ensures.value) at c.to_u64.ensures)
