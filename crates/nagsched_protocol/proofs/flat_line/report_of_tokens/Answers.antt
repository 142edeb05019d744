use Rattle.std.proofs.Common.{sym}
use Rattle.nagsched_protocol.proofs.FlatLemmas.{report_read}
use Rattle.nagsched_protocol.proofs.flat_line.report_of_tokens.Goals as goal

pub returns-in_ok-object : goal.returns-in_ok-object
returns-in_ok-object c =
    report_read c.args.setup.now c.args.reader.now c.next_text.new.reader c.next_number.new.reader c.next_number-2.new.reader c.in_ok-name.name.now
    c.in_ok-run.run' c.in_ok-next_number.field-0 c.in_ok-object.object c.in_ok-code.code c.in_ok-name.ensures c.in_ok-run.ensures c.in_ok-next_number.ensures
    (c.ends.ensures c.if-ends.true) (sym c.in_ok-code.ensures) (sym c.in_ok-object.ensures)
