use Rattle.std.proofs.Common.{◌∙◌, sym}
use Rattle.std.proofs.lemmas.Result.{err_from_is_err_and}
use Rattle.nagsched_protocol.proofs.KeptLemmas.{said_command, said_fails}
use Rattle.nagsched_protocol.proofs.line_reader.read_buffered.Goals as goal

pub returns-in_err-read_command : goal.returns-in_err-read_command
returns-in_err-read_command g c text kept =
    let p = err_from_is_err_and c.from_residual.result c.from_residual.ensures.1 in
    rw (p.1, p.2) (said_fails (g.C.Command.meaning c.args.setup.now) c.args.number c.args.line.now text _ kept (sym c.is_blank.ensures ∙ c.if-is_blank.false)
    (rw (c.bytes.ensures) at c.in_err-read_command.ensures))

pub returns : goal.returns
returns g c text kept =
    said_command (g.C.Command.meaning c.args.setup.now) c.args.number c.args.line.now text _ kept (sym c.is_blank.ensures ∙ c.if-is_blank.false)
    (rw (c.bytes.ensures) at c.in_ok-read_command.ensures)
