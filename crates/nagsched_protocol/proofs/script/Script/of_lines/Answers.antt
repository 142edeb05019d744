use Rattle.std.proofs.Common.{◌∙◌, Ok, ap, refl}
use Rattle.std.proofs.lemmas.List.{map-id}
use Rattle.std.proofs.lemmas.Result.{err_from_is_err_and}
use Rattle.nagsched_protocol.proofs.ScriptLemmas.{part_fails}
use Rattle.nagsched_protocol.proofs.script.Script.of_lines.Goals as goal

pub returns-in_err-commands : goal.returns-in_err-commands
returns-in_err-commands c =
    let p = err_from_is_err_and c.from_residual.result c.from_residual.ensures.1 in
    rw (p.1, p.2) (part_fails _ _ _ (rw (c.setup.ensures) at c.in_err-commands.ensures))

pub returns : goal.returns
returns c =
    let read = (rw (c.setup.ensures) at c.in_ok-commands.ensures) ∙ ap Ok (map-id c.in_ok-commands.commands.items) in
    rw read refl
