use Rattle.std.proofs.Common.{◌≡◌, Ok, false, length, ap, sym, arith}
use Rattle.std.specs.Prelude.{nat_lt}
use Rattle.std.proofs.lemmas.Bool.Decides.{nat_tests}
use Rattle.std.proofs.lemmas.Result.{err_from_is_err_and}
use Rattle.nagsched_protocol.specs.declared.script.TheConstants.{MAX_INPUT_BYTES}
use Rattle.nagsched_protocol.specs.DrillScript.{drill_script_of}
use Rattle.nagsched_protocol.proofs.ScriptLemmas.{part_fails, part_stops}
use Rattle.nagsched_protocol.proofs.drill_script.DrillScript.read.Goals as goal

pub returns-in_err-commands : goal.returns-in_err-commands
unfolding drill_script_of
returns-in_err-commands c =
    let short : nat_lt MAX_INPUT_BYTES (length c.args.input.now) ≡ false = grind (arith, nat_tests, c.if-input-gt-MAX_INPUT_BYTES.false) in
    let p = err_from_is_err_and c.from_residual-in_err-commands.result c.from_residual-in_err-commands.ensures.1 in
    let setup = rw c.split_line.ensures.line at c.in_ok-setup.ensures in
    rw (p.1, p.2, short) (part_stops _ _ _ _ setup (part_fails _ _ _ (rw c.split_line.ensures.rest at c.in_err-commands.ensures)))

pub returns : goal.returns
unfolding drill_script_of
returns c =
    let short : nat_lt MAX_INPUT_BYTES (length c.args.input.now) ≡ false = grind (arith, nat_tests, c.if-input-gt-MAX_INPUT_BYTES.false) in
    let setup = rw c.split_line.ensures.line at c.in_ok-setup.ensures in
    let commands = rw c.split_line.ensures.rest at c.in_ok-commands.ensures in
    rw (short, setup, commands) (ap Ok (sym c.in_ok-over.ensures))
