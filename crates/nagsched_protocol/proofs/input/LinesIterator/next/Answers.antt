use Rattle.std.proofs.Common.{◌≡◌, sym, ◌∙◌, ap, length, arith, ◌∷◌}
use Rattle.nagsched_protocol.proofs.InputLemmas.{lines_next}
use Rattle.nagsched_protocol.specs.Input.{lines_of}
use Rattle.nagsched_protocol.proofs.input.LinesIterator.next.Goals as goal

pub returns-clause-steps : goal.returns-clause-steps
returns-clause-steps c =
    lines_next _ _ _ (sym c.is_empty.ensures ∙ c.if-is_empty.false) c.split_line.ensures.line c.split_line.ensures.rest

pub returns-clause-goes : goal.returns-clause-goes
returns-clause-goes c =
    let e = returns-clause-steps c in
    record { on = λ _. (tt, tt, omega (arith, ap length e)); keeps = tt; rests = λ _. tt }
