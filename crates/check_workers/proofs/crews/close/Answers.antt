use Rattle.std.proofs.Common.{◌<◌, suc, length, arith}
use Rattle.std.proofs.Math.Nat.{lt_of_not-le}
use Rattle.std.proofs.lemmas.Bool.{false≢true}
use Rattle.check_desk.specs.Desks.{passes_of}
use Rattle.check_desk.specs.Passes.{pass_of}
use Rattle.check_workers.proofs.crews.close.Goals as goal

pub returns-in-Ok-clause-gathered : goal.returns-in-Ok-clause-gathered
returns-in-Ok-clause-gathered c =
    let bounded : passes_of c.args.desk < suc (length (pass_of c.in-Some.pass).numbers) = lt_of_not-le (λ h. false≢true (c.in-Ok.ensures.missing.1 h)) in
    (c.in-Some.pass, c.in-Some.ensures, c.in-Ok.ensures.history, c.in-Ok.ensures.calls, omega arith)
