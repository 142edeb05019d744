use Rattle.nagsched_cli.proofs.ArgumentLemmas.{number_some, number_none}
use Rattle.nagsched_cli.proofs.job.parse_number.Goals as goal

pub returns-in-Ok-clause-value : goal.returns-in-Ok-clause-value
returns-in-Ok-clause-value c =
    let h = c.in-Ok.ensures.value in number_some c.args.least c.args.most c.args.text.now _ h.0.0 h.0.1 c.if-least-number.true c.if-number-most.true

pub returns-in-Err-clause-value : goal.returns-in-Err-clause-value
returns-in-Err-clause-value c = let h = c.in-Err.ensures.value in number_none c.args.least c.args.most c.args.text.now h.0
