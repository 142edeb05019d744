use Rattle.std.proofs.lemmas.Result.{IfOk-weaker}
use Rattle.nagsched_jobs.proofs.check.render_line.Goals as goal

pub returns-in-Good-clause-report : goal.returns-in-Good-clause-report
returns-in-Good-clause-report c =
    let good = rw c.in-Good.is at c.in_ok-tree.ensures.reading in
    IfOk-weaker c.render_tree.result _ _ (λ report h. h c.args.document.now c.in-Good.setup good) c.render_tree.ensures.report
