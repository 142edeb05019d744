use Rattle.std.proofs.Common.{◌≡◌, ◌++◌, [], ◌∷◌, rules}
use Rattle.serde_json.specs.View.{view}
use Rattle.nagsched_jobs.proofs.CheckLemmas.{line_too_long, line_written}
use Rattle.nagsched_jobs.proofs.check.render_tree.Goals as goal

pub returns-in-Ok-clause-report : goal.returns-in-Ok-clause-report
returns-in-Ok-clause-report c =
    let pushed : c.push.new.self.items ≡ c.in-Ok.text.items ++ 10 ∷ [] = search rules in
    λ document setup good.
    line_written document setup (view c.args.tree.now) c.in-Ok.text.items c.push.new.self.items good c.in-Ok.ensures.same c.in-Ok.ensures.text
    c.in-Ok.ensures.fits pushed

pub returns-in-Err-TooLong-clause-report : goal.returns-in-Err-TooLong-clause-report
returns-in-Err-TooLong-clause-report c =
    λ document setup good.
    line_too_long document setup (view c.args.tree.now) c.in_ok-render_refusal-in-Err-TooLong.field-0.text.items
    c.in_ok-render_refusal-in-Err-TooLong.field-0.outcome good (c.in-Err-TooLong.ensures.too_long c.in-Err-TooLong.field-0-is) c.in_ok-render_refusal-in-Err-TooLong.ensures
