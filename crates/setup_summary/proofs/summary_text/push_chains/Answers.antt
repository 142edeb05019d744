use Rattle.std.proofs.Common.{◌++◌, ◌∙◌, ap, append_assoc, string_bytes, codes}
use Rattle.std.proofs.lemmas.Result.{IfOk-equal}
use Rattle.setup_summary.specs.SummaryText.{chains_text, count_line}
use Rattle.setup_summary.proofs.summary_text.push_chains.Goals as goal

-- two lines, one after the other
pub returns : goal.returns
unfolding chains_text
returns c =
    let text = string_bytes c.args.text.now in
    let first = count_line (codes "dependency_chain") c.args.chains.dependencies in
    let second = count_line (codes "parent_chain") c.args.chains.parents in
    IfOk-equal c.push_count-2.result _ _ _ c.push_count-2.ensures (ap (λ l. l ++ second) c.in_ok-push_count.ensures ∙ append_assoc text first second)
