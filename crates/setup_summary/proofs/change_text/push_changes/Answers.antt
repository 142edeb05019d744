use Rattle.std.proofs.Common.{◌∙◌, ◌++◌, ap, arith, length}
use Rattle.setup_summary.specs.ChangeText.{change_lines_among, figures_text}
use Rattle.setup_summary.proofs.FigureLemmas.{length_kept}
use Rattle.setup_summary.proofs.ChangeTextLemmas.{changed_is, pushed_all}
use Rattle.setup_summary.proofs.change_text.push_changes.Goals as goal

pub push_object_changes-requires-clause-each : goal.push_object_changes-requires-clause-each
push_object_changes-requires-clause-each c =
    let long = length_kept c.args.setup.now c.args.saved.now in
    let is = ap length (c.deref-2.ensures.value ∙ c.in_ok-kept.ensures.kept) in
    omega (arith, long, is)

pub returns-clause-output : goal.returns-clause-output
returns-clause-output c =
    let setup = c.args.setup.now in
    let saved = c.args.saved.now in
    let figures = c.in_ok-push_figures.ensures ∙ (λ i. c.new-lines.ensures.bytes i ++ figures_text (c.of.ensures i)) in
    let lines = ap (change_lines_among setup) (c.deref-2.ensures.value ∙ c.in_ok-kept.ensures.kept) ∙ changed_is setup saved in
    let all = c.as_str.ensures.value ∙ c.in_ok-push_object_changes.ensures ∙ (λ i. figures i ++ lines i) in
    pushed_all c.push_str.result _ _ _ _ all c.push_str.ensures.bytes
