use Rattle.std.proofs.Common.{ap₂, ◌∙◌, ◌||◌}
use Rattle.std.proofs.lemmas.Result.{IfOk-weaker}
use Rattle.clap.specs.Words.{with_rule}
use Rattle.nagsched_cli.proofs.job.build_drill.Goals as goal

pub returns : goal.returns
returns c =
    let with_start = c.in_ok-arg.ensures.shape c.number_option.ensures.local ∙ ap₂ with_rule c.new_command.ensures.app c.number_option.ensures.rule in
    let start_local = c.in_ok-arg.ensures.globals ∙ ap₂ (◌||◌) c.new_command.ensures.local c.number_option.ensures.local in
    let with_workers = c.in_ok-arg-2.ensures.shape c.number_option-2.ensures.local ∙ ap₂ with_rule with_start c.number_option-2.ensures.rule in
    let workers_local = c.in_ok-arg-2.ensures.globals ∙ ap₂ (◌||◌) start_local c.number_option-2.ensures.local in
    IfOk-weaker c.arg-3.result _ _ (λ r h. (
      h.shape c.number_option-3.ensures.local ∙ ap₂ with_rule with_workers c.number_option-3.ensures.rule,
      h.globals ∙ ap₂ (◌||◌) workers_local c.number_option-3.ensures.local,
    )) c.arg-3.ensures
