use Rattle.std.proofs.Common.{◌∙◌, ap₂}
use Rattle.std.specs.List.{list_any}
use Rattle.std.specs.Str.{bytes_eq}
use Rattle.nagsched_cli.proofs.WordLemmas.{any_name}
use Rattle.nagsched_cli.proofs.argument_names.has_switch.Goals as goal

pub returns : goal.returns
returns c =
    c.is_among.ensures ∙ any_name c.switch_name.result.now c.option_names.result.now
    ∙ ap₂ (λ n ns. list_any (λ m. bytes_eq m n) ns) c.switch_name.ensures c.option_names.ensures
