use Rattle.std.proofs.Common.{◌∙◌, ap}
use Rattle.std.specs.List.{list_any}
use Rattle.std.specs.Str.{bytes_eq}
use Rattle.clap.specs.Walk.{texts}
use Rattle.nagsched_cli.specs.ArgumentFaults.{name_part}
use Rattle.nagsched_cli.proofs.WordLemmas.{any_word}
use Rattle.nagsched_cli.proofs.argument_faults.is_given.Goals as goal

pub returns : goal.returns
returns c =
    c.is_named.ensures ∙ any_word c.switch_name.result.now c.args.words.now
    ∙ ap (λ n. list_any (λ w. bytes_eq (name_part w) n) (texts c.args.words.now)) c.switch_name.ensures
