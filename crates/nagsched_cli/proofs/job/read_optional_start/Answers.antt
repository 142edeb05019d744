use Rattle.std.proofs.Common.{◌∙◌, ap}
use Rattle.std.specs.Prelude.{codes}
use Rattle.clap.specs.Words.{found_of}
use Rattle.clap.proofs.WalkLemmas.{first_value-rows}
use Rattle.nagsched_cli.specs.Arguments.{start_of_text}
use Rattle.nagsched_cli.proofs.job.read_optional_start.Goals as goal

pub returns-clause-value : goal.returns-clause-value
returns-clause-value c =
    c.start_of_text.ensures.value ∙ ap start_of_text (c.get_str.ensures ∙ first_value-rows (found_of c.args.options.now) (codes "start"))
