use Rattle.std.proofs.Common.{◌∙◌, ap}
use Rattle.std.specs.Prelude.{option_and_then}
use Rattle.clap.specs.Words.{found_of}
use Rattle.clap.proofs.WalkLemmas.{first_value-rows}
use Rattle.nagsched_cli.specs.Arguments.{number_between}
use Rattle.nagsched_cli.proofs.job.read_number.Goals as goal

pub returns-in_err-get_str-clause-value : goal.returns-in_err-get_str-clause-value
returns-in_err-get_str-clause-value c =
    c.from_residual.ensures
    ∙ ap (option_and_then (number_between c.args.least c.args.most))
    (c.in_err-get_str.ensures ∙ first_value-rows (found_of c.args.options.now) c.args.name.now)

pub returns-clause-value : goal.returns-clause-value
returns-clause-value c =
    c.parse_number.ensures.value
    ∙ ap (option_and_then (number_between c.args.least c.args.most))
    (c.in_ok-get_str.ensures ∙ first_value-rows (found_of c.args.options.now) c.args.name.now)
