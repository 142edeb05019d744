use Rattle.std.proofs.Common.{◌∙◌, ap, map}
use Rattle.std.specs.Prelude.{filter_map}
use Rattle.nagsched_protocol.specs.DrillCommanded.{drill_command}
use Rattle.nagsched_protocol.specs.DrillScript.{moment_of, returns_below}
use Rattle.nagsched_protocol.proofs.DrillLemmas.{drill_is}
use Rattle.nagsched_protocol.proofs.drill_script.DrillScript.over.Goals as goal

pub returns : goal.returns
returns c =
    drill_is c.args.setup c.args.commands.items _ _
    (c.in_ok-codes.ensures ∙ ap (λ n. returns_below n (map drill_command c.args.commands.items)) c.len.ensures.count)
    (c.in_ok-moments.ensures ∙ ap (filter_map (λ x. moment_of (drill_command x))) c.deref.ensures.value)
