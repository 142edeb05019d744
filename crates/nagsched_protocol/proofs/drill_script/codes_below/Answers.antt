use Rattle.std.proofs.Common.{◌∙◌, ◌∷◌, [], ap, sym, map}
use Rattle.std.proofs.lemmas.List.{map-append}
use Rattle.nagsched_protocol.specs.DrillCommanded.{drill_command}
use Rattle.nagsched_protocol.specs.DrillScript.{returns_after, returns_below}
use Rattle.nagsched_protocol.proofs.DrillLemmas.{returns_none, returns_next}
use Rattle.nagsched_protocol.proofs.drill_script.codes_below.Goals as goal

pub loop-command-init : goal.loop-command-init
loop-command-init c = c.in_ok-lists.ensures ∙ returns_none c.args.count

pub loop-command-preserved : goal.loop-command-preserved
loop-command-preserved c =
    c.set_codes.ensures
    ∙ ap (returns_after (drill_command c.in-Some.command)) c.loop-command.invariant
    ∙ returns_next c.args.count (map drill_command c.loop-command.yielded) (drill_command c.in-Some.command)
    ∙ ap (returns_below c.args.count) (sym (map-append drill_command c.loop-command.yielded (c.in-Some.command ∷ [])))
