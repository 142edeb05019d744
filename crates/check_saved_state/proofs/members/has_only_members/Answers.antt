use Rattle.std.proofs.Common.{◌∙◌, ap, map, false, option_map}
use Rattle.std.specs.Prelude.{unwrap_or}
use Rattle.std.specs.List.{list_all}
use Rattle.setup_reader.specs.Shapes.{keys_in}
use Rattle.check_saved_state.specs.Table.{as_row, is_known}
use Rattle.check_saved_state.proofs.GrowthLemmas.{only_seen}
use Rattle.check_saved_state.proofs.members.has_only_members.Goals as goal

pub returns-in-Some : goal.returns-in-Some
returns-in-Some c =
    c.are_known.ensures ∙ only_seen c.args.format c.args.members.now _
    ∙ ap (λ o. unwrap_or (option_map (λ inside. list_all (is_known c.args.format (map as_row c.args.members.now)) (keys_in inside)) o) false) c.in-Some.ensures
