use Rattle.std.proofs.Common.{◌≡◌, drop, find, map}
use Rattle.serde_json.specs.View.{view}
use Rattle.check_saved_state.specs.Table.{as_row}
use Rattle.setup_diagnostics.specs.SavedShapes.{is_missing}
use Rattle.setup_diagnostics.proofs.saved_shapes.first_missing.Given as goal

abbrev pub invariant-loop-member : goal.invariant-loop-member
invariant-loop-member l =
    find (is_missing l.format (view l.object)) (map as_row l.members)
    ≡ find (is_missing l.format (view l.object)) (map as_row (drop l.member-index l.members))
