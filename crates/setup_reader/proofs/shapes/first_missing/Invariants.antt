use Rattle.std.proofs.Common.{◌≡◌, drop, find, map}
use Rattle.serde_json.specs.View.{view}
use Rattle.setup_model.specs.Member.{as_row}
use Rattle.setup_reader.specs.Shapes.{is_missing}
use Rattle.setup_reader.proofs.shapes.first_missing.Given as goal

abbrev pub invariant-loop-member : goal.invariant-loop-member
invariant-loop-member l =
    find (is_missing (view l.object)) (map as_row l.members) ≡ find (is_missing (view l.object)) (map as_row (drop l.member-index l.members))
