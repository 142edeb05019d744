use Rattle.std.proofs.Common.{◌≡◌, drop, find, map}
use Rattle.serde_json.specs.View.{view}
use Rattle.setup_model.specs.Member.{as_row}
use Rattle.setup_reader.specs.Shapes.{has_wrong_kind}
use Rattle.setup_reader.proofs.shapes.first_wrong_kind.Given as goal

abbrev pub invariant-loop-member : goal.invariant-loop-member
invariant-loop-member l =
    find (has_wrong_kind (view l.object)) (map as_row l.members) ≡ find (has_wrong_kind (view l.object)) (map as_row (drop l.member-index l.members))
