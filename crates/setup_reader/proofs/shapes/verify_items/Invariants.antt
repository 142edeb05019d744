use Rattle.std.proofs.Common.{◌≡◌, map, drop}
use Rattle.serde_json.specs.View.{view}
use Rattle.setup_model.specs.Agreement.{each_from}
use Rattle.setup_model.specs.Member.{as_row}
use Rattle.setup_model.specs.Place.{item_place}
use Rattle.setup_reader.specs.Reading.{items_test}
use Rattle.setup_reader.specs.Shapes.{shape_test}
use Rattle.setup_reader.proofs.shapes.verify_items.Given as goal

abbrev pub invariant-loop-index : goal.invariant-loop-index
invariant-loop-index l =
    items_test l.part (map as_row l.members) (map view l.items)
    ≡ each_from (λ i d. shape_test (item_place l.part i) (map as_row l.members) d) l.index (map view (drop l.index l.items))
