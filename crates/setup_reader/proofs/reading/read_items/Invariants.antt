use Rattle.std.proofs.Common.{◌≡◌, map, take}
use Rattle.serde_json.specs.View.{view}
use Rattle.setup_reader.proofs.reading.read_items.Given as goal

abbrev pub invariant-loop-value : goal.invariant-loop-value
invariant-loop-value g l = map g.T.Item.view_of l.items.items ≡ map g.T.Item.described (map view (take l.value-index l.values))
