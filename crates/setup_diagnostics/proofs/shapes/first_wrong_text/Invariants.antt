use Rattle.std.proofs.Common.{◌≡◌, drop}
use Rattle.serde_json.specs.View.{items_view}
use Rattle.setup_diagnostics.specs.Shapes.{first_wrong_text}
use Rattle.setup_diagnostics.proofs.shapes.first_wrong_text.Given as goal

abbrev pub invariant-loop-index : goal.invariant-loop-index
invariant-loop-index l = first_wrong_text 0 (items_view l.values) ≡ first_wrong_text l.index (items_view (drop l.index l.values))
