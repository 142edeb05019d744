use Rattle.std.proofs.Common.{◌≡◌, drop}
use Rattle.serde_json.specs.View.{items_view}
use Rattle.setup_model.specs.Agreement.{with_front}
use Rattle.check_saved_state.specs.Reading.{objects_from}
use Rattle.check_saved_state.proofs.reading.read_objects.Given as goal

abbrev pub invariant-loop-index : goal.invariant-loop-index
invariant-loop-index l =
    objects_from l.format 0 (items_view l.values) ≡ with_front l.objects.items (objects_from l.format l.index (items_view (drop l.index l.values)))
