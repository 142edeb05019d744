use Rattle.std.proofs.Common.{◌≡◌, ◌++◌, map, drop}
use Rattle.setup_model.specs.ParsedViews.{texts}
use Rattle.check_objects.specs.Numbering.{index_of_name}
use Rattle.setup_model.specs.Text.{text}
use Rattle.check_objects.proofs.object_index.number_parents.Given as goal

abbrev pub invariant-loop-parent : goal.invariant-loop-parent
invariant-loop-parent l =
    map (index_of_name (texts l.names.keys)) (map text l.parents) ≡ l.numbers.items ++ map (index_of_name (texts l.names.keys))
    (map text (drop l.parent-index l.parents))
