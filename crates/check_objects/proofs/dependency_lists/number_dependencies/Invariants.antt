use Rattle.std.proofs.Common.{◌≡◌, ◌++◌, map, take}
use Rattle.setup_model.specs.ParsedViews.{dependency}
use Rattle.check_objects.specs.Entries.{names_in}
use Rattle.check_objects.specs.Numbering.{offset_dependency}
use Rattle.check_objects.proofs.dependency_lists.number_dependencies.Given as goal

abbrev pub invariant-loop-item : goal.invariant-loop-item
invariant-loop-item g l =
    l.numbered.items ≡ l.initial.numbered.items ++ map (offset_dependency l.others (names_in l.objects.entries)) (map dependency (take l.item-index l.parsed))
