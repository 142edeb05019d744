use Rattle.std.proofs.Common.{◌≡◌, map, drop}
use Rattle.setup_model.specs.Agreement.{each_from}
use Rattle.setup_model.specs.ParsedViews.{dependency, texts}
use Rattle.setup_model.specs.Ends.{dependency_test, dependency_list_test}
use Rattle.setup_reader.proofs.links.verify_dependencies.Given as goal

abbrev pub invariant-loop-index : goal.invariant-loop-index
invariant-loop-index l =
    dependency_list_test l.part (texts l.names.keys) (texts l.others.keys) (map dependency l.dependencies)
    ≡ each_from (dependency_test l.part (texts l.names.keys) (texts l.others.keys)) l.index (map dependency (drop l.index l.dependencies))
