use Rattle.std.proofs.Common.{◌≡◌, map, take}
use Rattle.setup_model.specs.Keys.{names_of}
use Rattle.setup_model.specs.ParsedViews.{host, texts}
use Rattle.check_objects.proofs.object_index.number_names.Given as goal

abbrev pub invariant-loop-item : goal.invariant-loop-item
invariant-loop-item l = texts l.names.keys ≡ names_of (map host (take l.item-index l.sorted))
