use Rattle.std.proofs.Common.{◌≡◌, map, take}
use Rattle.setup_model.specs.ParsedViews.{service, texts}
use Rattle.check_objects.specs.Entries.{service_entry}
use Rattle.check_objects.specs.Numbering.{numbered_service}
use Rattle.check_objects.proofs.object_index.index_services.Given as goal

abbrev pub invariant-loop-item : goal.invariant-loop-item
invariant-loop-item l = map service_entry l.services.entries ≡ map (numbered_service (texts l.names.keys)) (map service (take l.item-index l.sorted))
