use Rattle.std.proofs.Common.{◌≡◌, map, take}
use Rattle.setup_model.specs.ParsedViews.{host, texts}
use Rattle.check_objects.specs.Entries.{host_entry}
use Rattle.check_objects.specs.Numbering.{numbered_host}
use Rattle.check_objects.proofs.object_index.index_hosts.Given as goal

abbrev pub invariant-loop-item : goal.invariant-loop-item
invariant-loop-item l = map host_entry l.hosts.entries ≡ map (numbered_host (texts l.names.keys)) (map host (take l.item-index l.sorted))
