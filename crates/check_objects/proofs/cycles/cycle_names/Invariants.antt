use Rattle.std.proofs.Common.{◌≡◌, map, take, string_bytes}
use Rattle.check_objects.specs.Entries.{objects_in}
use Rattle.check_objects.specs.Cycles.{name_among}
use Rattle.check_objects.proofs.cycles.cycle_names.Given as goal

abbrev pub invariant-loop-number : goal.invariant-loop-number
invariant-loop-number l = map string_bytes l.names.items ≡ map (name_among (objects_in l.hosts.entries l.services.entries)) (take l.number-index l.cycle)
