use Rattle.std.proofs.Common.{◌≡◌, map, take, string_bytes}
use Rattle.setup_model.specs.ParsedViews.{service}
use Rattle.setup_model.specs.Ends.{full_names}
use Rattle.setup_reader.proofs.links.full_names.Given as goal

abbrev pub invariant-loop-service : goal.invariant-loop-service
invariant-loop-service l = map string_bytes l.names.items ≡ full_names (map service (take l.service-index l.services))
