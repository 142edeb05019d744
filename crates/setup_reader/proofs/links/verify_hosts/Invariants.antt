use Rattle.std.proofs.Common.{◌≡◌, map, drop}
use Rattle.setup_model.specs.Agreement.{each, each_from}
use Rattle.setup_model.specs.ParsedViews.{service, texts}
use Rattle.setup_reader.specs.Verification.{service_host_test}
use Rattle.setup_reader.proofs.links.verify_hosts.Given as goal

abbrev pub invariant-loop-index : goal.invariant-loop-index
invariant-loop-index l = each (service_host_test (texts l.names.keys)) (map service l.services) ≡ each_from (service_host_test (texts l.names.keys)) l.index (map service (drop l.index l.services))
