use Rattle.std.proofs.Common.{◌≡◌, map, drop}
use Rattle.setup_model.specs.Agreement.{each, each_from}
use Rattle.setup_model.specs.ParsedViews.{host, texts}
use Rattle.setup_reader.specs.Verification.{host_parents_test}
use Rattle.setup_reader.proofs.links.verify_parents.Given as goal

abbrev pub invariant-loop-index : goal.invariant-loop-index
invariant-loop-index l = each (host_parents_test (texts l.names.keys)) (map host l.hosts) ≡ each_from (host_parents_test (texts l.names.keys)) l.index (map host (drop l.index l.hosts))
