use Rattle.std.proofs.Common.{◌≡◌, map, drop}
use Rattle.setup_model.specs.Agreement.{each, each_from}
use Rattle.setup_model.specs.ParsedViews.{host}
use Rattle.setup_reader.specs.Verification.{host_range_test}
use Rattle.setup_reader.proofs.ranges.verify_host_ranges.Given as goal

abbrev pub invariant-loop-index : goal.invariant-loop-index
invariant-loop-index l = each host_range_test (map host l.hosts) ≡ each_from host_range_test l.index (map host (drop l.index l.hosts))
