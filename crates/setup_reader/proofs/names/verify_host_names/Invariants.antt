use Rattle.std.proofs.Common.{◌≡◌, map, drop}
use Rattle.setup_model.specs.Agreement.{each, each_from}
use Rattle.setup_model.specs.ParsedViews.{host}
use Rattle.setup_reader.specs.Verification.{host_name_test}
use Rattle.setup_reader.proofs.names.verify_host_names.Given as goal

abbrev pub invariant-loop-index : goal.invariant-loop-index
invariant-loop-index l = each (host_name_test) (map host l.hosts) ≡ each_from (host_name_test) l.index (map host (drop l.index l.hosts))
