use Rattle.std.proofs.Common.{◌≡◌, map, drop}
use Rattle.setup_model.specs.Agreement.{each, each_from}
use Rattle.setup_model.specs.ParsedViews.{service}
use Rattle.setup_reader.specs.Verification.{description_test}
use Rattle.setup_reader.proofs.names.verify_descriptions.Given as goal

abbrev pub invariant-loop-index : goal.invariant-loop-index
invariant-loop-index l = each (description_test) (map service l.services) ≡ each_from (description_test) l.index (map service (drop l.index l.services))
