use Rattle.std.proofs.Common.{◌≡◌, drop}
use Rattle.std.specs.Prelude.{max}
use Rattle.setup_summary.specs.Chains.{depth_over}
use Rattle.setup_summary.proofs.depths.depth_over.Given as goal

abbrev pub invariant-loop-link : goal.invariant-loop-link
invariant-loop-link l = depth_over l.depths l.links ≡ max l.most (depth_over l.depths (drop l.link-index l.links))
