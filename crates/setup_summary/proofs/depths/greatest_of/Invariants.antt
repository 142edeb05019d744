use Rattle.std.proofs.Common.{◌≡◌, drop}
use Rattle.std.specs.Prelude.{max}
use Rattle.setup_summary.specs.Chains.{greatest_of}
use Rattle.setup_summary.proofs.depths.greatest_of.Given as goal

abbrev pub invariant-loop-depth : goal.invariant-loop-depth
invariant-loop-depth l = greatest_of l.depths ≡ max l.most (greatest_of (drop l.depth-index l.depths))
