use Rattle.std.proofs.Common.{drop}
use Rattle.setup_summary.proofs.ObjectDiffLemmas.{AreFound}
use Rattle.setup_summary.proofs.diffs.object_diffs.Given as goal

abbrev pub invariant-loop-place : goal.invariant-loop-place
invariant-loop-place l = AreFound l.setup (drop l.place l.objects) l.kept.items
