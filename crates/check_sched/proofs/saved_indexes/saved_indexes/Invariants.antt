use Rattle.std.proofs.Common.{drop}
use Rattle.check_sched.specs.SavedIndexes.{AreSavedIndexes}
use Rattle.check_sched.proofs.saved_indexes.saved_indexes.Given as goal

abbrev pub invariant-loop-place : goal.invariant-loop-place
invariant-loop-place l = AreSavedIndexes l.setup l.objects (drop l.place l.objects) l.saved_indexes.items
