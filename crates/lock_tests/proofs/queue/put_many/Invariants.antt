use Rattle.std.proofs.Common.{◌≡◌, length}
use Rattle.lock_tests.proofs.queue.put_many.Given as goal

abbrev pub invariant-loop-number : goal.invariant-loop-number
invariant-loop-number l = length l.queue ≡ 65101
