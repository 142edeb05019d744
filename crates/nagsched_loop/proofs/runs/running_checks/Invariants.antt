use Rattle.std.proofs.Common.{◌≡◌, ℕ, ◌<◌, Some}
use Rattle.std.specs.Prelude.{Contains}
use Rattle.std.specs.List.{All}
use Rattle.check_sched.specs.State.{run_number_of}
use Rattle.nagsched_loop.specs.Loop.{IsRunning, run_with_limit}
use Rattle.nagsched_loop.proofs.runs.running_checks.Given as goal

abbrev pub invariant-loop-place : goal.invariant-loop-place
invariant-loop-place l =
    All (λ run. IsRunning l.sched run × (run.limit ≡ l.limit)) l.runs.items
    × ((object number : ℕ) → object < l.place → run_number_of object l.sched ≡ Some number → Contains l.runs.items (run_with_limit object number l.limit))
