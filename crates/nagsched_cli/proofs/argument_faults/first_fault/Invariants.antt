use Rattle.std.proofs.Common.{◌≡◌, ℕ, ◌<◌, None}
use Rattle.clap.specs.Walk.{texts}
use Rattle.nagsched_cli.specs.ArgumentFaults.{fault_at}
use Rattle.nagsched_cli.proofs.argument_faults.first_fault.Given as goal

abbrev pub invariant-loop-place : goal.invariant-loop-place
invariant-loop-place l = (place : ℕ) → place < l.place → fault_at l.topic (texts l.arguments) place ≡ None
