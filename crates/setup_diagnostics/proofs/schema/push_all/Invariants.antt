use Rattle.setup_diagnostics.specs.Shapes.{BeginsWith}
use Rattle.setup_diagnostics.proofs.schema.push_all.Given as goal

abbrev pub invariant-loop-letter : goal.invariant-loop-letter
invariant-loop-letter l = BeginsWith l.initial.layout l.layout
