use Rattle.setup_diagnostics.specs.Shapes.{BeginsWith}
use Rattle.setup_diagnostics.proofs.schema.push_required.Given as goal

abbrev pub invariant-loop-member : goal.invariant-loop-member
invariant-loop-member l = BeginsWith l.initial.layout l.layout
