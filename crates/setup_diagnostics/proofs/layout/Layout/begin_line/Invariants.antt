use Rattle.setup_diagnostics.specs.Shapes.{BeginsWith}
use Rattle.setup_diagnostics.proofs.layout.Layout.begin_line.Given as goal

abbrev pub invariant-loop : goal.invariant-loop
invariant-loop l = BeginsWith l.initial.self l.self
