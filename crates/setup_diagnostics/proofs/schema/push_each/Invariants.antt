use Rattle.std.proofs.Common.{map, take}
use Rattle.setup_model.specs.Member.{as_row}
use Rattle.setup_diagnostics.specs.Schema.{NamesEach}
use Rattle.setup_diagnostics.specs.Shapes.{BeginsWith}
use Rattle.setup_diagnostics.proofs.schema.push_each.Given as goal

abbrev pub invariant-loop-member : goal.invariant-loop-member
invariant-loop-member l = record {
  extends : BeginsWith l.initial.layout l.layout;
  names : NamesEach (map as_row (take l.member-index l.members)) l.layout;
}
