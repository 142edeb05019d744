use Rattle.std.proofs.Common.{map, take}
use Rattle.setup_model.specs.Member.{as_row}
use Rattle.setup_diagnostics.specs.Schema.{NamesAll}
use Rattle.setup_diagnostics.proofs.schema.push_parts.Given as goal

abbrev pub invariant-loop-member : goal.invariant-loop-member
invariant-loop-member l = NamesAll (map as_row (take l.member-index l.members)) l.layout
