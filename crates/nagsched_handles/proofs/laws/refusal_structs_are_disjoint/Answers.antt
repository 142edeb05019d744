use Rattle.nagsched_handles.proofs.FaultLaws.{apart}
use Rattle.nagsched_handles.proofs.laws.refusal_structs_are_disjoint.Goals as goal

pub returns : goal.returns
returns c = apart
