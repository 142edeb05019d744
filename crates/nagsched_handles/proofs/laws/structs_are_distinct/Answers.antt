use Rattle.nagsched_handles.proofs.StructLaws.{calls_distinct, entries_distinct, refusals_distinct, replies_distinct, standings_distinct}
use Rattle.nagsched_handles.proofs.FaultLaws.{faults_distinct}
use Rattle.nagsched_handles.proofs.laws.structs_are_distinct.Goals as goal

pub returns : goal.returns
returns c = record {
  standings = λ a b same. standings_distinct a b same;
  calls = λ a b same. calls_distinct a b same;
  replies = λ a b same. replies_distinct a b same;
  entries = λ a b same. entries_distinct a b same;
  refusals = λ a b same. refusals_distinct a b same;
  saved_faults = λ a b same. faults_distinct a b same;
}
