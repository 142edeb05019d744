use Rattle.setup_summary.proofs.LawLemmas.{summary_moved}
use Rattle.setup_summary.proofs.laws.no_start_changes_a_summary.Goals as goal

pub returns : goal.returns
returns c = summary_moved
