use Rattle.nagsched_run.proofs.CutLaws.{cut_and_gone_on}
use Rattle.nagsched_run.proofs.laws.a_cut_run_resumes.Goals as goal

pub returns : goal.returns
returns c = cut_and_gone_on
