use Rattle.setup_summary.proofs.LawLemmas.{reasons_add_up}
use Rattle.setup_summary.proofs.laws.each_object_has_one_reason.Goals as goal

pub returns : goal.returns
returns c = reasons_add_up
