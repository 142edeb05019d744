use Rattle.setup_diagnostics.proofs.SavedShapeLemmas.{found}
use Rattle.setup_diagnostics.proofs.laws.each_refusal_of_a_shape_has_a_fault.Goals as goal

pub returns : goal.returns
returns c = found
