use Rattle.check_saved_state.proofs.GrowthLemmas.{by_values, grown}
use Rattle.check_saved_state.proofs.laws.earlier_formats_are_read.Goals as goal

pub returns : goal.returns
returns c = record {
  grown = λ format ms others d later. grown format ms others d later;
  by_values = λ format other d e same runs. by_values format other d e same runs;
}
