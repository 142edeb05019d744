use Rattle.check_saved_state.proofs.TornLemmas.{torn}
use Rattle.check_saved_state.proofs.laws.torn_texts_are_refused.Goals as goal

pub returns : goal.returns
returns c = λ saved front rest next h is. torn saved front rest next h is
