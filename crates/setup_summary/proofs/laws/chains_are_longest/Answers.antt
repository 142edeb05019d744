use Rattle.setup_summary.proofs.LawLemmas.{longest_reached, none_longer}
use Rattle.setup_summary.proofs.laws.chains_are_longest.Goals as goal

pub returns-clause-reached : goal.returns-clause-reached
returns-clause-reached c = longest_reached

pub returns-clause-longest : goal.returns-clause-longest
returns-clause-longest c = none_longer
