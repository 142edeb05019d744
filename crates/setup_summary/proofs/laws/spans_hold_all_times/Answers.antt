use Rattle.setup_summary.proofs.LawLemmas.{earliest_is_least, latest_is_greatest}
use Rattle.setup_summary.proofs.laws.spans_hold_all_times.Goals as goal

pub returns-clause-first : goal.returns-clause-first
returns-clause-first c = earliest_is_least

pub returns-clause-last : goal.returns-clause-last
returns-clause-last c = latest_is_greatest
