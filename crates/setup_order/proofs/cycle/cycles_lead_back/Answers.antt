use Rattle.setup_order.proofs.CycleLemmas.{back_is_cycle, cycle_leads_back}
use Rattle.setup_order.proofs.cycle.cycles_lead_back.Goals as goal

pub returns-clause-back : goal.returns-clause-back
returns-clause-back c = cycle_leads_back

pub returns-clause-cycle : goal.returns-clause-cycle
returns-clause-cycle c = back_is_cycle
