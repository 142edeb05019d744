use Rattle.check_sched.proofs.LastingLaws.{after_lasts, lost_is_shown, opened_lasts}
use Rattle.check_sched.proofs.laws.lasting.never_forgotten.Goals as goal

pub returns : goal.returns
returns c = record {
  opened = λ setup start object calls at enabled. opened_lasts setup start object calls at enabled;
  kept = λ s calls object at has. after_lasts object s calls at has;
  shown = λ s call object has lost. lost_is_shown object s call has lost;
}
