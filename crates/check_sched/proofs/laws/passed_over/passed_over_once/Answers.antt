use Rattle.check_sched.proofs.PassedOverLaws.{chooses, chosen_at_last, chosen_once}
use Rattle.check_sched.proofs.laws.passed_over.passed_over_once.Goals as goal

pub returns : goal.returns
returns c = record {
  once = λ s history waiting time other legal waits lets not. chosen_once waiting time s history other legal waits lets not;
  chosen = λ s history waiting time legal waits lets many. chosen_at_last waiting time s history legal waits lets many;
  chooses = λ s waiting now could moment left. chooses s waiting now could moment left;
}
