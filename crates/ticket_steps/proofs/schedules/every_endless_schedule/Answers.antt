use Rattle.ticket_steps.proofs.EndlessLemmas.{drawn_holds}
use Rattle.ticket_steps.proofs.schedules.every_endless_schedule.Goals as goal

pub returns : goal.returns
returns g c = record { fair = λ s is fair n own ticket draw. drawn_holds g.K.Kept s is fair n own ticket draw }
