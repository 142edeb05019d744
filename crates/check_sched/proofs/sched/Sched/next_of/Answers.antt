use Rattle.check_sched.specs.Sched.{state_of}
use Rattle.check_sched.proofs.ReportLaws.{is_time_reads, next_of_state}
use Rattle.check_sched.proofs.sched.Sched.next_of.Goals as goal

pub returns-clause-within : goal.returns-clause-within
returns-clause-within c =
    rw c.next.ensures (is_time_reads c.at.result.now.next (next_of_state (state_of c.self.inside) c.args.number c.at.result.now c.self.invariant.state c.at.ensures))
