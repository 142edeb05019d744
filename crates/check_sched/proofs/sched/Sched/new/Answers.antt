use Rattle.std.proofs.Common.{subst, sym}
use Rattle.check_sched.specs.State.{IsState}
use Rattle.check_sched.proofs.NewObjectLaws.{opening_can_be}
use Rattle.check_sched.proofs.sched.Sched.new.Goals as goal

pub of-requires-clause-state : goal.of-requires-clause-state
of-requires-clause-state c = subst IsState (sym c.in-Ok.ensures.opening) (opening_can_be c.args.setup c.args.start c.in-Ok.ensures.valid_setup c.requires)

pub returns-in-Ok-clause-state : goal.returns-in-Ok-clause-state
returns-in-Ok-clause-state c =
    subst IsState (sym c.of.ensures)
    (subst IsState (sym c.in-Ok.ensures.opening) (opening_can_be c.args.setup c.args.start c.in-Ok.ensures.valid_setup c.requires))
