use Rattle.std.proofs.Common.{◌<◌, arith, ap, length, subst}
use Rattle.check_objects.specs.Configuration.{object_count}
use Rattle.check_sched.specs.State.{IsStandingOf, State}
use Rattle.check_sched.specs.Sched.{state_of}
use Rattle.check_sched.proofs.ReportLaws.{standing_of_state, standing_read}
use Rattle.check_sched.proofs.sched.Sched.standing.Goals as goal

pub returns-clause-lawful : goal.returns-clause-lawful
returns-clause-lawful c =
    let count = ap (λ (s : State). object_count s.setup) c.self.view_is in
    let known : c.args.number < object_count c.self.inside.setup = omega (arith, count) in
    let in_range : c.args.number < length c.self.inside.standings.items = let m = c.self.invariant.state.one_standing_each in omega (arith, known, m) in
    let before = standing_read c.self.inside.standings.items c.args.number c.index.result.now in_range c.index.ensures in
    rw (← c.self.view_is) (subst (IsStandingOf c.self.inside.setup c.args.number) before
    (standing_of_state (state_of c.self.inside) c.args.number c.self.invariant.state known))
