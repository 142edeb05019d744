use Rattle.std.proofs.Common.{◌≡◌, subst, ◌∙◌}
use Rattle.std.specs.Prelude.{IfOk}
use Rattle.check_sched.specs.State.{objects_at}
use Rattle.check_sched.proofs.sched.opening_objects.Goals as goal

pub returns-clause-items : goal.returns-clause-items
returns-clause-items c = subst (λ times. IfOk c.objects_at.result (λ objects. objects.items ≡ objects_at c.args.setup.now times))
    (c.deref.ensures.value ∙ c.in_ok-times.ensures.times) c.objects_at.ensures.items
