use Rattle.std.proofs.Common.{◌∙◌, ap, false, length, sym}
use Rattle.std.specs.Prelude.{slice_get}
use Rattle.std.proofs.lemmas.List.{length-replicate}
use Rattle.check_objects.specs.Configuration.{object_count}
use Rattle.check_sched.proofs.SteadyLaws.{none_marked}
use Rattle.check_sched.proofs.sched.Sched.of.Goals as goal

pub invariant_of-result : goal.invariant_of-result
invariant_of-result c =
    let made = c.requires.parts in
    record {
      state = c.requires.state;
      marks = made.marks;
      hosts = made.hosts;
      intervals = made.intervals;
      steady_each = ap length made.steady ∙ length-replicate (object_count c.args.setup) false;
      steady = λ number set. absurd (none_marked (object_count c.args.setup) number (sym (ap (λ marks. slice_get marks number) made.steady) ∙ set));
    }
