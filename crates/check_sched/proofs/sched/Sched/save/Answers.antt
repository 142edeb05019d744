use Rattle.std.proofs.Common.{◌≡◌, ap, subst, sym}
use Rattle.check_saved_state.specs.Saved.{IsSaved, Saved}
use Rattle.check_sched.specs.Saved.{saved_of}
use Rattle.check_sched.specs.State.{IsState, State}
use Rattle.check_sched.proofs.SaveLaws.{saved_of_state}
use Rattle.check_sched.proofs.sched.Sched.save.Goals as goal

pub of-requires : goal.of-requires
of-requires c =
    let made : Saved = record { start = c.self.inside.start; runs = c.self.inside.runs; objects = c.in_ok-objects.objects.items } in
    let same : saved_of c.args.self.now ≡ made = λ i. record {
      start = ap (λ (s : State). s.start) (sym c.self.view_is) i;
      runs = ap (λ (s : State). s.runs) (sym c.self.view_is) i;
      objects = sym c.in_ok-objects.ensures i;
    } in
    subst IsSaved same (saved_of_state c.args.self.now (subst IsState c.self.view_is c.self.invariant.state))
