use Rattle.std.proofs.Common.{◌≡◌, ◌∙◌, ap, subst, sym}
use Rattle.check_spread.proofs.BoundLemmas.{first_times_below}
use Rattle.check_sched.specs.Saved.{state_after_resume}
use Rattle.check_sched.specs.Sched.{state_with}
use Rattle.check_sched.specs.State.{IsState}
use Rattle.check_sched.proofs.ResumedLaws.{resumed_is_state}
use Rattle.check_sched.proofs.sched.Sched.resume.Goals as goal

pub of-requires-clause-state : goal.of-requires-clause-state
of-requires-clause-state c =
    let setup = c.args.setup in
    let made = c.in-Ok.ensures in
    let is : state_with setup c.args.start c.runs.result c.in-Ok.parts ≡ state_after_resume setup c.args.saved.now c.args.start =
    ap (λ runs. state_with setup c.args.start runs c.in-Ok.parts) c.runs.ensures ∙ made.state_after_resume in
    subst IsState (sym is)
    (resumed_is_state setup c.args.saved.now c.args.start made.valid_setup made.saved c.requires
    (first_times_below setup c.args.start made.valid_setup c.requires))
