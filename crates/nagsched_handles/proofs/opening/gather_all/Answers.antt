use Rattle.std.proofs.Common.{◌∙◌, ap, length}
use Rattle.ticket_lock.specs.Callers.{Caller}
use Rattle.check_sched.specs.declared.call.Call.{Call}
use Rattle.check_sched.specs.declared.call.Reply.{Reply}
use Rattle.check_desk.specs.Passes.{pass_of}
use Rattle.nagsched_handles.specs.Opening.{IsFreshPassOf}
use Rattle.nagsched_handles.proofs.Fresh.{joined_numbers, joined_seen, last_too, left_all, shorter, still_all, still_none}
use Rattle.nagsched_handles.proofs.opening.gather_all.Goals as goal

pub loop-pass-preserved : goal.loop-pass-preserved
loop-pass-preserved c =
    let desk = c.args.desk.now in
    let was = c.loop-pass.invariant in
    let one = pass_of c.loop-pass.whole in
    let other = pass_of c.in-Some-pop.pass in
    let made = c.gather-whole.ensures.gathered_caller in
    let popped = c.in-Some-pop.ensures.items in
    let fresh = last_too (IsFreshPassOf desk) c.loop-pass.rest.items c.pop.new.self.items c.in-Some-pop.pass popped was.1 in
    let fewer = shorter c.loop-pass.rest.items c.pop.new.self.items c.in-Some-pop.pass popped in
    let numbers = ap (λ (m : Caller Call Reply). length m.numbers) made ∙ joined_numbers one other in
    let calls = ap (λ (m : Caller Call Reply). m.calls) made in (
      c.gather-whole.ensures.desk,
      left_all (IsFreshPassOf desk) c.loop-pass.rest.items c.pop.new.self.items c.in-Some-pop.pass popped was.1,
      still_all _ _ _ _ _ _ numbers fresh.alone fewer was.2,
      still_none _ _ _ calls was.3 fresh.calls,
      ap (λ (m : Caller Call Reply). m.seen) made ∙ joined_seen one other was.4 fresh.seen,
    )
