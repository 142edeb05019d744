use Rattle.std.proofs.Common.{◌∙◌, sym, ap}
use Rattle.ticket_lock.specs.Callers.{caller_after_call}
use Rattle.check_desk.specs.Desks.{desk_opening}
use Rattle.check_desk.specs.Passes.{hold_caller}
use Rattle.check_desk.proofs.BoardLemmas.{place_in_range}
use Rattle.check_desk.proofs.RecordLemmas.{brings_back, has_recorded}
use Rattle.check_desk.proofs.desk.Desk.finish.Goals as goal
use Rattle.check_desk.proofs.desk.Desk.finish.Goals.{in-Ok, in-Err}

pub leave-seat-requires-clause-place : goal.leave-seat-requires-clause-place
leave-seat-requires-clause-place c =
    place_in_range c.args.hold.book c.record-recorded.new.self (desk_opening c.args.self.now) c.args.call c.place_of-place.result c.record-recorded.result
    c.place_of-place.ensures.ok c.place_of-place.ensures.err c.record-recorded.ensures.step c.requires.1

pub leave-seat-requires-clause-book : goal.leave-seat-requires-clause-book
leave-seat-requires-clause-book c =
    let h = c.args.hold in
    let r = c.record-recorded.ensures in
    brings_back _ _ c.number.result _ _ c.args.call _ h.book c.record-recorded.new.self c.record-recorded.result c.number.ensures h.seen h.refused c.requires.1 c.place_of-place.ensures.ok
    r.step r.same r.replied r.refused

pub returns-clause-caller : goal.returns-clause-caller
returns-clause-caller c =
    let h = c.args.hold in
    elim c.match-recorded.branch [
      | in-Ok w ↦ rw (w.answer-is) (has_recorded _ _ c.number.ensures _ h.book c.record-recorded.new.self c.args.call _ (hold_caller h) _ c.leave-seat.ensures.caller_after_call h.seen w.in-Ok.ensures.replied.0)
      | in-Err w ↦ rw (w.answer-is) (c.leave-seat.ensures.caller_after_call ∙ ap (λ l. caller_after_call l (hold_caller h)) (w.in-Err.ensures.refused.0 ∙ sym h.seen))
    ]
