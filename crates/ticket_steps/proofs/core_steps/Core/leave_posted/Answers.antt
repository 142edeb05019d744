use Rattle.std.proofs.Common.{◌≡◌, ◌+◌, ◌^◌, ◌<◌, sym, ap, ◌∙◌, refl, subst, ℕ, set, None}
use Rattle.ticket_steps.specs.CoreStates.{core_state}
use Rattle.ticket_steps.specs.Faults.{Shows}
use Rattle.ticket_steps.specs.declared.seats.CoreSeat.{CoreSeat}
use Rattle.ticket_steps.specs.declared.seats.Phase.TheVariants.{Posted}
use Rattle.ticket_steps.specs.declared.events.Event.TheVariants.{Leave}
use Rattle.ticket_steps.specs.declared.events.Seen.TheVariants as seen
use Rattle.ticket_steps.specs.declared.events.Fault.TheVariants.{Phase}
use Rattle.ticket_steps.specs.Cores.{core_state_of}
use Rattle.ticket_steps.specs.Happenings.{left_posted, Moves}
use Rattle.ticket_steps.specs.Seats.{seat_after_leave}
use Rattle.ticket_steps.proofs.CoreLemmas.{left_posted_moves, can_end, changed_is, ticket_served}
use Rattle.ticket_steps.proofs.FaultLemmas.{steps_fault, steps_shown, shows_lawful, read_is, unfit_leave_posted}
use Rattle.ticket_steps.proofs.SeatLemmas.{posted_holds}
use Rattle.ticket_steps.proofs.core_steps.Core.leave_posted.Given.{Over}
use Rattle.ticket_steps.proofs.core_steps.Core.leave_posted.Goals.{After-leave, In-Posted}
use Rattle.ticket_steps.proofs.core_steps.Core.leave_posted.Goals as goal

pub returns-in_default-clause-step : goal.returns-in_default-clause-step
returns-in_default-clause-step g c =
    let self = c.args.self.now in let e = c.in_ok-at.ensures.found in
    let is = read_is self.seats.items c.in_ok-at.at e.1 c.index.ensures in
    let unfit = unfit_leave_posted g.K.Kept self.numbers self.draws (core_state_of self) self.lawful c.in_ok-at.at c.args.seat e.0 e.1 e.2 e.3
    (λ ticket posts. c.in_default.not-Posted ticket (ap (λ (s : CoreSeat). s.phase) is ∙ posts)) in
    steps_fault g.K.Kept self.draws (core_state_of self) (Leave c.args.seat None) Phase unfit

-- the ticket of the seat that leaves
ticket_is : (g : Over) (c : In-Posted g) → (c.in-Posted.ticket ≡ c.args.self.now.grants) × (c.in-Posted.ticket < 2 ^ 60)
ticket_is g c = let ticket = c.in-Posted.ticket in
    ticket_served c.args.self.now c.in_ok-at.at c.in_ok-at.ensures.found.1 c.index.ensures ticket (posted_holds ticket _ c.in-Posted.is)

pub end-requires : goal.end-requires
end-requires g c = can_end c.args.self.now c.in_ok-at.at c.in_ok-at.ensures.found.1 c.index_mut.ensures.value

pub leave-requires-clause-small : goal.leave-requires-clause-small
leave-requires-clause-small g c = (ticket_is g (goal.at.leave-requires-clause-small g c).In-Posted).1

pub leave-requires-clause-served : goal.leave-requires-clause-served
leave-requires-clause-served g c = (ticket_is g (goal.at.leave-requires-clause-served g c).In-Posted).0

-- the seat leaves, and nothing more is recorded
leaves : (g : Over) (c : After-leave g) → let self = c.args.self.now in
    Shows g.K.Kept self.draws (core_state_of self) (Leave c.args.seat None) (seen.Left None)
    (core_state self.next c.leave.new.self (set self.seats.items c.in_ok-at.at c.end.new.self) (core_state_of self).book)
leaves g c =
    let self = c.args.self.now in
    let e = c.in_ok-at.ensures.found in
    let ticket = c.in-Posted.ticket in
    let s = changed_is self.seats.items c.in_ok-at.at seat_after_leave (Posted ticket) e.1 c.index.ensures c.in-Posted.is c.index_mut.ensures.value c.end.ensures in
    let first = ticket_served self c.in_ok-at.at e.1 c.index.ensures ticket (posted_holds ticket _ c.in-Posted.is) in
    let up : c.leave.new.self ≡ self.grants + 1 = c.leave.ensures ∙ ap (λ (n : ℕ). n + 1) first.0 in
    let b = core_state_of self in
    let seats = set self.seats.items c.in_ok-at.at c.end.new.self in (
      left_posted c.args.seat,
      refl,
      refl,
      subst (λ (n : ℕ). Moves g.K.Kept self.draws b (left_posted c.args.seat) (core_state self.next n seats b.book)) (sym up)
          (left_posted_moves g.K.Kept self.draws b c.in_ok-at.at c.args.seat e.0 e.1 e.2 ticket c.end.new.self s.0 s.1),
      tt,
    )

pub invariant_of-self-clause-lawful : goal.invariant_of-self-clause-lawful
invariant_of-self-clause-lawful g c =
    shows_lawful g.K.Kept _ _ _ _ _ _ c.args.self.now.lawful (leaves g (goal.at.invariant_of-self-clause-lawful g c).After-leave)

pub returns-clause-step : goal.returns-clause-step
returns-clause-step g c = steps_shown g.K.Kept _ _ _ _ _ (leaves g (goal.at.returns-clause-step g c).After-leave)
