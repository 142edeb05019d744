use Rattle.std.proofs.Common.{◌≡◌, ◌+◌, ◌^◌, ◌<◌, sym, ap, ◌∙◌, refl, subst, ℕ, set, Result, Ok, Err, Some, None}
use mathlib.Core.Option.{some}
use lib.ListN.{get_elem?}
use Rattle.ticket_steps.specs.declared.books.Kept.{Ghosts}
use Rattle.ticket_steps.specs.Books.{BookState, book_state}
use Rattle.ticket_steps.specs.CoreStates.{CoreState, core_state}
use Rattle.ticket_steps.specs.Faults.{Shows}
use Rattle.ticket_steps.specs.declared.books.NoMemory.{NoMemory}
use Rattle.ticket_steps.specs.declared.seats.CoreSeat.{CoreSeat}
use Rattle.ticket_steps.specs.declared.seats.Phase.TheVariants.{Holding}
use Rattle.ticket_steps.specs.declared.events.Event.TheVariants.{Leave}
use Rattle.ticket_steps.specs.declared.events.Seen.TheVariants as seen
use Rattle.ticket_steps.specs.declared.events.Fault.TheVariants.{Phase}
use Rattle.ticket_steps.specs.Cores.{core_state_of}
use Rattle.ticket_steps.specs.Happenings.{recorded, refused, Moves}
use Rattle.ticket_steps.specs.Seats.{seat_after_leave}
use Rattle.ticket_steps.proofs.BoardLemmas.{Takes, takes, board_kept}
use Rattle.ticket_steps.proofs.CoreLemmas.{recorded_moves, refused_moves, can_end, can_refuse, changed_is, ticket_served}
use Rattle.ticket_steps.proofs.FaultLemmas.{steps_fault, steps_shown, shows_lawful, read_is, unfit_leave, unplaced}
use Rattle.ticket_steps.proofs.SeatLemmas.{holding_holds}
use Rattle.ticket_steps.proofs.core_steps.Core.leave.Given.{Over}
use Rattle.ticket_steps.proofs.core_steps.Core.leave.Goals.{After-leave, In-Holding}
use Rattle.ticket_steps.proofs.core_steps.Core.leave.Goals as goal

-- what the leave of a seat shows, whatever the book answered
leave_shows : {K C R : Type 0} (k : Ghosts K C R) (draws : ℕ) (b : CoreState k.State C R) (i own ticket after : ℕ) (p w : CoreSeat) (call : C)
    (book : BookState k.State C R) (reply : Result R NoMemory) → k.posts_at b.book.state call ≡ None → after ≡ b.served + 1
    → get_elem? b.seats i ≡ some p → p.own ≡ own → p.phase ≡ Holding ticket → w ≡ seat_after_leave p → Takes k own call b.book reply book
    → Shows k draws b (Leave own (Some call)) (seen.Left (Some reply)) (core_state b.next after (set b.seats i w) book)
leave_shows k draws b i own ticket after p w call book (Ok r) unplaced up at called holds is took = (
  recorded own call r,
  refl,
  refl,
  subst (λ (n : ℕ). Moves k draws b (recorded own call r) (core_state b.next n (set b.seats i w) book)) (sym up)
      (recorded_moves k draws b i own p at called ticket w call r book holds is took.0.0 took.0.1 unplaced),
  unplaced,
)
leave_shows k draws b i own ticket after p w call book (Err e) unplaced up at called holds is took = (
  refused own,
  (call, refl),
  refl,
  subst (λ (n : ℕ). Moves k draws b (refused own) (core_state b.next n (set b.seats i w) book)) (sym up)
      (refused_moves k draws b i own p at called ticket w book holds is took.1),
  unplaced,
)

pub returns-in_default-clause-step : goal.returns-in_default-clause-step
returns-in_default-clause-step g c =
    let self = c.args.self.now in let e = c.in_ok-at.ensures.found in
    let is = read_is self.seats.items c.in_ok-at.at e.1 c.index.ensures in
    let unfit = unfit_leave g.K.Kept self.numbers self.draws (core_state_of self) self.lawful c.in_ok-at.at c.args.seat e.0 e.1 e.2 e.3 c.args.call
    (λ ticket holds. c.in_default.not-Holding ticket (ap (λ (s : CoreSeat). s.phase) is ∙ holds)) in
    steps_fault g.K.Kept self.draws (core_state_of self) (Leave c.args.seat (Some c.args.call)) Phase unfit

pub record-reply-requires : goal.record-reply-requires
record-reply-requires g c = can_refuse c.args.self.now

pub end-requires : goal.end-requires
end-requires g c = can_end c.args.self.now c.in_ok-at.at c.in_ok-at.ensures.found.1 c.index_mut.ensures.value

-- the ticket of the seat that leaves
ticket_is : (g : Over) (c : In-Holding g) → (c.in-Holding.ticket ≡ c.args.self.now.grants) × (c.in-Holding.ticket < 2 ^ 60)
ticket_is g c = let ticket = c.in-Holding.ticket in
    ticket_served c.args.self.now c.in_ok-at.at c.in_ok-at.ensures.found.1 c.index.ensures ticket (holding_holds ticket _ c.in-Holding.is)

pub leave-requires-clause-served : goal.leave-requires-clause-served
leave-requires-clause-served g c = (ticket_is g (goal.at.leave-requires-clause-served g c).In-Holding).0

pub leave-requires-clause-small : goal.leave-requires-clause-small
leave-requires-clause-small g c = (ticket_is g (goal.at.leave-requires-clause-small g c).In-Holding).1

-- the seat leaves, and its call is recorded or refused
leaves : (g : Over) (c : After-leave g) → let self = c.args.self.now in let k = g.K.Kept in let book = c.record-reply.new.self in
    Shows k self.draws (core_state_of self) (Leave c.args.seat (Some c.args.call)) (seen.Left (Some c.record-reply.result))
    (core_state self.next c.leave.new.self (set self.seats.items c.in_ok-at.at c.end.new.self)
    (book_state (k.state book) (k.history book) (k.refusals book)))
leaves g c =
    let self = c.args.self.now in
    let k = g.K.Kept in
    let e = c.in_ok-at.ensures.found in
    let ticket = c.in-Holding.ticket in
    let r = c.record-reply.ensures in
    let s = changed_is self.seats.items c.in_ok-at.at seat_after_leave (Holding ticket) e.1 c.index.ensures c.in-Holding.is c.index_mut.ensures.value c.end.ensures in
    let first = ticket_served self c.in_ok-at.at e.1 c.index.ensures ticket (holding_holds ticket _ c.in-Holding.is) in
    leave_shows k self.draws (core_state_of self) c.in_ok-at.at c.args.seat ticket c.leave.new.self e.0 c.end.new.self c.args.call _ c.record-reply.result
    (sym c.posts.ensures ∙ c.in-None.is) (c.leave.ensures ∙ ap (λ (n : ℕ). n + 1) first.0) e.1 e.2 s.0 s.1
    (takes k g.met.K.Kept.legal g.met.K.Kept.replayed self.book c.record-reply.new.self c.args.seat c.args.call c.record-reply.result
    r.same r.replied r.refused)

pub invariant_of-self-clause-lawful : goal.invariant_of-self-clause-lawful
invariant_of-self-clause-lawful g c = shows_lawful g.K.Kept _ _ _ _ _ _ c.args.self.now.lawful (leaves g c)

pub returns-clause-step : goal.returns-clause-step
returns-clause-step g c = steps_shown g.K.Kept _ _ _ _ _ (leaves g (goal.at.returns-clause-step g c).After-leave)

pub returns-in_default-posts-clause-step : goal.returns-in_default-posts-clause-step
returns-in_default-posts-clause-step g c =
    let self = c.args.self.now in let e = c.in_ok-at.ensures.found in
    steps_fault g.K.Kept self.draws (core_state_of self) (Leave c.args.seat (Some c.args.call)) Phase
    (unplaced g.K.Kept self.numbers self.draws (core_state_of self) self.lawful c.in_ok-at.at c.args.seat e.0 e.1 e.2 e.3
    (Leave c.args.seat (Some c.args.call)) (λ there. there) (λ none. c.in_default-posts.not-None (c.posts.ensures ∙ none)))

pub invariant_of-self-clause-readout : goal.invariant_of-self-clause-readout
invariant_of-self-clause-readout g c =
    let self = c.args.self.now in
    let k = g.K.Kept in
    let r = c.record-reply.ensures in
    self.readout ∙ sym (board_kept k g.met.K.Kept.legal g.met.K.Kept.replayed g.met.K.Kept.unposted self.book c.record-reply.new.self c.args.seat
    c.args.call c.record-reply.result r.same r.replied r.refused (sym c.posts.ensures ∙ c.in-None.is))
