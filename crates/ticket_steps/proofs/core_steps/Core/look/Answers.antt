use Rattle.std.proofs.Common.{set, sym, ap, ◌∙◌, refl}
use Rattle.std.proofs.lemmas.Bool.{false≢true}
use Rattle.ticket_steps.specs.declared.seats.CoreSeat.{CoreSeat}
use Rattle.ticket_steps.specs.declared.events.Event.TheVariants.{Look}
use Rattle.ticket_steps.specs.declared.events.Seen.TheVariants as seen
use Rattle.ticket_steps.specs.declared.events.Fault.TheVariants.{Phase}
use Rattle.ticket_steps.specs.Cores.{core_state_of}
use Rattle.ticket_steps.specs.Faults.{Shows}
use Rattle.ticket_steps.specs.Happenings.{held, waited, with_seats}
use Rattle.ticket_steps.specs.Seats.{holding_seat}
use Rattle.ticket_steps.proofs.CoreLemmas.{look_moves, wait_moves}
use Rattle.ticket_steps.proofs.FaultLemmas.{steps_fault, steps_shown, shows_lawful, read_is, unfit_look}
use Rattle.ticket_steps.proofs.SeatLemmas.{waits_in_line}
use Rattle.ticket_steps.proofs.core_steps.Core.look.Given.{Over}
use Rattle.ticket_steps.proofs.core_steps.Core.look.Goals.{After-self-1}
use Rattle.ticket_steps.proofs.core_steps.Core.look.Goals as goal

pub returns-in_default-clause-step : goal.returns-in_default-clause-step
returns-in_default-clause-step g c =
    let self = c.args.self.now in let e = c.in_ok-at.ensures.found in
    let is = read_is self.seats.items c.in_ok-at.at e.1 c.index.ensures in
    steps_fault g.K.Kept self.draws (core_state_of self) (Look c.args.seat) Phase
    (unfit_look g.K.Kept self.numbers self.draws (core_state_of self) self.lawful c.in_ok-at.at c.args.seat e.0 e.1 e.2 e.3
    (λ ticket waits. c.in_default.not-Waiting ticket (ap (λ (s : CoreSeat). s.phase) is ∙ waits)))

pub serves-requires : goal.serves-requires
serves-requires g c =
    let self = c.args.self.now in let e = c.in_ok-at.ensures.found in
    let is = read_is self.seats.items c.in_ok-at.at e.1 c.index.ensures in
    waits_in_line self.numbers self.draws (core_state_of self) self.lawful c.in_ok-at.at c.in-Waiting.ticket e.0 e.1
    (ap (λ (s : CoreSeat). s.phase) (sym is) ∙ c.in-Waiting.is)

pub returns-then-not-serves-clause-step : goal.returns-then-not-serves-clause-step
returns-then-not-serves-clause-step g c =
    let self = c.args.self.now in let e = c.in_ok-at.ensures.found in
    let is = read_is c.args.self.now.seats.items c.in_ok-at.at c.in_ok-at.ensures.found.1 c.index.ensures in
    let move = wait_moves g.K.Kept self.draws (core_state_of self) c.in_ok-at.at c.args.seat e.0 e.1 e.2 c.in-Waiting.ticket
    (ap (λ (s : CoreSeat). s.phase) (sym is) ∙ c.in-Waiting.is)
    (λ first. false≢true (sym c.if-not-serves.true ∙ c.serves.ensures.1 first)) in
    steps_shown g.K.Kept self.draws (core_state_of self) (core_state_of self) (Look c.args.seat) seen.Waiting (waited c.args.seat, refl, refl, move, tt)

-- the seat comes to hold
holds : (g : Over) (c : After-self-1 g) → let self = c.args.self.now in
    Shows g.K.Kept self.draws (core_state_of self) (Look c.args.seat) seen.Held
    (with_seats (core_state_of self) (set self.seats.items c.in_ok-at.at c.hold.new.self))
holds g c =
    let self = c.args.self.now in let e = c.in_ok-at.ensures.found in
    let is = read_is c.args.self.now.seats.items c.in_ok-at.at c.in_ok-at.ensures.found.1 c.index.ensures in
    let is' = read_is c.args.self.now.seats.items c.in_ok-at.at c.in_ok-at.ensures.found.1 c.index_mut.ensures.value in
    let move = look_moves g.K.Kept self.draws (core_state_of self) c.in_ok-at.at c.args.seat e.0 e.1 e.2 c.in-Waiting.ticket c.hold.new.self
    (ap (λ (s : CoreSeat). s.phase) (sym is) ∙ c.in-Waiting.is) (c.serves.ensures.0 c.if-not-serves.false)
    (c.hold.ensures ∙ ap (holding_seat c.in-Waiting.ticket) is') in
    (held c.args.seat, refl, refl, move, tt)

pub invariant_of-self-clause-lawful : goal.invariant_of-self-clause-lawful
invariant_of-self-clause-lawful g c = shows_lawful g.K.Kept _ _ _ _ _ _ c.args.self.now.lawful (holds g c)

pub returns-clause-step : goal.returns-clause-step
returns-clause-step g c = steps_shown g.K.Kept _ _ _ _ _ (holds g (goal.at.returns-clause-step g c).After-self-1)
