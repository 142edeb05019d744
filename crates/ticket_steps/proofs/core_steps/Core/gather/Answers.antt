use Rattle.std.proofs.Common.{◌≡◌, ◌≢◌, arith, sym, ap, ◌∙◌, refl, ℕ, subst, set, length}
use Rattle.std.proofs.lemmas.Bool.{false≢true}
use mathlib.Core.Option.{some}
use lib.ListN.{get_elem?}
use Rattle.ticket_steps.specs.declared.seats.CoreSeat.{CoreSeat}
use Rattle.ticket_steps.specs.declared.seats.Phase.TheVariants.{Idle}
use Rattle.ticket_steps.specs.declared.events.Event.TheVariants.{Gather}
use Rattle.ticket_steps.specs.declared.events.Seen.TheVariants as seen
use Rattle.ticket_steps.specs.declared.events.Fault.TheVariants.{Phase}
use Rattle.ticket_steps.specs.Cores.{core_state_of}
use Rattle.ticket_steps.specs.Faults.{Shows}
use Rattle.ticket_steps.specs.Happenings.{gathered, with_seats}
use Rattle.ticket_steps.specs.Seats.{gathered_seat}
use Rattle.ticket_steps.proofs.CoreLemmas.{gather_moves, few_served}
use Rattle.ticket_steps.proofs.FaultLemmas.{steps_fault, steps_shown, shows_lawful, read_is, unfit_gather}
use Rattle.ticket_steps.proofs.Lists.{at_same, set_else}
use Rattle.ticket_steps.proofs.SeatLemmas.{two_numbers, two_calls}
use Rattle.ticket_steps.proofs.core_steps.Core.gather.Given.{Over}
use Rattle.ticket_steps.proofs.core_steps.Core.gather.Goals.{After-index_mut-2, After-self-2-1}
use Rattle.ticket_steps.proofs.core_steps.Core.gather.Goals as goal
use Rattle.ticket_steps.proofs.core_steps.Core.gather.Goals.{then-seat-other-via-then-seat-other, then-seat-other-via-else-seat-other+then-not-is_idle}
use Rattle.ticket_steps.proofs.core_steps.Core.gather.Goals.{then-seat-other-via-else-seat-other+else-not-is_idle+then-not-is_idle-2}

pub returns-then-seat-other-clause-step : goal.returns-then-seat-other-clause-step
returns-then-seat-other-clause-step g c =
    let self = c.args.self.now in let e = c.in_ok-at.ensures.found in
    let d = c.in_ok-from.ensures.found in
    let bad : ((c.args.seat ≢ c.args.other) × (e.0.phase ≡ Idle) × (d.0.phase ≡ Idle) → ⊥) = elim c.then-seat-other.branch [
      | then-seat-other-via-then-seat-other w ↦ λ t. t.0 w.if-seat-other.true
      | then-seat-other-via-else-seat-other+then-not-is_idle w
          ↦ λ t. let is = read_is self.seats.items c.in_ok-at.at e.1 w.index.ensures in
          false≢true (sym w.if-not-is_idle.true ∙ w.is_idle.ensures.1 (ap (λ (s : CoreSeat). s.phase) is ∙ t.1))
      | then-seat-other-via-else-seat-other+else-not-is_idle+then-not-is_idle-2 w
          ↦ λ t. let is = read_is self.seats.items c.in_ok-from.from d.1 w.index-else-not-is_idle.ensures in
          false≢true (sym w.if-not-is_idle-2.true ∙ w.is_idle-else-not-is_idle.ensures.1 (ap (λ (s : CoreSeat). s.phase) is ∙ t.2))
    ] in
    steps_fault g.K.Kept self.draws (core_state_of self) (Gather c.args.seat c.args.other) Phase
    (unfit_gather g.K.Kept self.numbers self.draws (core_state_of self) self.lawful c.in_ok-at.at c.args.seat e.0 e.1 e.2 e.3 c.in_ok-from.from c.args.other d.0 d.1
    d.2 d.3 bad)

-- the two seats are two
apart : (g : Over) (c : After-index_mut-2 g) → c.in_ok-from.from ≢ c.in_ok-at.at
apart g c same =
    let items = c.args.self.now.seats.items in
    let e = c.in_ok-at.ensures.found in
    let d = c.in_ok-from.ensures.found in
    let one = at_same items c.in_ok-at.at e.0 d.0 e.1 (subst (λ (n : ℕ). get_elem? items n ≡ some d.0) same d.1) in
    c.if-seat-other.false (sym e.2 ∙ (ap (λ (s : CoreSeat). s.own) one ∙ d.2))

-- both are idle
idle : (g : Over) (c : After-index_mut-2 g) → c.in_ok-at.ensures.found.0.phase ≡ Idle
idle g c =
    let is = read_is c.args.self.now.seats.items c.in_ok-at.at c.in_ok-at.ensures.found.1 c.index.ensures in
    ap (λ (s : CoreSeat). s.phase) (sym is) ∙ c.is_idle.ensures.0 c.if-not-is_idle.false

other_idle : (g : Over) (c : After-index_mut-2 g) → c.in_ok-from.ensures.found.0.phase ≡ Idle
other_idle g c =
    let is = read_is c.args.self.now.seats.items c.in_ok-from.from c.in_ok-from.ensures.found.1 c.index-else-not-is_idle.ensures in
    ap (λ (s : CoreSeat). s.phase) (sym is) ∙ c.is_idle-else-not-is_idle.ensures.0 c.if-not-is_idle-2.false

-- what is given up is the other seat as it was found
other_was : (g : Over) (c : After-index_mut-2 g) → c.retire-other_seat.result ≡ c.in_ok-from.ensures.found.0
other_was g c = c.retire-other_seat.ensures.was ∙ read_is c.args.self.now.seats.items c.in_ok-from.from c.in_ok-from.ensures.found.1 c.index_mut.ensures.value

-- and the seat that joins it is as it was found
seat_is : (g : Over) (c : After-index_mut-2 g) → c.index_mut-2.result.now ≡ c.in_ok-at.ensures.found.0
seat_is g c =
    let items = c.args.self.now.seats.items in
    let at = set_else items c.in_ok-from.from c.in_ok-at.at c.retire-other_seat.new.self (λ h. apart g c (sym h)) ∙ c.in_ok-at.ensures.found.1 in
    read_is (set items c.in_ok-from.from c.retire-other_seat.new.self) c.in_ok-at.at at c.index_mut-2.ensures.value

pub join-requires-clause-idle : goal.join-requires-clause-idle
join-requires-clause-idle g c = ap (λ (s : CoreSeat). s.phase) (seat_is g c) ∙ idle g c

pub join-requires-clause-numbers : goal.join-requires-clause-numbers
join-requires-clause-numbers g c =
    let self = c.args.self.now in
    let both = two_numbers self.numbers self.draws (core_state_of self) self.lawful _ _ _ _ (apart g c) c.in_ok-at.ensures.found.1 c.in_ok-from.ensures.found.1 in
    omega (arith, ap (λ (s : CoreSeat). length s.numbers) (seat_is g c), ap (λ (s : CoreSeat). length s.numbers) (other_was g c), both, self.bounded)

pub join-requires-clause-calls : goal.join-requires-clause-calls
join-requires-clause-calls g c =
    let self = c.args.self.now in
    let both = two_calls self.numbers self.draws (core_state_of self) self.lawful _ _ _ _ (apart g c) c.in_ok-at.ensures.found.1 c.in_ok-from.ensures.found.1 in
    let served = few_served self.numbers self.draws (core_state_of self) self.lawful self.bounded (omega (arith, self.bounded_draws)) in
    omega (arith, ap (λ (s : CoreSeat). s.calls) (seat_is g c), ap (λ (s : CoreSeat). s.calls) (other_was g c), both, served)

-- the one takes over the other
gathers : (g : Over) (c : After-self-2-1 g) → let self = c.args.self.now in
    Shows g.K.Kept self.draws (core_state_of self) (Gather c.args.seat c.args.other) seen.Gathered
    (with_seats (core_state_of self) (set (set self.seats.items c.in_ok-from.from c.retire-other_seat.new.self) c.in_ok-at.at c.join.new.self))
gathers g c =
    let self = c.args.self.now in let e = c.in_ok-at.ensures.found in
    let d = c.in_ok-from.ensures.found in
    let at = (goal.at.invariant_of-self-clause-lawful g c).After-index_mut-2 in
    let move = gather_moves g.K.Kept self.draws (core_state_of self) c.in_ok-at.at c.args.seat e.0 e.1 e.2 c.in_ok-from.from c.args.other d.0
    c.retire-other_seat.new.self c.join.new.self d.1 d.2 (idle g at) (other_idle g at) c.if-seat-other.false
    c.retire-other_seat.ensures.gone_seat (c.join.ensures ∙ (λ i. gathered_seat (seat_is g at i) (other_was g at i))) in
    (gathered c.args.seat c.args.other, refl, refl, move, tt)

pub invariant_of-self-clause-lawful : goal.invariant_of-self-clause-lawful
invariant_of-self-clause-lawful g c = shows_lawful g.K.Kept _ _ _ _ _ _ c.args.self.now.lawful (gathers g c)

pub returns-clause-step : goal.returns-clause-step
returns-clause-step g c = steps_shown g.K.Kept _ _ _ _ _ (gathers g (goal.at.returns-clause-step g c).After-self-2-1)
