use Rattle.std.proofs.Common.{◌≡◌, ◌-◌, ◌<◌, arith, sym, ap, ◌∙◌, refl, subst, length, Bool, cond, true}
use Rattle.std.proofs.lemmas.Bool.{false≢true}
use mathlib.Core.Option.{some}
use lib.ListN.{get_elem?}
use Rattle.ticket_steps.specs.declared.seats.CoreSeat.{CoreSeat}
use Rattle.ticket_steps.specs.declared.seats.Phase.TheVariants.{Idle}
use Rattle.ticket_steps.specs.declared.events.Event.TheVariants.{Split}
use Rattle.ticket_steps.specs.declared.events.Seen.TheVariants as seen
use Rattle.ticket_steps.specs.declared.events.Fault.TheVariants.{Phase}
use Rattle.ticket_steps.specs.Cores.{core_state_of}
use Rattle.ticket_steps.specs.Faults.{Shows}
use Rattle.ticket_steps.specs.Happenings.{split, with_seats}
use Rattle.ticket_steps.specs.Seats.{seat_after_split, other_seat}
use Rattle.ticket_steps.proofs.CoreLemmas.{split_moves}
use Rattle.ticket_steps.proofs.FaultLemmas.{steps_fault, steps_shown, shows_lawful, read_is, unfit_split}
use Rattle.ticket_steps.specs.Lawful.{spare_seats}
use Rattle.ticket_steps.proofs.SeatLemmas.{range_within}
use Rattle.ticket_steps.proofs.SumLemmas.{term_le}
use Rattle.ticket_steps.proofs.core_steps.Core.split.Given.{Over}
use Rattle.ticket_steps.proofs.core_steps.Core.split.Goals.{After-push_reserved}
use Rattle.ticket_steps.proofs.core_steps.Core.split.Goals as goal

pub returns-then-not-can_split-clause-step : goal.returns-then-not-can_split-clause-step
returns-then-not-can_split-clause-step g c =
    let self = c.args.self.now in let e = c.in_ok-at.ensures.found in
    let may = λ (s : CoreSeat). (s.phase ≡ Idle) × (s.fresh ≡ true) × (0 < c.args.count) × (c.args.count < length s.numbers) in
    let is = read_is c.args.self.now.seats.items c.in_ok-at.at c.in_ok-at.ensures.found.1 c.index.ensures in
    steps_fault g.K.Kept self.draws (core_state_of self) (Split c.args.seat c.args.count) Phase
    (unfit_split g.K.Kept self.numbers self.draws (core_state_of self) self.lawful c.in_ok-at.at c.args.seat e.0 e.1 e.2 e.3 c.args.count
    (λ t. false≢true (sym c.if-not-can_split.true ∙ c.can_split.ensures.1 (subst may (sym is) t))))

pub split_off-other_seat-requires-clause-idle : goal.split_off-other_seat-requires-clause-idle
split_off-other_seat-requires-clause-idle g c =
    let is = read_is c.args.self.now.seats.items c.in_ok-at.at c.in_ok-at.ensures.found.1 c.index.ensures in
    let is' = read_is c.args.self.now.seats.items c.in_ok-at.at c.in_ok-at.ensures.found.1 c.index_mut.ensures.value in
    ap (λ (s : CoreSeat). s.phase) (is' ∙ sym is) ∙ (c.can_split.ensures.0 c.if-not-can_split.false).0

pub split_off-other_seat-requires-clause-bounded : goal.split_off-other_seat-requires-clause-bounded
split_off-other_seat-requires-clause-bounded g c =
    let self = c.args.self.now in
    let is = read_is c.args.self.now.seats.items c.in_ok-at.at c.in_ok-at.ensures.found.1 c.index.ensures in
    let is' = read_is c.args.self.now.seats.items c.in_ok-at.at c.in_ok-at.ensures.found.1 c.index_mut.ensures.value in
    let fits = c.can_split.ensures.0 c.if-not-can_split.false in
    let within = range_within self.numbers self.draws (core_state_of self) self.lawful c.in_ok-at.at c.index_mut.result.now
    (subst (λ (s : CoreSeat). get_elem? self.seats.items c.in_ok-at.at ≡ some s) (sym is') c.in_ok-at.ensures.found.1)
    (ap (λ (s : CoreSeat). s.fresh) (is' ∙ sym is) ∙ fits.1)
    (let n = ap (λ (s : CoreSeat). length s.numbers) (is' ∙ sym is) in omega (arith, fits.3, n)) in
    omega (arith, within, self.bounded)

pub push_reserved-requires : goal.push_reserved-requires
push_reserved-requires g c =
    let self = c.args.self.now in let e = c.in_ok-at.ensures.found in
    let is = read_is c.args.self.now.seats.items c.in_ok-at.at c.in_ok-at.ensures.found.1 c.index.ensures in
    let fits = c.can_split.ensures.0 c.if-not-can_split.false in
    let len = ap (λ (s : CoreSeat). length s.numbers) is in
    let fresh : e.0.fresh ≡ true = ap (λ (s : CoreSeat). s.fresh) (sym is) ∙ fits.1 in
    let l = self.lawful in
    omega (
      arith,
      l.places,
      term_le spare_seats self.seats.items c.in_ok-at.at e.0 e.1,
      ap (λ (b : Bool). cond b (length e.0.numbers - 1) 0) fresh,
      len,
      fits.2,
      fits.3,
      self.seat_capacity,
      self.seats.ok.0,
    )

-- the seat splits
splits : (g : Over) (c : After-push_reserved g) → let self = c.args.self.now in
    Shows g.K.Kept self.draws (core_state_of self) (Split c.args.seat c.args.count) seen.Split (with_seats (core_state_of self) c.push_reserved.new.self.items)
splits g c =
    let self = c.args.self.now in let e = c.in_ok-at.ensures.found in
    let is = read_is c.args.self.now.seats.items c.in_ok-at.at c.in_ok-at.ensures.found.1 c.index.ensures in
    let is' = read_is c.args.self.now.seats.items c.in_ok-at.at c.in_ok-at.ensures.found.1 c.index_mut.ensures.value in
    let fits = c.can_split.ensures.0 c.if-not-can_split.false in
    let less : c.args.count < length e.0.numbers = let n = ap (λ (s : CoreSeat). length s.numbers) is in omega (arith, fits.3, n) in
    let move = split_moves g.K.Kept self.draws (core_state_of self) c.in_ok-at.at c.args.seat e.0 e.1 e.2 c.args.count c.split_off-other_seat.new.self
    c.split_off-other_seat.result c.push_reserved.new.self.items
    (ap (λ (s : CoreSeat). s.phase) (sym is) ∙ fits.0) (ap (λ (s : CoreSeat). s.fresh) (sym is) ∙ fits.1) fits.2 less
    (c.split_off-other_seat.ensures.kept ∙ ap (seat_after_split self.draws c.args.count) is')
    (c.split_off-other_seat.ensures.other_seat ∙ ap (other_seat self.draws c.args.count) is') c.push_reserved.ensures.items in
    (split c.args.seat c.args.count, refl, refl, move, tt)

pub invariant_of-self-clause-lawful : goal.invariant_of-self-clause-lawful
invariant_of-self-clause-lawful g c = shows_lawful g.K.Kept _ _ _ _ _ _ c.args.self.now.lawful (splits g c)

pub returns-clause-step : goal.returns-clause-step
returns-clause-step g c = steps_shown g.K.Kept _ _ _ _ _ (splits g (goal.at.returns-clause-step g c).After-push_reserved)
