use Rattle.std.proofs.Common.{◌≡◌, ◌+◌, ◌<◌, set, arith, sym, ap, ◌∙◌, refl}
use Rattle.std.proofs.lemmas.Bool.{false≢true}
use Rattle.ticket_steps.specs.declared.seats.CoreSeat.{CoreSeat}
use Rattle.ticket_steps.specs.declared.events.Event.TheVariants.{Draw}
use Rattle.ticket_steps.specs.declared.events.Seen.TheVariants.{Drew}
use Rattle.ticket_steps.specs.declared.events.Fault.TheVariants.{Phase, Spent}
use Rattle.ticket_steps.specs.declared.seats.Phase.TheVariants.{Idle}
use Rattle.ticket_steps.specs.Cores.{core_state_of}
use Rattle.ticket_steps.specs.Faults.{Shows}
use Rattle.ticket_steps.specs.CoreStates.{core_state}
use Rattle.ticket_steps.specs.Happenings.{drew}
use Rattle.ticket_steps.specs.Seats.{waiting_seat}
use Rattle.ticket_steps.proofs.CoreLemmas.{draw_moves}
use Rattle.ticket_steps.proofs.FaultLemmas.{steps_fault, steps_shown, shows_lawful, unfit_draw, spent_draw, read_is}
use Rattle.ticket_steps.proofs.core_steps.Core.draw.Given.{Over}
use Rattle.ticket_steps.proofs.core_steps.Core.draw.Goals.{After-self-1}
use Rattle.ticket_steps.proofs.core_steps.Core.draw.Goals as goal

pub returns-then-not-is_idle-clause-step : goal.returns-then-not-is_idle-clause-step
returns-then-not-is_idle-clause-step g c =
    let self = c.args.self.now in let e = c.in_ok-at.ensures.found in
    let is = read_is c.args.self.now.seats.items c.in_ok-at.at c.in_ok-at.ensures.found.1 c.index-place.ensures in
    steps_fault g.K.Kept self.draws (core_state_of self) (Draw c.args.seat) Phase
    (unfit_draw g.K.Kept self.numbers self.draws (core_state_of self) self.lawful c.in_ok-at.at c.args.seat e.0 e.1 e.2 e.3
    (λ idle. false≢true (sym c.if-not-is_idle.true ∙ c.is_idle.ensures.1 (ap (λ (s : CoreSeat). s.phase) is ∙ idle))))

pub returns-then-place-eq0-clause-step : goal.returns-then-place-eq0-clause-step
returns-then-place-eq0-clause-step g c =
    let self = c.args.self.now in let e = c.in_ok-at.ensures.found in
    let is = read_is c.args.self.now.seats.items c.in_ok-at.at c.in_ok-at.ensures.found.1 c.index-place.ensures in
    let idle : e.0.phase ≡ Idle = ap (λ (s : CoreSeat). s.phase) (sym is) ∙ c.is_idle.ensures.0 c.if-not-is_idle.false in
    let none_left : e.0.left ≡ 0 = ap (λ (s : CoreSeat). s.left) (sym is) ∙ c.if-place-eq0.true in
    steps_fault g.K.Kept self.draws (core_state_of self) (Draw c.args.seat) Spent
    (spent_draw g.K.Kept self.numbers self.draws (core_state_of self) self.lawful c.in_ok-at.at c.args.seat e.0 e.1 e.2 e.3 idle none_left)

pub wait-requires : goal.wait-requires
wait-requires g c =
    let is = read_is c.args.self.now.seats.items c.in_ok-at.at c.in_ok-at.ensures.found.1 c.index-place.ensures in
    let is' = read_is c.args.self.now.seats.items c.in_ok-at.at c.in_ok-at.ensures.found.1 c.index_mut.ensures.value in
    omega (arith, c.if-place-eq0.false, ap (λ (s : CoreSeat). s.left) is, ap (λ (s : CoreSeat). s.left) is')

-- the seat draws
draws : (g : Over) (c : After-self-1 g) → let self = c.args.self.now in
    Shows g.K.Kept self.draws (core_state_of self) (Draw c.args.seat) (Drew self.next)
    (core_state (self.next + 1) self.grants (set self.seats.items c.in_ok-at.at c.wait.new.self) (core_state_of self).book)
draws g c =
    let self = c.args.self.now in let e = c.in_ok-at.ensures.found in
    let is = read_is c.args.self.now.seats.items c.in_ok-at.at c.in_ok-at.ensures.found.1 c.index-place.ensures in
    let is' = read_is c.args.self.now.seats.items c.in_ok-at.at c.in_ok-at.ensures.found.1 c.index_mut.ensures.value in
    let idle : e.0.phase ≡ Idle = ap (λ (s : CoreSeat). s.phase) (sym is) ∙ c.is_idle.ensures.0 c.if-not-is_idle.false in
    let has_left : 0 < e.0.left = omega (arith, c.if-place-eq0.false, ap (λ (s : CoreSeat). s.left) is) in
    let move = draw_moves g.K.Kept self.draws (core_state_of self) c.in_ok-at.at c.args.seat e.0 e.1 e.2 c.wait.new.self idle has_left
    (c.wait.ensures ∙ ap (waiting_seat self.next) is') in
    (drew c.args.seat self.next, refl, refl, move, tt)

pub invariant_of-self-clause-lawful : goal.invariant_of-self-clause-lawful
invariant_of-self-clause-lawful g c = shows_lawful g.K.Kept _ _ _ _ _ _ c.args.self.now.lawful (draws g c)

pub returns-clause-step : goal.returns-clause-step
returns-clause-step g c = steps_shown g.K.Kept _ _ _ _ _ (draws g (goal.at.returns-clause-step g c).After-self-1)
