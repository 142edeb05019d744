use Rattle.std.proofs.Common.{◌≡◌, ◌<◌, ℕ, List, length, get_or, arith, sym, ap, ◌∙◌, refl}
use Rattle.std.proofs.lemmas.Bool.{false≢true, ltb-true}
use Rattle.std.proofs.lemmas.List.{get_or_default}
use Rattle.ticket_steps.specs.declared.seats.CoreSeat.{CoreSeat}
use Rattle.ticket_steps.specs.declared.seats.Phase.TheVariants.{Idle}
use Rattle.ticket_steps.specs.declared.events.Event.TheVariants.{Glance}
use Rattle.ticket_steps.specs.declared.events.Seen.TheVariants.{Glanced}
use Rattle.ticket_steps.specs.declared.events.Fault.TheVariants.{Phase}
use Rattle.ticket_steps.specs.Cores.{core_state_of}
use Rattle.ticket_steps.specs.Happenings.{glanced}
use Rattle.ticket_steps.proofs.FaultLemmas.{steps_fault, steps_shown, unfit_glance, read_is}
use Rattle.ticket_steps.proofs.core_steps.Core.glance.Goals as goal

pub returns-then-not-is_idle : goal.returns-then-not-is_idle
returns-then-not-is_idle g c =
    let self = c.args.self.now in let e = c.in_ok-at.ensures.found in
    let is = read_is self.seats.items c.in_ok-at.at e.1 c.index.ensures in record {
      step = steps_fault g.K.Kept self.draws (core_state_of self) (Glance c.args.seat c.args.place) Phase
          (unfit_glance g.K.Kept self.numbers self.draws (core_state_of self) self.lawful c.in_ok-at.at c.args.seat e.0 e.1 e.2 e.3 c.args.place
          (λ idle. false≢true (sym c.if-not-is_idle.true ∙ c.is_idle.ensures.1 (ap (λ (s : CoreSeat). s.phase) is ∙ idle))));
    }

pub returns : goal.returns
returns g c =
    let self = c.args.self.now in let e = c.in_ok-at.ensures.found in
    let is = read_is self.seats.items c.in_ok-at.at e.1 c.index.ensures in
    let idle : e.0.phase ≡ Idle = ap (λ (s : CoreSeat). s.phase) (sym is) ∙ c.is_idle.ensures.0 c.if-not-is_idle.false in
    let readout : c.deref.result.now ≡ g.K.Kept.board (g.K.Kept.state self.book) = c.deref.ensures.value ∙ self.readout in
    let found = c.in-Some.ensures.lookup in
    let less : c.args.place < length (g.K.Kept.board (g.K.Kept.state self.book)) =
    omega (arith, ltb-true c.args.place (length c.deref.result.now) (sym found.0), ap length readout) in
    let word : c.in-Some.word.now ≡ get_or (g.K.Kept.board (g.K.Kept.state self.book)) c.args.place 0 =
    found.1 ∙ (ap (λ (l : List ℕ). get_or l c.args.place c.in-Some.word.now) readout
    ∙ get_or_default (g.K.Kept.board (g.K.Kept.state self.book)) c.args.place c.in-Some.word.now 0 less) in record {
      step = steps_shown g.K.Kept self.draws (core_state_of self) (core_state_of self) (Glance c.args.seat c.args.place) (Glanced c.in-Some.word.now)
          (glanced c.args.seat c.args.place c.in-Some.word.now, refl, refl, (c.in_ok-at.at, e.0, (e.1, e.2, idle), less, word, refl), less);
    }
