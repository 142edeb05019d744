use Rattle.std.proofs.Common.{◌≡◌, ℕ, Result, take, arith, sym, refl, ◌∙◌, subst}
use Rattle.std.specs.Prelude.{IfOk, OnErr}
use Rattle.std.proofs.lemmas.Option.{get_or_from_slice_get}
use Rattle.std.proofs.lemmas.List.{take_all}
use Rattle.ticket_steps.specs.Cores.{core_state_of, core_draws}
use Rattle.ticket_steps.specs.declared.events.Seen.{Seen}
use Rattle.ticket_steps.specs.declared.events.Fault.{Fault}
use Rattle.ticket_steps.specs.Faults.{Shows, IsFault, LeadsBy}
use Rattle.ticket_steps.proofs.ScheduleLemmas.{leads_by_more}
use Rattle.ticket_steps.proofs.core_steps.Core.run.Given.{Over}
use Rattle.ticket_steps.proofs.core_steps.Core.run.Goals.{In-Err}
use Rattle.ticket_steps.proofs.core_steps.Core.run.Goals as goal

pub loop-place-init : goal.loop-place-init
loop-place-init g c = (refl, record { opening = refl; numbers = refl; draws = refl })

-- the step is shown, by its own result: a body that continues where it has a fault is refused at once
pub loop-place-preserved : goal.loop-place-preserved
loop-place-preserved g c =
    let k = g.K.Kept in
    let before = c.loop-place.invariant in
    let same_opening = c.step.ensures.same_opening in
    let event = c.index-events-place.result in
    let was = c.loop-place.self in
    let now = c.step.new.self in
    let went = subst (λ (r : Result (Seen g.row.K-Reply.Denot) Fault). IfOk r (λ seen. Shows k (core_draws was) (core_state_of was) event seen (core_state_of now)))
    c.in_default.is c.step.ensures.readout in
    let readout = subst (λ (n : ℕ). Shows k n (core_state_of was) event c.in_default.field-0 (core_state_of now)) before.1.draws went in (
      leads_by_more k (core_draws c.args.self.now) (core_state_of c.args.self.now) (core_state_of was) (core_state_of now) c.args.events.now
          c.loop-place.place event c.in_default.field-0 before.0 c.loop-place-test.true c.index-events-place.is readout,
      record { opening = same_opening.opening ∙ before.1.opening; numbers = same_opening.numbers ∙ before.1.numbers; draws = same_opening.draws ∙ before.1.draws },
    )

-- an event with a fault has changed nothing
same : (g : Over) (c : In-Err g) → core_state_of c.step.new.self ≡ core_state_of c.loop-place.self
same g c = subst (λ (r : Result (Seen g.row.K-Reply.Denot) Fault). OnErr r (core_state_of c.step.new.self ≡ core_state_of c.loop-place.self))
    c.in-Err.is c.step.ensures.same

pub returns-in-Err-clause-place : goal.returns-in-Err-clause-place
returns-in-Err-clause-place g c = c.loop-place-test.true

pub returns-in-Err-clause-before : goal.returns-in-Err-clause-before
returns-in-Err-clause-before g c =
    subst (LeadsBy g.K.Kept (core_draws c.args.self.now) (core_state_of c.args.self.now) (take c.loop-place.place c.args.events.now)) (sym (same g c))
    c.loop-place.invariant.0

pub returns-in-Err-clause-fault : goal.returns-in-Err-clause-fault
returns-in-Err-clause-fault g c =
    let k = g.K.Kept in
    let fault = c.in-Err.fault in
    let read = c.index-events-place.result in
    let found = (c.step.ensures.fault fault).0 c.in-Err.is in
    λ event at.
    let is = c.index-events-place.is ∙ get_or_from_slice_get c.args.events.now c.loop-place.place event read at in
    subst (λ b. IsFault k b event fault) (sym (same g c)) (subst (λ e. IsFault k (core_state_of c.loop-place.self) e fault) is found)

pub returns-in-Err-clause-same_opening : goal.returns-in-Err-clause-same_opening
returns-in-Err-clause-same_opening g c =
    let before = c.loop-place.invariant.1 in
    let same_opening = c.step.ensures.same_opening in
    record { opening = same_opening.opening ∙ before.opening; numbers = same_opening.numbers ∙ before.numbers; draws = same_opening.draws ∙ before.draws }

pub returns-in-Err-clause-lawful : goal.returns-in-Err-clause-lawful
returns-in-Err-clause-lawful g c = c.step.ensures.lawful

pub returns-in-Err-clause-book : goal.returns-in-Err-clause-book
returns-in-Err-clause-book g c = c.step.ensures.book

pub returns-clause-all : goal.returns-clause-all
returns-clause-all g c =
    subst (λ es. LeadsBy g.K.Kept (core_draws c.args.self.now) (core_state_of c.args.self.now) es (core_state_of c.loop-place.self))
    (take_all c.loop-place.place c.args.events.now (omega (arith, c.loop-place-test.false))) c.loop-place.invariant.0

pub returns-clause-same_opening : goal.returns-clause-same_opening
returns-clause-same_opening g c = c.loop-place.invariant.1

pub returns-clause-lawful : goal.returns-clause-lawful
returns-clause-lawful g c = c.loop-place.self.lawful
