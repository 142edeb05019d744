use Rattle.std.proofs.Common.{◌≡◌, ℕ, arith, rules, sym, ap, ◌∙◌, subst, List, length}
use Rattle.std.proofs.lemmas.Bool.{false≢true}
use mathlib.Core.Logic.{dite}
use mathlib.Core.Option.{some}
use native.Mathlib.Decide.{ℕ_discrete}
use lib.ListN.{get_elem?}
use Rattle.ticket_steps.specs.declared.seats.CoreSeat.{CoreSeat}
use Rattle.ticket_steps.specs.Seats.{is_present}
use Rattle.ticket_steps.proofs.Lists.{at_index, at_same, at_within}
use Rattle.ticket_steps.proofs.core_steps.Core.seat_index.Given.{Over}
use Rattle.ticket_steps.proofs.core_steps.Core.seat_index.Goals.{After-seat-item}
use Rattle.ticket_steps.proofs.core_steps.Core.seat_index.Goals as goal

-- the seat of this round stands at its place
seat_here : (g : Over) (c : After-seat-item g) → get_elem? c.args.self.now.seats.items c.loop-at.at ≡ some c.seat-item.result
seat_here g c =
    subst (λ (l : List CoreSeat). get_elem? l c.loop-at.at ≡ some c.seat-item.result) c.deref-seat-items.ensures.value
    (at_index c.deref-seat-items.result.now c.loop-at.at c.seat-item.result c.loop-at-test.true c.seat-item.is)

pub returns-then-is_named-clause-found : goal.returns-then-is_named-clause-found
returns-then-is_named-clause-found g c =
    let t = c.if-is_named.ensures.0 search rules in
    (c.seat-item.result, seat_here g (goal.at.returns-then-is_named-clause-found g c).After-seat-item, t.0, t.1)

pub loop-at-preserved : goal.loop-at-preserved
loop-at-preserved g c = λ k p lt at called there. dite (ℕ_discrete k c.loop-at.at)
    (λ same.
    let items = c.args.self.now.seats.items in
    let s = c.seat-item.result in
    let is : p ≡ s = at_same items c.loop-at.at p s (subst (λ (n : ℕ). get_elem? items n ≡ some p) same at)
    (seat_here g (goal.at.loop-at-preserved g c).After-seat-item) in
    let yes = c.is_named.ensures.1 (ap (λ (z : CoreSeat). z.own) (sym is) ∙ called, ap (λ (z : CoreSeat). is_present z.phase) (sym is) ∙ there) in
    false≢true (sym c.if-is_named.false ∙ yes))
    (λ ne. c.loop-at.invariant k p (omega arith) at called there)

pub returns-clause-missing : goal.returns-clause-missing
returns-clause-missing g c =
    let all = ap (λ (l : List CoreSeat). length l) c.deref-seat-items.ensures.value in (
      search rules,
      λ t. c.loop-at.invariant t.0 t.1
          (omega (arith, all, at_within c.args.self.now.seats.items t.0 t.1 t.2, c.loop-at-test.false)) t.2 t.3 t.4,
    )
