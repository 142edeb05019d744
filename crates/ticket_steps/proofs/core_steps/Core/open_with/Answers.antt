use Rattle.std.proofs.Common.{rules, ◌≡◌, ◌*◌, ◌∷◌, [], sym, ap, ◌∙◌, subst, true}
use Rattle.ticket_steps.specs.declared.seats.Phase.TheVariants.{Idle}
use Rattle.ticket_steps.specs.History.{replay}
use Rattle.ticket_steps.specs.Books.{book_state}
use Rattle.ticket_steps.specs.CoreStates.{core_state, opening_core}
use Rattle.ticket_steps.specs.Lawful.{IsLawful}
use Rattle.ticket_steps.specs.Seats.{seat}
use Rattle.ticket_steps.proofs.CoreLemmas.{opened_is}
use Rattle.ticket_steps.proofs.LawfulSteps.{lawful_opened}
use Rattle.ticket_steps.proofs.core_steps.Core.open_with.Given.{Over}
use Rattle.ticket_steps.proofs.core_steps.Core.open_with.Goals.{After-open}
use Rattle.ticket_steps.proofs.core_steps.Core.open_with.Goals as goal

-- what is opened stands for the core state at the opening
opens : (g : Over) (c : After-open g) → let k = g.K.Kept in let book = c.args.book in
    core_state 0 c.open.result c.push_reserved.new.self.items (book_state (k.state book) (k.history book) (k.refusals book))
    ≡ opening_core c.args.numbers c.args.draws (k.opening book)
opens g c =
    let k = g.K.Kept in
    let book = c.args.book in
    let items : c.push_reserved.new.self.items ≡ seat 0 c.in-Ok.all Idle (c.args.numbers * c.args.draws) 0 true ∷ [] = search rules in
    let state : k.state book ≡ k.opening book = g.met.K.Kept.replayed book ∙ ap (replay k.step (k.opening book)) c.requires.empty.0 in
    opened_is c.args.numbers c.args.draws (k.opening book) (k.state book) (k.history book) (k.refusals book) c.open.result
    c.push_reserved.new.self.items c.in-Ok.all c.open.ensures c.in-Ok.ensures items state c.requires.empty.0 c.requires.empty.1

pub invariant_of-result-clause-lawful : goal.invariant_of-result-clause-lawful
invariant_of-result-clause-lawful g c =
    subst (IsLawful c.args.numbers c.args.draws) (sym (opens g (goal.at.invariant_of-result-clause-lawful g c).After-open))
    (lawful_opened c.args.numbers c.args.draws (g.K.Kept.opening c.args.book) c.requires.numbers.0)

pub returns-clause-opening_core : goal.returns-clause-opening_core
returns-clause-opening_core g c = opens g (goal.at.returns-clause-opening_core g c).After-open
