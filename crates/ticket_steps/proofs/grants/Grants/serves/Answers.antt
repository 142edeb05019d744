use Rattle.std.proofs.Common.{◌∙◌, sym, ap, subst, ℕ, ◌≤◌, get_or}
use Rattle.std.proofs.lemmas.Bool.{eqb-true, eq-eqb}
use Rattle.ticket_steps.proofs.grants.Grants.serves.Goals as goal

-- the word that the ticket watches equals it exactly where it is served
pub returns : goal.returns
returns c =
    let words = c.self.inside.words in
    let ticket = c.args.ticket in
    let le = subst (λ (n : ℕ). n ≤ ticket) (sym c.self.view_is) c.requires in
    let found = c.self.invariant.found ticket le in
    let read = ap (λ (place : ℕ). get_or words place 0) c.watched_word.ensures in
    (λ same. found.0 (sym read ∙ eqb-true _ ticket same) ∙ c.self.view_is, λ is. eq-eqb _ ticket (read ∙ found.1 (is ∙ sym c.self.view_is)))
