use Rattle.std.proofs.Common.{ℕ, ◌+◌, set, sym, ◌∙◌, subst}
use Rattle.ticket_steps.specs.Grants.{AreGrantsOf}
use Rattle.ticket_steps.proofs.GrantLemmas.{grants_left}
use Rattle.ticket_steps.proofs.grants.Grants.leave.Goals as goal

pub invariant_of-self : goal.invariant_of-self
invariant_of-self c =
    let words = c.self.inside.words in
    let before = subst (λ (n : ℕ). AreGrantsOf n words) (c.self.view_is ∙ sym c.requires.served) c.self.invariant in
    let now = grants_left c.args.ticket c.watched_word.result words before c.watched_word.ensures in
    subst (λ (n : ℕ). AreGrantsOf n (set words c.watched_word.result (c.args.ticket + 1))) (sym now.greatest_is) now

pub returns : goal.returns
returns c =
    let words = c.self.inside.words in
    let before = subst (λ (n : ℕ). AreGrantsOf n words) (c.self.view_is ∙ sym c.requires.served) c.self.invariant in
    (grants_left c.args.ticket c.watched_word.result words before c.watched_word.ensures).greatest_is
