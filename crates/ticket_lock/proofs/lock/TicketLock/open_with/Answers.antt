use Rattle.std.proofs.Common.{rules, true, ◌≡◌, ℕ, ◌*◌, ◌∷◌, [], Some, arith, sym, ap, ◌∙◌, subst}
use Rattle.atomic_table.specs.Table.{opening}
use Rattle.ticket_steps.specs.History.{replay}
use Rattle.ticket_steps.specs.Sums.{numbers_from}
use Rattle.ticket_steps.proofs.SumLemmas.{length-numbers_from}
use Rattle.ticket_lock.specs.Callers.{caller}
use Rattle.ticket_lock.specs.Layout.{first_words}
use Rattle.ticket_lock.specs.Rule.{ObeysRule}
use Rattle.ticket_lock.specs.Tokens.{caller_in}
use Rattle.ticket_lock.specs.Views.{first_view}
use Rattle.ticket_lock.proofs.Obligations.{starts}
use Rattle.ticket_lock.proofs.lock.TicketLock.open_with.Goals as goal

pub new-requires : goal.new-requires
new-requires g c =
    let items : c.push_reserved.new.self.items ≡ Some c.args.book ∷ [] = search rules in
    let k = g.K.Kept in
    let same : c.args.book ≡ c.of.result.value = sym c.of.ensures in
    let state : g.K.Kept.state c.args.book ≡ g.K.Kept.opening c.of.result.value =
    g.met.K.Kept.replayed c.args.book ∙ (ap (replay g.K.Kept.step (g.K.Kept.opening c.args.book)) c.requires.empty.0 ∙ ap g.K.Kept.opening same) in
    let words : c.as_slice.result.now ≡ first_words (g.K.Kept.board (g.K.Kept.opening c.of.result.value)) =
    c.as_slice.ensures.value ∙ (c.in-Ok.ensures ∙ ap (λ (s : g.K.Kept.State). first_words (g.K.Kept.board s)) state) in
    subst (λ ws. ObeysRule k record { book = c.of.result.value; numbers = c.args.numbers; draws = c.args.draws }
    (opening ws c.push_reserved.new.self.items (first_view record { book = c.of.result.value; numbers = c.args.numbers; draws = c.args.draws })))
    (sym words) (subst (λ xs. ObeysRule k record { book = c.of.result.value; numbers = c.args.numbers; draws = c.args.draws }
    (opening (first_words (g.K.Kept.board (g.K.Kept.opening c.of.result.value))) xs
    (first_view record { book = c.of.result.value; numbers = c.args.numbers; draws = c.args.draws })))
    (sym items) (starts k _ c.args.book (ap k.opening same) c.requires.empty.0 c.requires.empty.1 c.requires.numbers.0
    c.requires.numbers.1 (omega arith)))

pub returns-in-Ok-new-clause-seat : goal.returns-in-Ok-new-clause-seat
returns-in-Ok-new-clause-seat g c =
    let n : ℕ = c.args.numbers in
    ap (λ s. caller_in s.me.0) c.with_all_draws-seat.ensures ∙ (ap (λ m. caller_in m.0) c.in-Ok-new.ensures.ok.4
    ∙ ap (λ (l : ℕ). caller 0 (numbers_from 0 n) (l * c.args.draws) 0 true []) (length-numbers_from 0 n))
