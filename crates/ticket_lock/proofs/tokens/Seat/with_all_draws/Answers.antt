use Rattle.std.proofs.Common.{◌<◌, ◌*◌, length, sym, ap, ◌∙◌, subst, arith}
use Rattle.std.proofs.lemmas.Bool.{lt-ltb}
use Rattle.ticket_steps.specs.Sums.{occurrences}
use Rattle.ticket_steps.proofs.SumLemmas.{numbers_from_first, length-numbers_from}
use Rattle.ticket_lock.proofs.tokens.Seat.with_all_draws.Goals as goal

pub invariant_of-result : goal.invariant_of-result
invariant_of-result g c =
    let a = c.args in
    let is = c.requires.seat in
    let some = c.requires.numbers.0 in
    let many = length-numbers_from a.number a.count in
    record {
      bare = c.requires.bare;
      legal = c.requires.legal;
      idle = ap (λ s. s.phase) is;
      agreement = record {
        own = ap (λ s. s.own) is;
        count = ap (λ s. length s.numbers) is ∙ many;
        left = ap (λ s. s.left) is ∙ ap (λ n. n * a.draws) many;
        calls = ap (λ s. s.calls) is;
        nonempty_numbers = some;
        bounded_numbers = omega (arith, c.requires.numbers.1);
        bounded_calls = c.requires.calls;
        among = subst (λ s. 0 < occurrences s.own s.numbers) (sym is) (numbers_from_first a.number a.count some);
      };
      fresh_is = ap (λ s. s.fresh) is ∙ sym (lt-ltb 0 a.count some);
      range = λ _. c.requires.numbers.1;
      row = λ _. ap (λ s. s.numbers) is;
    }
