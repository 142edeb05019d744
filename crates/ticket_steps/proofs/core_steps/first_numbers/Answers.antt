use Rattle.std.proofs.Common.{rules, ◌≡◌, ◌∷◌, ◌++◌, [], sym, ap, ◌∙◌, List, ℕ, ◌+◌, arith}
use Rattle.ticket_steps.specs.Sums.{numbers_from}
use Rattle.ticket_steps.proofs.SumLemmas.{numbers_from_more}
use Rattle.ticket_steps.proofs.core_steps.first_numbers.Goals as goal

pub loop-number-preserved : goal.loop-number-preserved
loop-number-preserved c =
    let n : ℕ = c.loop-number.number in
    let more : c.push_back.new.self ≡ c.loop-number.numbers ++ n ∷ [] = search rules in
    let now : c.push_back.new.self ≡ numbers_from 0 n ++ n ∷ [] = more ∙ ap (λ (l : List ℕ). l ++ n ∷ []) c.loop-number.invariant in
    let zero_is : 0 + n ≡ n = omega arith in
    now ∙ sym (numbers_from_more 0 n ∙ ap (λ (k : ℕ). numbers_from 0 n ++ k ∷ []) zero_is)
