use Rattle.std.proofs.Common.{rules, ◌≡◌, ◌+◌, ◌≤◌, ◌∷◌, ◌++◌, [], ℕ, List, length, vec_capacity, arith, ap, ◌∙◌}
use Rattle.ticket_steps.proofs.Lists.{length-copied, copied-next, copied-all}
use Rattle.ticket_lock.specs.Layout.{first_words}
use Rattle.ticket_lock.proofs.layout.first_words.Goals as goal

pub loop-place-init : goal.loop-place-init
loop-place-init g c =
    let none : c.push_reserved-5.new.self.items ≡ 0 ∷ 0 ∷ 0 ∷ 0 ∷ 0 ∷ [] = search rules in
    let room : c.words-count.result + 5 ≤ vec_capacity c.push_reserved-5.new.self = search rules in (none, room)

pub push_reserved-requires-in-loop-place : goal.push_reserved-requires-in-loop-place
push_reserved-requires-in-loop-place g c =
    let copied = length-copied _ c.loop-place.place c.words-count.result c.words-count.ensures c.loop-place-test.true in
    omega (arith, ap length c.loop-place.invariant.0, copied, c.loop-place.words.ok.0, c.loop-place.invariant.1, c.loop-place-test.true)

pub loop-place-preserved : goal.loop-place-preserved
loop-place-preserved g c =
    let more : c.push_reserved-in-loop-place.new.self.items ≡ c.loop-place.words.items ++ c.word.result ∷ [] = search rules in
    let next = copied-next _ c.loop-place.place c.words-count.result c.words-count.ensures c.loop-place-test.true c.word.ensures in
    (more ∙ (ap (λ (l : List ℕ). l ++ c.word.result ∷ []) c.loop-place.invariant.0 ∙ ap first_words next), search rules)

pub returns : goal.returns
returns g c =
    let all = copied-all _ c.loop-place.place c.words-count.result c.words-count.ensures
    (omega (arith, c.loop-place-test.false, c.loop-place.auto.place-end)) in
    c.loop-place.invariant.0 ∙ ap first_words all
