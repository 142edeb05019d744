use Rattle.std.proofs.Common.{rules, ◌≡◌, ◌∷◌, ◌++◌, [], ℕ, List, length, arith, ap, ◌∙◌}
use Rattle.ticket_steps.proofs.Lists.{length-copied, copied-next, copied-all}
use Rattle.ticket_steps.proofs.core_steps.first_words.Goals as goal

pub loop-place-init : goal.loop-place-init
loop-place-init g c = (c.in_ok-board.ensures.items, c.in_ok-board.ensures.capacity)

pub push_reserved-requires : goal.push_reserved-requires
push_reserved-requires g c =
    let copied = length-copied _ c.loop-place.place c.words-count.result c.words-count.ensures c.loop-place-test.true in
    omega (arith, ap length c.loop-place.invariant.0, copied, c.loop-place.board.ok.0, c.loop-place.invariant.1, c.loop-place-test.true)

pub loop-place-preserved : goal.loop-place-preserved
loop-place-preserved g c =
    let more : c.push_reserved.new.self.items ≡ c.loop-place.board.items ++ c.word.result ∷ [] = search rules in (
      more ∙ (ap (λ (l : List ℕ). l ++ c.word.result ∷ []) c.loop-place.invariant.0
          ∙ copied-next _ c.loop-place.place c.words-count.result c.words-count.ensures c.loop-place-test.true c.word.ensures),
      search rules,
    )

pub returns : goal.returns
returns g c = c.loop-place.invariant.0
    ∙ copied-all _ c.loop-place.place c.words-count.result c.words-count.ensures
    (omega (arith, c.loop-place-test.false, c.loop-place.auto.place-end))
