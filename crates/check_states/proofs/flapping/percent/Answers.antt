use Rattle.std.proofs.Common.{◌∙◌, sym, arith, length, ◌≡◌}
use Rattle.std.proofs.lemmas.Bool.{eqb-true}
use Rattle.check_states.proofs.FlappingLemmas.{within_all}
use Rattle.check_states.proofs.flapping.percent.Goals as goal

pub percent-requires : goal.percent-requires
percent-requires c =
    let results = c.args.results.now in
    let full : length results.items ≡ 21 = eqb-true (length results.items) results.capacity (sym c.is_full.ensures ∙ c.if-is_full.true) ∙ c.requires.capacity in
    rw c.among.ensures.weight (within_all results.items (omega (arith, full)))
