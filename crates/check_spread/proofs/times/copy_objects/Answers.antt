use Rattle.std.proofs.Common.{◌∙◌, ◌++◌, ◌∷◌, [], ap, sym, arith}
use Rattle.std.proofs.lemmas.List.{take_all}
use Rattle.check_spread.proofs.TimesLemmas.{objects_more, length-all_objects, intervals_in_range}
use Rattle.check_spread.proofs.times.copy_objects.Goals as goal

pub loop-number-preserved : goal.loop-number-preserved
loop-number-preserved c =
    let more = objects_more c.args.setup.now c.loop-number.number c.object.result.now (omega arith) c.object.ensures in
    c.in_ok-push.ensures.items ∙ ap (λ l. l ++ c.object.result.now ∷ []) c.loop-number.invariant ∙ sym more

pub returns-clause-intervals : goal.returns-clause-intervals
returns-clause-intervals c =
    let all = take_all c.loop-number.number _ (let l = length-all_objects c.args.setup.now in omega (arith, l)) in
    rw (c.loop-number.invariant ∙ all) (intervals_in_range c.args.setup.now c.len.ensures.setup)
