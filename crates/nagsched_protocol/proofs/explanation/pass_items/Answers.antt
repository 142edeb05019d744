use Rattle.std.proofs.Common.{◌∙◌}
use Rattle.nagsched_protocol.proofs.ExplanationLemmas.{item_next, passed_item}
use Rattle.nagsched_protocol.proofs.explanation.pass_items.Goals as goal

pub loop-passed-preserved : goal.loop-passed-preserved
loop-passed-preserved c =
    c.loop-passed.invariant
    ∙ item_next c.args.number c.loop-passed.passed c.loop-passed.reader c.skip_value.new.self c.loop-passed-test.true
    (passed_item c.skip_value.result c.loop-passed.reader c.skip_value.new.self c.skip_value.ensures.value c.skip_value.ensures.stops)
