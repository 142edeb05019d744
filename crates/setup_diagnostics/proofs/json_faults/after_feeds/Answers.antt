use Rattle.std.proofs.Common.{◌∙◌}
use Rattle.setup_diagnostics.proofs.JsonLemmas.{feeds_next}
use Rattle.setup_diagnostics.proofs.json_faults.after_feeds.Goals as goal

pub loop-passed-preserved : goal.loop-passed-preserved
loop-passed-preserved c =
    c.loop-passed.invariant
    ∙ feeds_next c.args.feeds c.loop-passed.passed c.loop-passed.rest.now c.after_feed-rest.result.now c.loop-passed-test.true c.after_feed-rest.ensures
