use Rattle.std.proofs.Common.{◌<◌, arith, length}
use Rattle.setup_diagnostics.proofs.GrowthLemmas.{begins_then, each_more, each_then, has_then}
use Rattle.setup_diagnostics.proofs.schema.push_each.Goals as goal

pub loop-member-preserved : goal.loop-member-preserved
loop-member-preserved c =
    let within : c.loop-member.member-index < length c.args.members.now = omega (arith, c.loop-member-test.true) in
    let after = begins_then _ _ _ c.in_ok-push_member.ensures c.in_ok-close.ensures in
    let turn = begins_then _ _ _ c.in_ok-open.ensures.extends after in
    record {
      extends = begins_then _ _ _ c.loop-member.invariant.extends turn;
      names = each_more c.args.members.now c.loop-member.member-index _ c.close.new.self within (each_then _ _ _ c.loop-member.invariant.names turn)
          (has_then _ _ _ c.in_ok-open.ensures.named after);
    }
