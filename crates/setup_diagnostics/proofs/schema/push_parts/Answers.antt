use Rattle.std.proofs.Common.{◌<◌, arith, length}
use Rattle.setup_diagnostics.proofs.GrowthLemmas.{all_more, all_then, begins_then, has_then, inner_then}
use Rattle.setup_diagnostics.proofs.schema.push_parts.Goals as goal

pub loop-member-preserved : goal.loop-member-preserved
loop-member-preserved c =
    let within : c.loop-member.member-index < length c.args.members.now = omega (arith, c.loop-member-test.true) in
    let last = c.in_ok-close.ensures in
    let after = begins_then _ _ _ c.in_ok-push_part_kind.ensures.extends last in
    let turn = begins_then _ _ _ c.in_ok-open.ensures.extends after in
    all_more c.args.members.now c.loop-member.member-index _ c.close.new.self within (all_then _ _ _ c.loop-member.invariant turn)
    (has_then _ _ _ c.in_ok-open.ensures.named after) (inner_then _ _ _ c.in_ok-push_part_kind.ensures.names last)
