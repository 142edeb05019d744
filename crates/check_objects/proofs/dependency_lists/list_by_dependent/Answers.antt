use Rattle.std.proofs.Common.{◌∙◌}
use Rattle.check_objects.proofs.DependencyLemmas.{lists_none, lists_step}
use Rattle.check_objects.proofs.dependency_lists.list_by_dependent.Goals as goal

pub loop-dependent-init : goal.loop-dependent-init
loop-dependent-init c = c.in_ok-lists.ensures ∙ lists_none c.args.count

pub loop-dependent-preserved : goal.loop-dependent-preserved
loop-dependent-preserved c =
    lists_step c.args.count c.args.numbered.now c.loop-dependent.dependent-index _ _ _ c.loop-dependent-test.true c.requires c.loop-dependent.invariant
    c.in_ok-push_to_list.ensures.pushed
