use Rattle.setup_order.proofs.WalkLemmas.{way_begins, way_comes_back, way_continues, way_ends}
use Rattle.setup_order.proofs.cycle.closed_walk.Goals as goal

pub loop-step-init : goal.loop-step-init
loop-step-init c = rw c.new-cycle.ensures.items (way_begins c.args.next.now c.args.object)

pub returns-then-at-object : goal.returns-then-at-object
returns-then-at-object c = way_comes_back c.args.next.now c.args.object c.loop-step._step c.loop-step.at _ _ _ c.loop-step.invariant c.in_ok-push.ensures.items c.step-at.ensures c.if-at-object.true

pub loop-step-preserved : goal.loop-step-preserved
loop-step-preserved c = way_continues c.args.next.now c.args.object c.loop-step._step c.loop-step.at _ _ _ c.loop-step.invariant c.in_ok-push.ensures.items c.step-at.ensures c.if-at-object.false

pub returns : goal.returns
returns c = absurd (way_ends c.args.next.now c.args.object c.loop-step._step c.loop-step.at c.loop-step.cycle.items c.loop-step.invariant c.requires c.loop-step-test.false)
