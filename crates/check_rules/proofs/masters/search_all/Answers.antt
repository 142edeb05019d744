use Rattle.std.proofs.Common.{◌≡◌, ◌-◌, ap, arith, get_or, length, take}
use Rattle.check_rules.proofs.MarkLemmas.{marked_within}
use Rattle.check_rules.proofs.SearchLemmas.{ends, finds, in_whole_order, last_of, order_size, queued_in_order, starts, visits}
use Rattle.check_rules.proofs.masters.search_all.Goals as goal

pub loop-place-init : goal.loop-place-init
loop-place-init c =
    let setup = c.args.setup.now in
    let order = c.order-order.result.now in
    let count = c.len-place.ensures.count in
    starts setup c.args.standings.now c.args.n c.fill.new.self (take c.len-place.result order) (length c.args.marks.now) (c.fill.ensures.after search)
    c.requires.scratch c.requires.in_range
    (in_whole_order setup order c.len-place.ensures.setup c.order-order.ensures c.len-place.result c.args.n count c.requires.in_range)

pub returns-then-is_any_met-clause-value : goal.returns-then-is_any_met-clause-value
returns-then-is_any_met-clause-value c =
    let setup = c.args.setup.now in
    let order = c.order-order.result.now in
    let place = c.loop-place.place in
    let some = c.loop-place-test.true in
    let top = c.loop-place.auto.place in
    let count = c.len-place.ensures.count in
    let whole = order_size setup order c.len-place.ensures.setup c.order-order.ensures in
    let is = rw (last_of order place 0 (omega (arith, some)) (omega (arith, top, count, whole))) at c.loop-place.invariant in
    let below = marked_within c.loop-place.marks _ c.if-marks-object.true in
    let size = c.loop-place.invariant.size in
    finds setup c.args.standings.now c.args.n c.len-place.ensures.setup c.loop-place.marks (take (place - 1) order) (get_or order (place - 1) 0) is
    c.if-marks-object.true (omega (arith, below, size)) c.is_any_met.result c.dependencies-dependencies.result.now
    c.dependencies-dependencies.ensures.dependencies c.is_any_met.ensures c.if-is_any_met.true

pub loop-place-preserved-then-marks-object : goal.loop-place-preserved-then-marks-object
loop-place-preserved-then-marks-object c =
    let setup = c.args.setup.now in
    let order = c.order-order.result.now in
    let valid = c.len-place.ensures.setup in
    let place = c.loop-place.place in
    let some = c.loop-place-test.true in
    let top = c.loop-place.auto.place in
    let count = c.len-place.ensures.count in
    let whole = order_size setup order valid c.order-order.ensures in
    let is = rw (last_of order place 0 (omega (arith, some)) (omega (arith, top, count, whole))) at c.loop-place.invariant in
    let below = marked_within c.loop-place.marks _ c.if-marks-object.true in
    let size = c.loop-place.invariant.size in
    let own = c.dependencies-dependencies.ensures.dependencies in
    visits setup c.args.standings.now c.args.n valid c.loop-place.marks (take (place - 1) order) (get_or order (place - 1) 0) is c.if-marks-object.true
    (omega (arith, below, size)) c.mark_masters.new.marks (take (place - 1) order) c.is_any_met.result c.dependencies-dependencies.result.now own
    c.is_any_met.ensures c.if-is_any_met.false c.mark_masters.ensures.marked c.mark_masters.ensures.all
    (queued_in_order setup order valid c.order-order.ensures (place - 1) 0 c.dependencies-dependencies.result.now c.loop-place.marks
    c.mark_masters.new.marks (omega (arith, some, top, count, whole)) own c.mark_masters.ensures.marked)

pub returns-clause-value : goal.returns-clause-value
returns-clause-value c =
    let order = c.order-order.result.now in
    let none = c.loop-place-test.false in
    let zero : c.loop-place.place ≡ 0 = omega (arith, none) in
    ends c.args.setup.now c.args.standings.now c.args.n c.loop-place.marks (take c.loop-place.place order) (ap (λ k. take k order) zero)
    c.loop-place.invariant
