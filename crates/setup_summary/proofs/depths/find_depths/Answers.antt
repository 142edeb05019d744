use Rattle.std.proofs.Common.{◌∙◌, [], arith, get_or, length, map, take}
use Rattle.std.proofs.lemmas.List.{length-map, take_more, take_all}
use Rattle.setup_order.proofs.DependentLemmas.{list_at}
use Rattle.setup_order.proofs.GrowthLemmas.{below_at}
use Rattle.setup_summary.proofs.DepthLemmas.{knows_none, knows_more, knows_all, links_placed, all_placed_below}
use Rattle.setup_summary.proofs.depths.find_depths.Goals as goal

pub loop-object-init : goal.loop-object-init
loop-object-init c =
    let links = map (λ list. list.items) c.args.links.now in
    let size = length-map c.args.links.now (λ list. list.items) in
    let zeros = c.in_ok-depths.ensures.items_if_clones_equal search in
    knows_none links c.in_ok-depths.depths.items (rw size zeros)

pub depth_over-depth-requires-clause-within : goal.depth_over-depth-requires-clause-within
depth_over-depth-requires-clause-within c =
    let links = map (λ list. list.items) c.args.links.now in
    let size = length-map c.args.links.now (λ list. list.items) in
    let at = below_at (length links) c.args.order.now c.loop-object.object-index 0 c.loop-object-test.true c.requires.order.within in
    let same = c.as_slice.ensures ∙ list_at (λ list. list.items) c.args.links.now (get_or c.args.order.now c.loop-object.object-index 0)
    c.index-links-object.result c.index-links-object.result (omega (arith, at, size)) c.index-links-object.is in
    rw (c.deref.ensures.value, c.loop-object.invariant.size, same) (all_placed_below links c.args.order.now c.loop-object.object-index 0 c.requires.order
    c.loop-object-test.true)

pub loop-object-preserved : goal.loop-object-preserved
loop-object-preserved c =
    let links = map (λ list. list.items) c.args.links.now in
    let order = c.args.order.now in
    let size = length-map c.args.links.now (λ list. list.items) in
    let object = get_or order c.loop-object.object-index 0 in
    let at = below_at (length links) order c.loop-object.object-index 0 c.loop-object-test.true c.requires.order.within in
    let same = c.as_slice.ensures ∙ list_at (λ list. list.items) c.args.links.now object
    c.index-links-object.result c.index-links-object.result (omega (arith, at, size)) c.index-links-object.is in
    let placed = links_placed links [] order c.loop-object.object-index 0 c.requires.order.after_links c.loop-object-test.true in
    rw (take_more order c.loop-object.object-index 0 c.loop-object-test.true, c.depth_over-depth.ensures, c.deref.ensures.value, same)
    (knows_more links (take c.loop-object.object-index order) c.loop-object.depths.items object c.loop-object.invariant at placed)

pub returns : goal.returns
returns c =
    let links = map (λ list. list.items) c.args.links.now in
    let whole = take_all c.loop-object.object-index c.args.order.now (omega arith) in
    knows_all links c.args.order.now c.loop-object.depths.items c.requires.order (rw whole at c.loop-object.invariant)
