use Rattle.std.proofs.Common.{◌≡◌, ℕ, ◌<◌, List, arith, get_or, length, map, sym, ◌∙◌}
use Rattle.std.proofs.lemmas.List.{length-map}
use Rattle.setup_order.specs.Cycles.{links_of}
use Rattle.setup_order.specs.Growth.{HasDependents, IsOrderPrefix}
use Rattle.setup_order.specs.Orders.{occurrences}
use Rattle.setup_order.proofs.ChainLemmas.{links_within}
use Rattle.setup_order.proofs.GrowthLemmas.{under_way_first, under_way_next, enough_open, order_whole, cycle_left, stuck_left, placed_below, written_back}
use Rattle.setup_order.proofs.DependentLemmas.{dependents_at, all_below_same}
use Rattle.setup_order.proofs.order.topological_order.Goals as goal

-- what was read of the object that stands at a place of the order: the list of those that link to it, each once for each of its links there
dependents_read : {X : Type 0} (f : X → List ℕ) (n : ℕ) (links : List (List ℕ)) (xs : List X) (place object : ℕ) (left order read : List ℕ) (w : X)
    → HasDependents n links (map f xs) → IsOrderPrefix links place left order → place < length order → length links ≡ n → object ≡ get_or order place object
    → w ≡ get_or xs object w → read ≡ f w
    → (read ≡ links_of (map f xs) object) × ((o : ℕ) → o < length links → occurrences o read ≡ occurrences (get_or order place object) (links_of links o))
dependents_read f n links xs place object left order read w d u h size at is same =
    let below : object < n = (let b = placed_below links place object left order u h at in omega arith) in
    let e = same ∙ dependents_at f n links xs object w d below is in
    (e, λ o l. rw (e, ← at) (d.counts object o below))

pub loop-place-init : goal.loop-place-init
loop-place-init c =
    let links = map (λ list. list.items) c.args.links.now in
    rw (c.in_ok-order.ensures, c.deref.ensures.value) (under_way_first links c.in_ok-left.left.items c.in_ok-left.ensures)

pub close_links-requires-clause-within : goal.close_links-requires-clause-within
close_links-requires-clause-within c =
    let links = map (λ list. list.items) c.args.links.now in
    let size = length-map c.args.links.now (λ list. list.items) in
    let read = dependents_read (λ list. list.items) _ links _ _ _ _ _ _ _ c.in_ok-dependents.ensures c.loop-place.invariant (omega arith) size
    c.index-object.ensures c.index.ensures c.as_slice.ensures in
    let left : length c.args.links.now ≡ length c.deref_mut.result.now = rw c.deref_mut.ensures.value (sym size ∙ sym c.loop-place.invariant.size) in
    all_below_same (length c.args.links.now) _ c.as_slice.result.now left
    (rw read.0 (links_within (length c.args.links.now) (map (λ list. list.items) c.in_ok-dependents.dependents.items) c.index-object.result.now
    c.in_ok-dependents.ensures.within))

pub close_links-requires-clause-open : goal.close_links-requires-clause-open
close_links-requires-clause-open c =
    let links = map (λ list. list.items) c.args.links.now in
    let read = dependents_read (λ list. list.items) _ links _ _ _ _ _ _ _ c.in_ok-dependents.ensures c.loop-place.invariant (omega arith)
    (length-map c.args.links.now (λ list. list.items)) c.index-object.ensures c.index.ensures c.as_slice.ensures in
    rw c.deref_mut.ensures.value (enough_open links c.loop-place.place c.loop-place.left.items c.loop-place.order.items c.as_slice.result.now
    c.index-object.result.now c.loop-place.invariant (omega arith) read.1)

pub loop-place-preserved : goal.loop-place-preserved
loop-place-preserved c =
    let links = map (λ list. list.items) c.args.links.now in
    let read = dependents_read (λ list. list.items) _ links _ _ _ _ _ _ _ c.in_ok-dependents.ensures c.loop-place.invariant (omega arith)
    (length-map c.args.links.now (λ list. list.items)) c.index-object.ensures c.index.ensures c.as_slice.ensures in
    let closed = rw c.deref_mut.ensures.value at c.in_ok-close_links.ensures in
    rw (written_back c.loop-place.left.len c.close_links.new.left c.loop-place.left.items (omega (arith, closed.size, c.loop-place.left.ok.0)))
    (under_way_next links c.loop-place.place c.loop-place.left.items c.loop-place.order.items c.as_slice.result.now c.close_links.new.left
    c.close_links.new.order.items c.index-object.result.now c.loop-place.invariant (omega arith) read.1 closed)

pub returns-then-are_closed : goal.returns-then-are_closed
returns-then-are_closed c =
    let links = map (λ list. list.items) c.args.links.now in
    order_whole links c.loop-place.place c.loop-place.left.items c.loop-place.order.items c.loop-place.invariant
    (rw (← c.deref-2.ensures.value) (sym c.are_closed.ensures ∙ c.if-are_closed.true))

pub find_cycle-requires-clause-stuck : goal.find_cycle-requires-clause-stuck
find_cycle-requires-clause-stuck c =
    let links = map (λ list. list.items) c.args.links.now in
    let size = length-map c.args.links.now (λ list. list.items) in
    rw c.deref-else-are_closed.ensures.value (stuck_left links c.loop-place.place c.loop-place.left.items c.loop-place.order.items c.loop-place.invariant (omega arith)
    (rw size c.requires.within))

pub returns : goal.returns
returns c =
    let links = map (λ list. list.items) c.args.links.now in
    let size = length-map c.args.links.now (λ list. list.items) in
    let stuck = stuck_left links c.loop-place.place c.loop-place.left.items c.loop-place.order.items c.loop-place.invariant (omega arith)
    (rw size c.requires.within) in
    (cycle_left links c.loop-place.left.items stuck (rw (← c.deref-2.ensures.value) (sym c.are_closed.ensures ∙ c.if-are_closed.false)), c.in_ok-find_cycle.ensures)
