use Rattle.std.proofs.Common.{◌≡◌, arith, length, map, sym, ◌∙◌, vec_len}
use Rattle.std.proofs.lemmas.List.{length-map}
use Rattle.setup_order.proofs.ChainLemmas.{links_within}
use Rattle.setup_order.proofs.DependentLemmas.{dependents_none, replicate_within, dependents_next, dependents_all, list_at, all_below_same}
use Rattle.setup_order.proofs.order.dependents_of.Goals as goal

pub loop-object-init : goal.loop-object-init
loop-object-init c =
    dependents_none (length c.args.links.now) (map (λ list. list.items) c.args.links.now) _ c.in_ok-dependents.ensures
    (rw c.in_ok-dependents.ensures (replicate_within (length c.args.links.now) (length c.args.links.now)))

pub add_dependent-requires : goal.add_dependent-requires
add_dependent-requires c =
    let same = c.as_slice.ensures ∙ list_at (λ list. list.items) c.args.links.now c.loop-object.object c.index-links-object.result
    c.index-links-object.result c.loop-object-test.true c.index-links-object.is in
    let size : length c.args.links.now ≡ vec_len c.loop-object.dependents = omega
    (arith, c.loop-object.invariant.size, c.loop-object.dependents.ok.0, length-map c.loop-object.dependents.items (λ list. list.items)) in
    all_below_same (length c.args.links.now) _ c.as_slice.result.now size
    (rw same (links_within (length c.args.links.now) (map (λ list. list.items) c.args.links.now) c.loop-object.object c.requires.within))

pub loop-object-preserved : goal.loop-object-preserved
loop-object-preserved c =
    let same = c.as_slice.ensures ∙ list_at (λ list. list.items) c.args.links.now c.loop-object.object c.index-links-object.result
    c.index-links-object.result c.loop-object-test.true c.index-links-object.is in
    let size = length-map c.args.links.now (λ list. list.items) in
    dependents_next (length c.args.links.now) c.loop-object.object
    (map (λ list. list.items) c.args.links.now) _ _ (omega (arith, size)) (sym size) c.loop-object.invariant (rw same at c.in_ok-add_dependent.ensures)

pub returns : goal.returns
returns c =
    let size = length-map c.args.links.now (λ list. list.items) in
    let end : c.loop-object.object ≡ length c.args.links.now = omega arith in
    dependents_all (length c.args.links.now) (map (λ list. list.items) c.args.links.now) _ (omega (arith, size)) (rw end at c.loop-object.invariant)
