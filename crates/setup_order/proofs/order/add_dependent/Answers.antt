use Rattle.std.proofs.Common.{◌≡◌, arith, length, map, vec_len}
use Rattle.std.proofs.lemmas.List.{length-map}
use Rattle.setup_order.proofs.DependentLemmas.{adds_next}
use Rattle.setup_order.proofs.order.add_dependent.Goals as goal

pub loop-link-preserved : goal.loop-link-preserved
loop-link-preserved c =
    let e : vec_len c.args.dependents.now ≡ length (map (λ list. list.items) c.args.dependents.now.items)
    = omega (arith, c.args.dependents.now.ok.0, length-map c.args.dependents.now.items (λ list. list.items)) in
    adds_next c.args.object (vec_len c.args.dependents.now) c.loop-link.link-index 0 c.args.links.now _ _ _ c.loop-link.invariant c.loop-link-test.true
    c.requires e c.in_ok-push_to_list.ensures.pushed
