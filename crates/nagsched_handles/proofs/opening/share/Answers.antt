use Rattle.std.proofs.Common.{◌≡◌, ◌<◌, ◌∙◌, sym, ap, subst, arith, length, length-set}
use Rattle.std.proofs.lemmas.List.Elements.{AllWithin-more_set}
use Rattle.std_alloc.specs.Arc.{arc_value}
use Rattle.nagsched_handles.specs.Places.{IsPlaceOf}
use Rattle.nagsched_handles.proofs.opening.share.Goals as goal

pub loop-at-preserved : goal.loop-at-preserved
loop-at-preserved c =
    let was = c.loop-at.invariant in
    let desk = arc_value c.args.shared.now in
    let less : c.loop-at.at < length c.loop-at.places.items = omega (arith, c.loop-at-test.true, c.len-at-end.ensures, was.0) in
    let of : arc_value c.without_pass.result.shared ≡ desk = ap arc_value c.without_pass.ensures ∙ c.in_ok-try_clone.ensures in (
      length-set c.loop-at.places.items c.loop-at.at _ ∙ was.0,
      AllWithin-more_set c.loop-at.places.items c.loop-at.at _ less (λ place. IsPlaceOf desk place.value) was.1 (subst (IsPlaceOf desk) (sym c.put.ensures) of),
    )
