use Rattle.std.proofs.Common.{◌≡◌, length}
use Rattle.std.specs.List.{AllWithin}
use Rattle.std_alloc.specs.Arc.{arc_value}
use Rattle.nagsched_handles.specs.Places.{IsPlaceOf}
use Rattle.nagsched_handles.proofs.opening.share.Given as goal

abbrev pub invariant-loop-at : goal.invariant-loop-at
invariant-loop-at l =
    (length l.places.items ≡ length l.fn.places.items) × AllWithin (λ place. IsPlaceOf (arc_value l.shared) place.value) l.places.items 0 l.at
