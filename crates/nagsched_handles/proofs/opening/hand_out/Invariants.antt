use Rattle.std.proofs.Common.{◌≡◌, ◌++◌, List, length, drop}
use Rattle.std.specs.List.{All}
use Rattle.std_alloc.specs.Arc.{arc_value}
use Rattle.check_desk.specs.declared.passes.Pass.{Pass}
use Rattle.nagsched_handles.specs.Opening.{IsFreshPassOf}
use Rattle.nagsched_handles.specs.Places.{HavePasses, IsPlaceOf}
use Rattle.nagsched_handles.proofs.opening.hand_out.Given as goal

abbrev pub invariant-loop-pass : goal.invariant-loop-pass
invariant-loop-pass l =
    let desk = arc_value l.shared in
    (length l.handles ≡ length l.fn.passes.items) × (length l.places.items ≡ length l.passes.items)
    × All (IsFreshPassOf desk.desk) l.passes.items × All (λ place. IsPlaceOf desk place.value) l.places.items
    × ((given : List Pass) × (l.fn.passes.items ≡ l.passes.items ++ given) × HavePasses desk given (drop (length l.passes.items) l.handles))

abbrev pub decreases-loop-pass : goal.decreases-loop-pass
decreases-loop-pass l = length l.passes.items
