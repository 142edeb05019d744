use Rattle.std.proofs.Common.{◌≡◌, ◌+◌, [], length}
use Rattle.std.specs.List.{All}
use Rattle.check_desk.specs.Desks.{IsPassOf}
use Rattle.check_desk.specs.Passes.{pass_of}
use Rattle.nagsched_handles.specs.Opening.{IsFreshPassOf}
use Rattle.nagsched_handles.proofs.opening.gather_all.Given as goal

abbrev pub invariant-loop-pass : goal.invariant-loop-pass
invariant-loop-pass l =
    IsPassOf l.desk l.whole × All (IsFreshPassOf l.desk) l.rest.items
    × (length (pass_of l.whole).numbers + length l.rest.items ≡ length l.fn.passes.items)
    × ((pass_of l.whole).calls ≡ 0) × ((pass_of l.whole).seen ≡ [])

abbrev pub decreases-loop-pass : goal.decreases-loop-pass
decreases-loop-pass l = length l.rest.items
