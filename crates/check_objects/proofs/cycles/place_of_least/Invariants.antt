use Rattle.std.proofs.Common.{◌<◌, ◌≤◌, ℕ, get_or, length}
use Rattle.check_objects.proofs.cycles.place_of_least.Given as goal

abbrev pub invariant-loop-place : goal.invariant-loop-place
invariant-loop-place l = record {
  within : l.least < length l.numbers;
  least : (place : ℕ) → place < l.place → get_or l.numbers l.least 0 ≤ get_or l.numbers place 0;
}
