use Rattle.std.proofs.Common.{◌≡◌, ◌+◌, ◌*◌, ◌≤◌, drop}
use Rattle.check_states.specs.Changes.{changes_after, weight_after}
use Rattle.check_states.proofs.changes.changes_after.Given as goal

-- what was added up and what is still to come are the whole, and no change weighs over 200
abbrev pub invariant-loop-found : goal.invariant-loop-found
invariant-loop-found l = record {
  weight : l.changes.weight + weight_after l.last (drop l.found-index l.results) l.next_weight ≡ weight_after l.initial.last l.results l.initial.next_weight;
  count : l.changes.count + changes_after l.last (drop l.found-index l.results) ≡ changes_after l.initial.last l.results;
  step : l.next_weight ≡ l.initial.next_weight + 2 * l.found-index;
  upper_bound : l.changes.weight ≤ l.found-index * 200;
  bounded : l.changes.count ≤ l.found-index;
}
