use Rattle.std.proofs.Common.{◌≡◌, ◌≤◌, ◌+◌, drop, map}
use Rattle.setup_model.specs.ParsedViews.{host}
use Rattle.setup_reader.specs.Verification.{parent_count}
use Rattle.setup_reader.proofs.counts.count_parents.Given as goal

abbrev pub invariant-loop-host : goal.invariant-loop-host
invariant-loop-host l = record {
  counted : parent_count (map host l.hosts) ≡ l.count + parent_count (map host (drop l.host-index l.hosts));
  bounded : l.count ≤ 18446744073709551615;
}
