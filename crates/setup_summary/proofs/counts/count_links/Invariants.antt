use Rattle.std.proofs.Common.{◌≡◌, length, take}
use Rattle.std.specs.Prelude.{sum_by}
use Rattle.setup_summary.proofs.counts.count_links.Given as goal

abbrev pub invariant-loop-number : goal.invariant-loop-number
invariant-loop-number l =
    (l.dependencies ≡ sum_by (λ ds. length ds) (take l.number l.setup.dependencies))
    × (l.parents ≡ sum_by (λ h. length h.parents) (take l.number l.setup.hosts))
