use Rattle.std.proofs.Common.{◌≡◌, ◌⊎◌, ◌/◌}
use Rattle.check_sched.specs.State.{State}
use Rattle.nagsched_loop.specs.Months.{AreSetups, IsSavedText, IsTextSince}
use Rattle.nagsched_loop.proofs.months.watch_months.Given as goal

abbrev pub invariant-loop : goal.invariant-loop
invariant-loop g l =
    (goal.iterator-loop g).can_next l.iterator' × (goal.iterator-loop g).is_finite l.iterator'
    × (IsTextSince g.O.Environment.does g.F.Files.gives g.F.Files.past (l.room / 2) (g.F.Files.stored l.initial.files) (g.F.Files.stored l.files)
    × AreSetups g.O.Environment.does g.F.Files.gives g.F.Files.past (l.room / 2) (g.F.Files.stored l.initial.files) l.initial.environment
    (g.F.Files.stored l.files) l.environment
    × ((g.F.Files.stored l.files ≡ g.F.Files.stored l.initial.files) ⊎ ((state : State) × IsSavedText state (g.F.Files.stored l.files))))
