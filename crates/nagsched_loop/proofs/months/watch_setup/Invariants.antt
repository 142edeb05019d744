use Rattle.std.proofs.Common.{◌≡◌, ◌⊎◌, ◌/◌, List, []}
use Rattle.ticket_steps.specs.declared.books.Entry.{Entry}
use Rattle.check_book.specs.Books.{entries_of, refused_of, sched_of}
use Rattle.check_sched.specs.declared.call.Call.{Call}
use Rattle.check_sched.specs.declared.call.Reply.{Reply}
use Rattle.nagsched_loop.specs.Loop.{KeepsOtherRuns}
use Rattle.nagsched_loop.specs.Months.{AreGenerations, IsTextOfGenerations, entries_in}
use Rattle.nagsched_loop.proofs.months.watch_setup.Given as goal

abbrev pub invariant-loop : goal.invariant-loop
invariant-loop g l =
    (goal.iterator-loop g).can_next l.iterator' × (goal.iterator-loop g).is_finite l.iterator'
    × ((entries_of l.book ≡ []) × (refused_of l.book ≡ 0)
    × (histories : List (List (Entry Call Reply)))
    × AreGenerations g.O.Environment.does g.F.Files.past (l.room / 2) histories (sched_of l.initial.book) (sched_of l.book)
    l.initial.runs.items l.runs.items l.initial.environment l.environment
    × KeepsOtherRuns (entries_in histories) l.initial.runs.items l.runs.items
    × ((g.F.Files.stored l.files ≡ g.F.Files.stored l.initial.files)
    ⊎ IsTextOfGenerations g.O.Environment.does g.F.Files.past (l.room / 2) (sched_of l.initial.book) l.initial.runs.items l.initial.environment
    (g.F.Files.stored l.files)))
