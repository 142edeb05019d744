-- The entries of a handle's target.
use Rattle.std.specs.Prelude.{List, Option, Some, None}
use Rattle.ticket_steps.specs.declared.books.Entry.{Entry}
use Rattle.check_sched.specs.declared.call.Call.{Call}
use Rattle.check_sched.specs.declared.call.Reply.{Reply}
use Rattle.check_book.specs.Books.{entries_of}
use Rattle.nagsched_handles.specs.declared.target.HandleTarget.{HandleTarget}
use Rattle.nagsched_handles.specs.declared.target.HandleTarget.TheVariants as target

-- the entries of a book or a history, oldest first
abbrev pub target_entries : HandleTarget → Option (List (Entry Call Reply))
target_entries (target.Book named) = Some (entries_of named.book)
target_entries (target.History entries) = Some entries.items
target_entries other = None
