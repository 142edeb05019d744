-- The results of histories for C.
use Rattle.std.specs.Prelude.{◌≡◌, ℕ, List, slice_get, Option, Some, None}
use Rattle.ticket_steps.specs.declared.books.Entry.{Entry}
use Rattle.check_sched.specs.declared.call.Call.{Call}
use Rattle.check_sched.specs.declared.call.Reply.{Reply}
use Rattle.check_book.specs.declared.book.Book.{Book}
use Rattle.nagsched_handles.specs.declared.target.HandleTarget.{HandleTarget}
use Rattle.nagsched_handles.specs.Handles.{target_book}
use Rattle.nagsched_handles.specs.Histories.{target_entries}
use Rattle.nagsched_handles.specs.declared.structs.CEntry.{CEntry}
use Rattle.nagsched_handles.specs.Structs.{c_entry}
use Rattle.nagsched_c.specs.declared.status.TheConstants.{OK, WRONG}

abbrev pub handle_entries : Option HandleTarget → Option (List (Entry Call Reply))
handle_entries (Some target) = target_entries target
handle_entries None = None

-- the book in a handle
abbrev pub handle_book : Option HandleTarget → Option Book
handle_book (Some target) = target_book target
handle_book None = None

-- P of what the handle has, or Q if it has none
abbrev pub MatchPresent : {X : Type 0} → Option X → (X → Type 0) → Type 0 → Type 0
MatchPresent (Some kept) P Q = P kept
MatchPresent None P Q = Q

-- the result for C of an entry, or of no entry
abbrev pub IsEntryOutput : Option (Entry Call Reply) → CEntry → ℕ → CEntry → Type 0
IsEntryOutput (Some entry) before status output = (status ≡ OK) × (output ≡ c_entry entry)
IsEntryOutput None before status output = (status ≡ WRONG) × (output ≡ before)

abbrev pub HasEntry : List (Entry Call Reply) → ℕ → CEntry → ℕ → CEntry → Type 0
HasEntry entries index before status output = IsEntryOutput (slice_get entries index) before status output
