-- The results of gathering passes, closing a desk and renewing a book.
use Rattle.std.specs.Prelude.{◌≡◌, ◌+◌, ◌<◌, ◌≤◌, ⊤, ℕ, [], length, Option, Some, None}
use Rattle.check_desk.specs.declared.desk.Desk.{Desk}
use Rattle.check_desk.specs.Desks.{desk_opening, passes_of}
use Rattle.check_desk.specs.Passes.{pass_of}
use Rattle.check_desk.specs.Schedules.{EndsScheduleFrom}
use Rattle.check_book.specs.BookState.{book_at}
use Rattle.check_book.specs.Books.{entries_of, opening_of, refused_of, sched_of, state_of}
use Rattle.nagsched_handles.specs.declared.desk_pass.DeskPass.{DeskPass}
use Rattle.nagsched_handles.specs.declared.target.NamedBook.{NamedBook}
use Rattle.nagsched_handles.specs.declared.target.HandleTarget.{HandleTarget}
use Rattle.nagsched_handles.specs.declared.target.HandleTarget.TheVariants as target
use Rattle.nagsched_handles.specs.declared.pass_state.PassState.{PassState}
use Rattle.nagsched_handles.specs.declared.pass_state.PassState.TheVariants as state
use Rattle.nagsched_handles.specs.Desks.{AreOneDesk, IsSamePass, desk_of, mark_of, pass_state_of}
use Rattle.nagsched_handles.specs.Joining.{HasJoined}

-- two passes are of one desk; the caller in C has to ensure it
abbrev pub AreOfOneDesk : Option HandleTarget → Option HandleTarget → Type 0
AreOfOneDesk (Some (target.Pass a)) (Some (target.Pass b)) = AreOneDesk a b
AreOfOneDesk a b = ⊤

-- one pass instead of two: of their desk, with the numbers of both
abbrev pub IsGathered : HandleTarget → HandleTarget → HandleTarget → Type 0
IsGathered (target.Pass a) (target.Pass b) (target.Pass both) = AreOneDesk a both × HasJoined (pass_state_of a) (pass_state_of b) (pass_state_of both)
IsGathered a b both = ⊥

-- a pass at rest
abbrev pub IsAtRest : PassState → Type 0
IsAtRest (state.Resting pass) = ⊤
IsAtRest other = ⊥

-- two passes that can be gathered: both rest, and their desks have one mark
abbrev pub MayJoin : DeskPass → DeskPass → Type 0
MayJoin a b = IsAtRest (pass_state_of a) × IsAtRest (pass_state_of b) × (mark_of a ≡ mark_of b)

abbrev pub MayBeGathered : Option HandleTarget → Option HandleTarget → Type 0
MayBeGathered (Some (target.Pass a)) (Some (target.Pass b)) = MayJoin a b
MayBeGathered a b = ⊥

-- a pass at rest that doesn't answer for all of its desk's passes
abbrev pub IsShortOf : Desk → PassState → Type 0
IsShortOf desk (state.Resting pass) = length (pass_of pass).numbers < passes_of desk
IsShortOf desk other = ⊥

abbrev pub MissesPasses : Option HandleTarget → Type 0
MissesPasses (Some (target.Pass pass)) = IsShortOf (desk_of pass) (pass_state_of pass)
MissesPasses other = ⊥

abbrev pub IsResting : HandleTarget → Type 0
IsResting (target.Pass pass) = IsAtRest (pass_state_of pass)
IsResting other = ⊥

-- The book of a desk whose passes are all gathered in this one. It opened as the desk did, and has the history that the pass has seen. Its entries and
-- refusals are all calls that were made. It is that at the end of a schedule from the desk's opening.
abbrev pub IsBookAfter : Desk → PassState → NamedBook → Type 0
IsBookAfter desk (state.Resting pass) named = (opening_of named.book ≡ desk_opening desk) × (passes_of desk ≤ length (pass_of pass).numbers)
    × (entries_of named.book ≡ (pass_of pass).seen) × (length (entries_of named.book) + refused_of named.book ≡ (pass_of pass).calls)
    × EndsScheduleFrom (desk_opening desk) (passes_of desk) named.book
IsBookAfter desk other named = ⊥

-- a pass, and the book of its desk, which was closed
abbrev pub HasClosedDesk : HandleTarget → HandleTarget → Type 0
HasClosedDesk before after = (pass : DeskPass) × (before ≡ target.Pass pass)
    × ((named : NamedBook) × (after ≡ target.Book named) × IsBookAfter (desk_of pass) (pass_state_of pass) named)

-- a pass is unchanged
abbrev pub IsUnchangedPass : HandleTarget → HandleTarget → Type 0
IsUnchangedPass before after = (pass : DeskPass) × (before ≡ target.Pass pass) × ((same : DeskPass) × (after ≡ target.Pass same) × IsSamePass pass same)

-- a renewed book, in the scheduler's state of the old one, with this room and without entries
abbrev pub IsNextBook : ℕ → NamedBook → NamedBook → Type 0
IsNextBook room before after = (opening_of after.book ≡ book_at (sched_of before.book) room) × (state_of after.book ≡ book_at (sched_of before.book) room)
    × (entries_of after.book ≡ []) × (refused_of after.book ≡ 0)

-- the old book's history is handed out; or the book is unchanged
abbrev pub IsRenewed : ℕ → NamedBook → NamedBook → Option HandleTarget → Type 0
IsRenewed room before after (Some (target.History entries)) = IsNextBook room before after × (entries.items ≡ entries_of before.book)
IsRenewed room before after None = after.book ≡ before.book
IsRenewed room before after other = ⊥

-- a book
abbrev pub IsBookTarget : HandleTarget → Type 0
IsBookTarget (target.Book named) = ⊤
IsBookTarget other = ⊥

-- a book was renewed, or is unchanged
abbrev pub HasRenewedBook : ℕ → HandleTarget → HandleTarget → Option HandleTarget → Type 0
HasRenewedBook room before after past = (book : NamedBook) × (next : NamedBook) × (before ≡ target.Book book) × (after ≡ target.Book next)
    × IsRenewed room book next past
