-- The conditions of opening a desk, and its result.
use Rattle.std.specs.Prelude.{◌≡◌, ◌≤◌, ◌^◌, ⊤, List, [], length, Option, Some, None}
use Rattle.check_desk.specs.declared.desk.Desk.{Desk}
use Rattle.check_desk.specs.declared.passes.Pass.{Pass}
use Rattle.check_desk.specs.Desks.{desk_opening, passes_of, AreNewPassesWith, IsPassOf}
use Rattle.check_desk.specs.Passes.{pass_of}
use Rattle.check_book.specs.BookState.{BookState, book_opening}
use Rattle.check_book.specs.Books.{entries_of, opening_of, refused_of}
use Rattle.nagsched_handles.specs.declared.desk_pass.DeskPass.{DeskPass}
use Rattle.nagsched_handles.specs.declared.handle.Handle.{Handle}
use Rattle.nagsched_handles.specs.declared.target.NamedBook.{NamedBook}
use Rattle.nagsched_handles.specs.declared.target.HandleTarget.{HandleTarget}
use Rattle.nagsched_handles.specs.declared.target.HandleTarget.TheVariants as target
use Rattle.nagsched_handles.specs.declared.target.NamedSetup.{NamedSetup}
use Rattle.nagsched_handles.specs.declared.opening.Terms.{Terms}
use Rattle.nagsched_handles.specs.declared.shared.Shared.{Shared}
use Rattle.nagsched_handles.specs.declared.pass_state.PassState.{PassState}
use Rattle.nagsched_handles.specs.declared.pass_state.PassState.TheVariants as state
use Rattle.nagsched_handles.specs.Desks.{desk_of, pass_state_of}
use Rattle.nagsched_handles.specs.Places.{HavePasses}

-- A desk can be opened on this target, on these terms. The target is a setup, or a book without entries and refusals, whose start and room are its own.
abbrev pub IsSource : Terms → HandleTarget → Type 0
IsSource terms (target.Setup named) = terms.start ≤ 2 ^ 60
IsSource terms (target.Book named) = (terms.start ≡ 0) × (terms.room ≡ 0) × (entries_of named.book ≡ []) × (refused_of named.book ≡ 0)
IsSource terms other = ⊥

-- the state with which a desk on this target opens
abbrev pub opens_with : Terms → HandleTarget → Option BookState
opens_with terms (target.Setup named) = Some (book_opening named.setup terms.start terms.room)
opens_with terms (target.Book named) = Some (opening_of named.book)
opens_with terms other = None

-- a pass of this desk that answers only for itself, and has made no call and seen nothing
pub record IsFreshPassOf (desk : Desk) (pass : Pass) : Type 0 where
  pub own : IsPassOf desk pass
  pub alone : length (pass_of pass).numbers ≡ 1
  pub calls : (pass_of pass).calls ≡ 0
  pub seen : (pass_of pass).seen ≡ []

-- A desk that opened with this state. It has the mark of the terms, and each of its passes the number of calls in the terms. The handles lead
-- to its passes, in the order of their numbers.
pub record IsOpenedWith (terms : Terms) (opening : BookState) (handles : List Handle) : Type 0 where
  pub shared : Shared
  pub marked : shared.mark ≡ terms.mark
  pub opened : desk_opening shared.desk ≡ opening
  pub all : passes_of shared.desk ≡ length handles
  pub passes : List Pass
  pub new : AreNewPassesWith terms.calls shared.desk 0 passes
  pub has_passes : HavePasses shared passes handles

-- a desk was opened on this target, on these terms
pub record IsOpenedBy (terms : Terms) (source : HandleTarget) (handles : List Handle) : Type 0 where
  pub opening : BookState
  pub from : opens_with terms source ≡ Some opening
  pub opened : IsOpenedWith terms opening handles

-- a pass that rests, answers for all of its desk's passes, has made no call and seen nothing
abbrev pub IsWholeAtRest : Desk → PassState → Type 0
IsWholeAtRest desk (state.Resting pass) = (length (pass_of pass).numbers ≡ passes_of desk) × ((pass_of pass).calls ≡ 0) × ((pass_of pass).seen ≡ [])
IsWholeAtRest desk other = ⊥

-- the only pass of a desk that opened with this state
abbrev pub IsOnlyPassOf : BookState → DeskPass → Type 0
IsOnlyPassOf opening pass = (desk_opening (desk_of pass) ≡ opening) × IsWholeAtRest (desk_of pass) (pass_state_of pass)

-- The target that is handed back of a desk that opened with this state: a book without entries, or else its only pass. The pass would need a count of
-- owners that is at its limit.
abbrev pub IsHandedBackOf : BookState → HandleTarget → Type 0
IsHandedBackOf opening (target.Book named) = (opening_of named.book ≡ opening) × (entries_of named.book ≡ []) × (refused_of named.book ≡ 0)
IsHandedBackOf opening (target.Pass pass) = IsOnlyPassOf opening pass
IsHandedBackOf opening other = ⊥

abbrev pub IsBookBack : NamedBook → HandleTarget → Type 0
IsBookBack named back = IsHandedBackOf (opening_of named.book) back

abbrev pub IsSetupBack : Terms → NamedSetup → HandleTarget → Type 0
IsSetupBack terms named (target.Setup back) = back.setup ≡ named.setup
IsSetupBack terms named (target.Pass pass) = IsOnlyPassOf (book_opening named.setup terms.start terms.room) pass
IsSetupBack terms named other = ⊥

-- the target that is handed back if memory was refused
abbrev pub IsHandedBack : Terms → HandleTarget → HandleTarget → Type 0
IsHandedBack terms (target.Setup named) back = IsSetupBack terms named back
IsHandedBack terms (target.Book named) back = IsBookBack named back
IsHandedBack terms other back = ⊥

-- a book that is handed back has no entries
abbrev pub IsEmptyBack : HandleTarget → Type 0
IsEmptyBack (target.Book named) = entries_of named.book ≡ []
IsEmptyBack other = ⊤

-- a book as the setup of its scheduler; anything else stays as it is
abbrev pub IsAsSetup : HandleTarget → HandleTarget → Type 0
IsAsSetup (target.Book named) (target.Setup setup) = setup.setup ≡ (opening_of named.book).sched.setup
IsAsSetup (target.Book named) other = ⊥
IsAsSetup back same = same ≡ back
