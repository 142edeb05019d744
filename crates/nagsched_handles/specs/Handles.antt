-- The parts of a handle that clauses speak of.
use Rattle.std.specs.Prelude.{Option, Some, None}
use Rattle.std_alloc.specs.declared.boxed.Box.{Box}
use Rattle.check_objects.specs.Configuration.{Configuration}
use Rattle.check_desk.specs.Desks.{desk_opening}
use Rattle.check_book.specs.declared.book.Book.{Book}
use Rattle.check_book.specs.Books.{sched_of}
use Rattle.nagsched_handles.specs.declared.handle.Handle.{Handle}
use Rattle.nagsched_handles.specs.declared.target.HandleTarget.{HandleTarget}
use Rattle.nagsched_handles.specs.declared.target.HandleTarget.TheVariants as target
use Rattle.nagsched_handles.specs.Desks.{desk_of}

-- the target of a handle that isn't empty
abbrev pub contents_of : Handle → Option HandleTarget
contents_of handle = handle.raw.value

-- the target that was taken out of a handle, if it wasn't empty
abbrev pub box_value : {Z : Type 0} → Option (Box HandleTarget Z) → Option HandleTarget
box_value (Some taken) = Some taken.value
box_value None = None

-- the objects of a setup, of a pass's desk, or of a book
abbrev pub target_setup : HandleTarget → Option Configuration
target_setup (target.Setup named) = Some named.setup
target_setup (target.Pass pass) = Some (desk_opening (desk_of pass)).sched.setup
target_setup (target.Book named) = Some (sched_of named.book).setup
target_setup (target.History entries) = None
target_setup target.Nothing = None

-- the book of a target that is one
abbrev pub target_book : HandleTarget → Option Book
target_book (target.Book named) = Some named.book
target_book other = None

-- the objects of a handle's target
abbrev pub handle_setup : Option HandleTarget → Option Configuration
handle_setup (Some target) = target_setup target
handle_setup None = None

-- P of the objects of a handle's target, or Q if it has none
abbrev pub MatchSetup : Option Configuration → (Configuration → Type 0) → Type 0 → Type 0
MatchSetup (Some setup) P Q = P setup
MatchSetup None P Q = Q
