-- The results for C of gathering passes, closing a desk and renewing a book.
use Rattle.std.specs.Prelude.{◌≡◌, ◌⊎◌, ℕ, Option, Some, None}
use Rattle.nagsched_handles.specs.declared.target.NamedBook.{NamedBook}
use Rattle.nagsched_handles.specs.declared.target.HandleTarget.{HandleTarget}
use Rattle.nagsched_handles.specs.declared.target.HandleTarget.TheVariants as target
use Rattle.nagsched_handles.specs.Closing.{HasClosedDesk, HasRenewedBook, IsUnchangedPass, IsBookTarget, IsGathered, IsResting}
use Rattle.nagsched_c.specs.declared.status.TheConstants.{OK, WRONG}

-- Two passes became one, and the second handle is empty; or nothing was done.
abbrev pub HasGathered : Option HandleTarget → Option HandleTarget → ℕ → Option HandleTarget → Option HandleTarget → Type 0
HasGathered a b status a' b' =
    ((status ≡ OK) × (b' ≡ None) × ((first : HandleTarget) × (second : HandleTarget) × (both : HandleTarget)
    × (a ≡ Some first) × (b ≡ Some second) × (a' ≡ Some both) × IsGathered first second both))
    ⊎ ((status ≡ WRONG) × (a' ≡ a) × (b' ≡ b))

-- a pass at rest, in a handle
abbrev pub IsRestingIn : Option HandleTarget → Type 0
IsRestingIn (Some target) = IsResting target
IsRestingIn None = ⊥

-- the handle had a pass, and has the book of its desk, which was closed
abbrev pub HasClosed : Option HandleTarget → Option HandleTarget → Type 0
HasClosed (Some pass) (Some book) = HasClosedDesk pass book
HasClosed before after = ⊥

-- the handle has the same pass
abbrev pub IsOpenStill : Option HandleTarget → Option HandleTarget → Type 0
IsOpenStill (Some pass) (Some same) = IsUnchangedPass pass same
IsOpenStill before after = ⊥

-- a book, in a handle
abbrev pub IsBookIn : Option HandleTarget → Type 0
IsBookIn (Some target) = IsBookTarget target
IsBookIn None = ⊥

-- the handle's book was renewed with this room, and its history is in the other handle
abbrev pub HasRenewed : ℕ → Option HandleTarget → Option HandleTarget → Option HandleTarget → Type 0
HasRenewed room (Some before) (Some after) (Some past) = HasRenewedBook room before after (Some past)
HasRenewed room before after past = ⊥

-- the handle has the same book
abbrev pub IsSameBook : Option HandleTarget → Option HandleTarget → Type 0
IsSameBook (Some before) (Some after) = (book : NamedBook) × (same : NamedBook) × (before ≡ target.Book book) × (after ≡ target.Book same)
    × (same.book ≡ book.book)
IsSameBook before after = ⊥
