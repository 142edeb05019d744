-- A book that resumes a saved state.
use Rattle.std.specs.Prelude.{◌≡◌, ⊤, ℕ, []}
use Rattle.check_saved_state.specs.Saved.{Saved}
use Rattle.check_sched.specs.Saved.{state_after_resume}
use Rattle.check_book.specs.BookState.{book_at}
use Rattle.check_book.specs.Books.{entries_of, opening_of, refused_of, sched_of}
use Rattle.nagsched_handles.specs.declared.target.NamedBook.{NamedBook}
use Rattle.nagsched_handles.specs.declared.target.HandleTarget.{HandleTarget}
use Rattle.nagsched_handles.specs.declared.target.HandleTarget.TheVariants as target
use Rattle.nagsched_handles.specs.declared.target.NamedSetup.{NamedSetup}

-- a setup
abbrev pub IsSetupTarget : HandleTarget → Type 0
IsSetupTarget (target.Setup named) = ⊤
IsSetupTarget other = ⊥

-- a book over this setup that opened, with this room, in the state of a scheduler that resumes the saved state; it has no entries and no refusals
pub record IsResumedOver (start room : ℕ) (saved : Saved) (setup : NamedSetup) (named : NamedBook) : Type 0 where
  pub opening : opening_of named.book ≡ book_at (state_after_resume setup.setup saved start) room
  pub sched : sched_of named.book ≡ state_after_resume setup.setup saved start
  pub entries : entries_of named.book ≡ []
  pub refused : refused_of named.book ≡ 0

-- a setup became a book that resumes the saved state
abbrev pub IsResumedBook : ℕ → ℕ → Saved → HandleTarget → HandleTarget → Type 0
IsResumedBook start room saved (target.Setup setup) (target.Book named) = IsResumedOver start room saved setup named
IsResumedBook start room saved before after = ⊥

-- a setup is unchanged
abbrev pub IsSameSetup : HandleTarget → HandleTarget → Type 0
IsSameSetup (target.Setup before) (target.Setup after) = after.setup ≡ before.setup
IsSameSetup before after = ⊥
