-- The state in which a book opens that resumes the saved state of another book.
use Rattle.std.specs.Prelude.{ℕ}
use Rattle.check_sched.specs.Saved.{state_after_resume, saved_of}
use Rattle.check_sched.specs.State.{State}

-- the state of a scheduler that resumes the saved state of a scheduler in this state, over the same setup and from this moment on
abbrev pub state_after_save_and_resume : State → ℕ → State
state_after_save_and_resume s start = state_after_resume s.setup (saved_of s) start
