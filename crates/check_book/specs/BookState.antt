-- The states of a book: the sequential object made of a scheduler and its room.
use Rattle.std.specs.Prelude.{ℕ}
use Rattle.check_objects.specs.Configuration.{Configuration}
use Rattle.check_sched.specs.declared.call.Call.{Call}
use Rattle.check_sched.specs.declared.call.Reply.{Reply}
use Rattle.check_sched.specs.State.{State, opening}
use Rattle.check_sched.specs.Step.{step}

-- a scheduler's state, and the number of entries for which there was room at first
pub record BookState : Type 0 where
  pub sched : State
  pub room : ℕ

-- the sequential step is the scheduler's; no call changes the room
abbrev pub book_step : BookState → Call → BookState × Reply
book_step s call = (record { sched = (step s.sched call).0; room = s.room }, (step s.sched call).1)

-- a book's state: the scheduler's with this room
abbrev pub book_at : State → ℕ → BookState
book_at s room = record { sched = s; room = room }

-- the state in which a book on a new scheduler opens
abbrev pub book_opening : Configuration → ℕ → ℕ → BookState
book_opening setup start room = record { sched = opening setup start; room = room }
