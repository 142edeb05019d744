-- The knowledge of a pass about a call that it made, or that a pass gathered into it made, and the standing that it then sees at a glance.
use Rattle.std.specs.Prelude.{◌≡◌, ◌≢◌, ℕ, ⊤, List, [], ◌∷◌, ◌++◌, Option, Some}
use Rattle.ticket_steps.specs.declared.books.Entry.{Entry}
use Rattle.ticket_lock.specs.Callers.{Caller}
use Rattle.check_states.specs.declared.standing.Standing.{Standing}
use Rattle.check_sched.specs.declared.call.Call.{Call}
use Rattle.check_sched.specs.declared.call.Reply.{Reply}
use Rattle.check_sched.specs.Board.{slot_of_reply}
use Rattle.check_desk.specs.declared.desk.Desk.{Desk}
use Rattle.check_desk.specs.Desks.{IsHistoryOf, standing_after}

-- the history that the caller has seen contains the entry
pub record HasSeen (e : Entry Call Reply) (c : Caller Call Reply) : Type 0 where
  pub before : List (Entry Call Reply)
  pub since : List (Entry Call Reply)
  pub seen : c.seen ≡ before ++ e ∷ since

-- the standing is the object's after a history of the desk with this entry
pub record IsStandingAfter (desk : Desk) (e : Entry Call Reply) (object : ℕ) (standing : Option Standing) : Type 0 where
  pub before : List (Entry Call Reply)
  pub since : List (Entry Call Reply)
  pub legal : IsHistoryOf desk (before ++ e ∷ since)
  pub shown : standing ≡ Some (standing_after desk (before ++ e ∷ since) object)

-- no entry is a report of the object whose reply is the object's standing
abbrev pub HasNoReport : ℕ → List (Entry Call Reply) → Type 0
HasNoReport object [] = ⊤
HasNoReport object (e ∷ es) = (slot_of_reply e.call e.reply ≢ Some object) × HasNoReport object es
