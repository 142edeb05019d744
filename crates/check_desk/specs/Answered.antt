-- A call that was answered, as a part of the schedule of its desk.
use Rattle.std.specs.Prelude.{◌≡◌, ◌≤◌, ℕ, List, length}
use mathlib.Core.List.{IsPrefix}
use Rattle.ticket_steps.specs.declared.books.Entry.{Entry}
use Rattle.ticket_steps.specs.Schedules.{Schedule}
use Rattle.ticket_steps.specs.RecordedCalls.{RecordedCall, IsRecordedIn, entry_at}
use Rattle.check_sched.specs.declared.call.Call.{Call}
use Rattle.check_sched.specs.declared.call.Reply.{Reply}
use Rattle.check_book.specs.BookState.{BookState}

-- The schedule records this call of the pass with this number, with this reply. The history at the end begins with these entries, and the call comes
-- after all of them.
pub record IsMadeAfter (seen : List (Entry Call Reply)) (own : ℕ) (call : Call) (reply : Reply) (s : Schedule BookState Call Reply) : Type 0 where
  pub made : RecordedCall Call Reply
  pub is : IsRecordedIn s.happenings made
  pub own_is : made.own ≡ own
  pub call_is : made.call ≡ call
  pub reply_is : made.reply ≡ reply
  pub begins : IsPrefix seen s.end.book.entries
  pub later : length seen ≤ entry_at made
