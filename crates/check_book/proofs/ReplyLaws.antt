-- Which replies a call can have in the history of a book.
use Rattle.std.proofs.Common.{◌≡◌, ℕ, List, [], ◌∷◌, ◌++◌, sym, subst, arith}
use Rattle.ticket_steps.specs.declared.books.Entry.{Entry}
use Rattle.ticket_steps.specs.History.{entry, replay, IsLegal}
use Rattle.check_states.specs.declared.state.Code.{Code}
use Rattle.check_sched.specs.declared.call.Call.{Call}
use Rattle.check_sched.specs.declared.call.Call.TheVariants as call
use Rattle.check_sched.specs.declared.call.Reply.{Reply}
use Rattle.check_sched.specs.declared.call.Reply.TheVariants as reply
use Rattle.check_sched.specs.Reply.{IsReportReply, IsTakeReply}
use Rattle.check_sched.specs.Step.{step}
use Rattle.check_sched.proofs.ReplyLaws.{replay_objects, step_report, step_take, taken_among}
use Rattle.check_sched.proofs.RunLaws.{legal_back, legal_front}
use Rattle.check_book.specs.BookState.{BookState, book_step}
use Rattle.check_book.proofs.HistoryLaws.{book_is_legal}

-- the last reply of a book's history is the scheduler's
last_reply : (s : BookState) (h : List (Entry Call Reply)) (n : ℕ) (c : Call) (r : Reply)
    → IsLegal book_step s (h ++ entry n c r ∷ []) → r ≡ (step (replay step s.sched h) c).1
last_reply s h n c r legal = (legal_back s.sched h (entry n c r ∷ []) (book_is_legal s.sched s.room (h ++ entry n c r ∷ []) legal)).0

-- In a book's history a take is answered by a take's reply.
pub take_reply : (s : BookState) (h : List (Entry Call Reply)) (n now : ℕ) (r : Reply)
    → IsLegal book_step s (h ++ entry n (call.Take now) r ∷ []) → IsTakeReply r
take_reply s h n now r legal = subst IsTakeReply (sym (last_reply s h n (call.Take now) r legal)) (step_take (replay step s.sched h) now)

-- In a book's history the report of an object that was taken before is answered by its standing, or
-- refused since the object isn't running or runs under another run.
pub report_reply : (s : BookState) (front back : List (Entry Call Reply)) (m n now object run : ℕ) (code : Code) (r : Reply)
    → IsLegal book_step s (((front ++ entry m (call.Take now) (reply.Taken object run) ∷ []) ++ back) ++ entry n (call.Report object run code) r ∷ [])
    → IsReportReply r
report_reply s front back m n now object run code r legal =
    let before = (front ++ entry m (call.Take now) (reply.Taken object run) ∷ []) ++ back in
    let report = entry n (call.Report object run code) r in
    let first = legal_front s.sched before (report ∷ []) (book_is_legal s.sched s.room (before ++ report ∷ []) legal) in
    let there = taken_among s.sched front back m now object run first in
    let count = replay_objects s.sched before in
    let is = last_reply s before n (call.Report object run code) r legal in
    subst IsReportReply (sym is) (step_report (replay step s.sched before) object run code (omega (arith, there, count)))
