-- Each take and each report is counted under its reply.
use Rattle.std.proofs.Common.{◌≡◌, ℕ, List, [], ◌∷◌, ◌++◌, refl, sym, ap, subst, ◌∙◌, arith}
use Rattle.ticket_steps.specs.declared.books.Entry.{Entry}
use Rattle.ticket_steps.specs.History.{entry, IsLegal}
use Rattle.ticket_lock.specs.Callers.{Caller}
use Rattle.check_states.specs.declared.state.Code.{Code}
use Rattle.check_sched.specs.declared.call.Call.{Call}
use Rattle.check_sched.specs.declared.call.Call.TheVariants as call
use Rattle.check_sched.specs.declared.call.Refusal.TheVariants as refusal
use Rattle.check_sched.specs.declared.call.Reply.{Reply}
use Rattle.check_sched.specs.declared.call.Reply.TheVariants as reply
use Rattle.check_sched.specs.Reply.{IsReportReply, IsTakeReply}
use Rattle.check_book.specs.BookState.{BookState, book_step}
use Rattle.check_desk.specs.Desks.{HasRecorded}
use Rattle.check_workers.specs.declared.tally.Tally.{Tally}
use Rattle.check_workers.specs.Progress.{EndsInTake}
use Rattle.check_workers.specs.Tallies.{IsSum, plus, tally_of}

-- the sum of two tallies
pub sum_plus : (t u : Tally) → IsSum t → IsSum u → IsSum (plus t u)
sum_plus t u a b = (omega (arith, a.0, b.0), omega (arith, a.1, b.1))

-- ---- one take, one report

sum_of_take : (n now : ℕ) (r : Reply) → IsTakeReply r → IsSum (tally_of (entry n (call.Take now) r ∷ []) [])
sum_of_take n now (reply.Taken object run) h = (refl, refl)
sum_of_take n now (reply.PutOff object until) h = (refl, refl)
sum_of_take n now (reply.Idle next) h = (refl, refl)
sum_of_take n now reply.AtLimit h = (refl, refl)
sum_of_take n now (reply.Standing standing changed next) h = absurd h
sum_of_take n now (reply.Freed next) h = absurd h
sum_of_take n now reply.Done h = absurd h
sum_of_take n now (reply.Refused why) h = (refl, refl)

sum_of_report : (n object run : ℕ) (code : Code) (r : Reply) → IsReportReply r → IsSum (tally_of (entry n (call.Report object run code) r ∷ []) [])
sum_of_report n object run code (reply.Taken o k) h = absurd h
sum_of_report n object run code (reply.PutOff o until) h = absurd h
sum_of_report n object run code (reply.Idle next) h = absurd h
sum_of_report n object run code reply.AtLimit h = absurd h
sum_of_report n object run code (reply.Standing standing changed next) h = (refl, refl)
sum_of_report n object run code (reply.Freed next) h = absurd h
sum_of_report n object run code reply.Done h = absurd h
sum_of_report n object run code (reply.Refused refusal.UnknownObject) h = absurd h
sum_of_report n object run code (reply.Refused refusal.TimeRange) h = absurd h
sum_of_report n object run code (reply.Refused refusal.RunsSpent) h = absurd h
sum_of_report n object run code (reply.Refused refusal.NotRunning) h = (refl, refl)
sum_of_report n object run code (reply.Refused refusal.WrongRun) h = (refl, refl)

-- ---- in a desk's history

-- the last reply of a legal history is a take's
abbrev pub AreTakeReplies : Type 0
AreTakeReplies = (opened : BookState) (front : List (Entry Call Reply)) (pass now : ℕ) (answer : Reply)
    → IsLegal book_step opened (front ++ entry pass (call.Take now) answer ∷ []) → IsTakeReply answer

-- the last reply of a legal history is that of a report, where the check was taken before
abbrev pub AreReportReplies : Type 0
AreReportReplies = (opened : BookState) (front between : List (Entry Call Reply)) (taker pass now object run : ℕ) (code : Code) (answer : Reply)
    → IsLegal book_step opened
    (((front ++ entry taker (call.Take now) (reply.Taken object run) ∷ []) ++ between) ++ entry pass (call.Report object run code) answer ∷ [])
    → IsReportReply answer

-- a take that was recorded
pub take_sum : (replies : AreTakeReplies) (s : BookState) (now : ℕ) (r : Reply) (before after : Caller Call Reply)
    → HasRecorded (call.Take now) r before after → IsLegal book_step s after.seen
    → (number at : ℕ) → IsSum (tally_of (entry number (call.Take at) r ∷ []) [])
take_sum replies s now r before after h legal number at =
    sum_of_take number at r (replies s h.history before.own now r (rw h.after_is at legal))

-- a report that was recorded, of a check that was taken before
pub report_sum : (replies : AreReportReplies) (s : BookState) (object run : ℕ) (code : Code) (r : Reply) (before after : Caller Call Reply)
    → EndsInTake object run before.seen → HasRecorded (call.Report object run code) r before after → IsLegal book_step s after.seen → (number : ℕ)
    → IsSum (tally_of (entry number (call.Report object run code) r ∷ []) [])
report_sum replies s object run code r before after ends h legal number =
    let taken = entry ends.pass (call.Take ends.now) (reply.Taken object run) in
    let back = h.follows.0.0 in
    let history : h.history ≡ (ends.front ++ taken ∷ []) ++ back = sym h.follows.0.1 ∙ ap (λ l. l ++ back) ends.is in
    sum_of_report number object run code r (replies s ends.front back ends.pass before.own ends.now object run code r
    (subst (λ l. IsLegal book_step s (l ++ entry before.own (call.Report object run code) r ∷ [])) history (rw h.after_is at legal)))
