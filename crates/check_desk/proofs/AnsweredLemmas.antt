-- A call that was answered: its entry stands in the history that its pass has seen, so the schedule has it as a recorded call.
use Rattle.std.proofs.Common.{◌≡◌, ℕ, ◌+◌, List, [], ◌∷◌, ◌++◌, length, length-append, append_assoc, sym, ap, ◌∙◌, subst, arith}
use mathlib.Core.List.{IsPrefix}
use mathlib.Core.Option.{some, some-injective}
use lib.ListN.{get_elem?}
use Rattle.ticket_steps.specs.declared.books.Entry.{Entry}
use Rattle.ticket_steps.specs.History.{entry}
use Rattle.ticket_steps.specs.Schedules.{Schedule}
use Rattle.ticket_steps.proofs.Lists.{at_middle}
use Rattle.ticket_steps.proofs.OriginLemmas.{call_of_entry}
use Rattle.ticket_steps.proofs.RecordedCallLemmas.{entry_of_call}
use Rattle.ticket_lock.specs.Callers.{Caller}
use Rattle.check_sched.specs.declared.call.Call.{Call}
use Rattle.check_sched.specs.declared.call.Reply.{Reply}
use Rattle.check_book.specs.BookState.{BookState}
use Rattle.check_book.specs.contracts.book.BookKept.TheImpl.{ghosts as kept_book}
use Rattle.check_desk.specs.Answered.{IsMadeAfter}
use Rattle.check_desk.specs.Desks.{HasRecorded}
use Rattle.check_desk.specs.Schedules.{IsScheduleFrom}

pub made_after : (opened : BookState) (s : Schedule BookState Call Reply) → IsScheduleFrom opened s → (call : Call) (reply : Reply)
    (before after : Caller Call Reply) → HasRecorded call reply before after → IsPrefix after.seen s.end.book.entries
    → IsMadeAfter before.seen before.own call reply s
made_after opened s is call reply before after asked more =
    let mine : Entry Call Reply = entry before.own call reply in
    let all : (asked.history ++ mine ∷ []) ++ more.0 ≡ s.end.book.entries =
    ap (λ (c : Caller Call Reply). c.seen ++ more.0) (sym asked.after_is) ∙ more.1 in
    let parts : s.end.book.entries ≡ asked.history ++ mine ∷ more.0 = sym all ∙ append_assoc asked.history (mine ∷ []) more.0 in
    let count : length s.end.book.entries ≡ length asked.history + length (mine ∷ more.0) =
    ap (λ (es : List (Entry Call Reply)). length es) parts ∙ length-append asked.history (mine ∷ more.0) in
    let found = call_of_entry kept_book s is.schedule (length asked.history) (omega (arith, count)) in
    let here : get_elem? s.end.book.entries (length asked.history) ≡ some mine =
    subst (λ (es : List (Entry Call Reply)). get_elem? es (length asked.history) ≡ some mine) (sym parts) (at_middle asked.history more.0 mine) in
    let there : get_elem? s.end.book.entries (length asked.history) ≡ some (entry found.0.own found.0.call found.0.reply) =
    subst (λ (n : ℕ). get_elem? s.end.book.entries n ≡ some (entry found.0.own found.0.call found.0.reply)) found.2
    (entry_of_call kept_book s is.schedule found.0 found.1) in
    let same : entry found.0.own found.0.call found.0.reply ≡ mine = some-injective _ _ (sym there ∙ here) in
    let longer : length asked.history ≡ length before.seen + length asked.follows.0.0 =
    ap (λ (es : List (Entry Call Reply)). length es) (sym asked.follows.0.1) ∙ length-append before.seen asked.follows.0.0 in
    record {
      made = found.0;
      is = found.1;
      own_is = ap (λ (e : Entry Call Reply). e.pass) same;
      call_is = ap (λ (e : Entry Call Reply). e.call) same;
      reply_is = ap (λ (e : Entry Call Reply). e.reply) same;
      begins = (
        asked.follows.0.0 ++ mine ∷ more.0,
        sym (append_assoc before.seen asked.follows.0.0 (mine ∷ more.0))
            ∙ (ap (λ (es : List (Entry Call Reply)). es ++ mine ∷ more.0) asked.follows.0.1 ∙ sym parts),
      );
      later = omega (arith, longer, found.2);
    }
