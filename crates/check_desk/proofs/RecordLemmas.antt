-- What a holder brings back once its call was recorded, or refused.
use Rattle.std.proofs.Common.{◌≡◌, ℕ, ◌+◌, List, [], ◌∷◌, ◌++◌, Option, Result, Ok, Err, sym, ap, ◌∙◌, inl, inr}
use Rattle.std.specs.Prelude.{IfOk, OnErr}
use Rattle.ticket_steps.specs.declared.books.Entry.{Entry}
use Rattle.ticket_steps.specs.declared.books.NoMemory.{NoMemory}
use Rattle.ticket_steps.specs.History.{entry, replay}
use Rattle.ticket_lock.specs.Callers.{Caller, caller_after_call}
use Rattle.ticket_lock.specs.Steps.{IsBookAfterCall}
use Rattle.ticket_lock.specs.declared.views.Start.{Start}
use Rattle.check_sched.specs.declared.call.Call.{Call}
use Rattle.check_sched.specs.declared.call.Reply.{Reply}
use Rattle.check_sched.specs.Board.{slot_of_reply}
use Rattle.check_sched.specs.Step.{step}
use Rattle.check_book.specs.declared.book.Book.{Book}
use Rattle.check_book.specs.Board.{book_slot}
use Rattle.check_book.specs.BookState.{book_step}
use Rattle.check_book.specs.Books.{entries_of, opening_of, refused_of, sched_of, state_of}
use Rattle.check_book.specs.contracts.book.BookKept.TheImpl.{ghosts as kept_book}

-- the place of a call, by the book's opening and entries
place_is : (start : Start Book) (seen : List (Entry Call Reply)) (call : Call) (before : Book) → seen ≡ entries_of before
    → opening_of before ≡ opening_of start.book
    → book_slot (state_of before) call ≡ book_slot (replay book_step (opening_of start.book) seen) call
place_is start seen call before s o =
    ap (λ b. book_slot b call) before.replayed ∙ (λ i. book_slot (replay book_step (o i) (sym s i)) call)

pub brings_back : (start : Start Book) (own number : ℕ) (seen : List (Entry Call Reply)) (refused : ℕ) (call : Call) (place : Option ℕ)
    (before after : Book) (r : Result Reply NoMemory)
    → number ≡ own → seen ≡ entries_of before → refused ≡ refused_of before → opening_of before ≡ opening_of start.book
    → IfOk r (λ reply. place ≡ slot_of_reply call reply)
    → IfOk r (λ reply. (reply ≡ (step (sched_of before) call).1) × (sched_of after ≡ (step (sched_of before) call).0)) → opening_of after ≡ opening_of before
    → IfOk r (λ reply. (entries_of after ≡ entries_of before ++ entry number call reply ∷ []) × (refused_of after ≡ refused_of before))
    → OnErr r ((entries_of after ≡ entries_of before) × (state_of after ≡ state_of before) × (refused_of after ≡ refused_of before + 1))
    → IsBookAfterCall kept_book start own seen refused place after
brings_back start own number seen refused call place before after (Ok reply) n s f o p replied same one none = record {
  opening = same ∙ o;
  more = inl (
    entry number call reply,
    n,
    one.0 ∙ ap (λ l. l ++ entry number call reply ∷ []) (sym s),
    one.1 ∙ sym f,
    sym (p ∙ ap (slot_of_reply call) replied.0 ∙ place_is start seen call before s o),
  );
}
brings_back start own number seen refused call place before after (Err e) n s f o p replied same one none =
    record { opening = same ∙ o; more = inr (none.0 ∙ sym s, none.2 ∙ ap (λ n. n + 1) (sym f)) }

-- the caller after a call that was recorded
pub has_recorded : (own number : ℕ) → number ≡ own → (seen : List (Entry Call Reply)) (before after : Book) (call : Call) (reply : Reply)
    (holder back : Caller Call Reply) → back ≡ caller_after_call (entries_of after) holder → seen ≡ entries_of before
    → entries_of after ≡ entries_of before ++ entry number call reply ∷ [] → back ≡ caller_after_call (seen ++ entry own call reply ∷ []) holder
has_recorded own number n seen before after call reply holder back b s e =
    b ∙ ap (λ l. caller_after_call l holder) e ∙ (λ i. caller_after_call (sym s i ++ entry (n i) call reply ∷ []) holder)
