-- Histories that continue from one book to the next, renewed or resumed.
use Rattle.std.proofs.Common.{◌≡◌, ℕ, List, [], ◌∷◌, ◌++◌, refl, sym, ap, subst, ◌∙◌}
use Rattle.ticket_steps.specs.declared.books.Entry.{Entry}
use Rattle.ticket_steps.specs.History.{replay, IsLegal}
use Rattle.check_sched.specs.declared.call.Call.{Call}
use Rattle.check_sched.specs.declared.call.Reply.{Reply}
use Rattle.check_sched.specs.State.{IsState, State}
use Rattle.check_sched.specs.Step.{step}
use Rattle.check_sched.proofs.FromStateLaws.{started, step_started}
use Rattle.check_sched.proofs.SavedLaws.{resumed_same}
use Rattle.check_sched.proofs.StandingLaws.{replay_setup}
use Rattle.check_sched.proofs.StateLaws.{legal_joined, replay_is_state}
pub use Rattle.check_sched.proofs.StateLaws.{joined_legal}
use Rattle.check_book.specs.declared.book.Book.{Book}
use Rattle.check_book.specs.Books.{entries_of, opening_of, sched_of}
use Rattle.check_book.specs.BookState.{BookState, book_at, book_step}
use Rattle.check_book.specs.Resumed.{state_after_save_and_resume}
use Rattle.check_book.proofs.HistoryLaws.{book_is_legal, book_sched}

pub joined_state : (opened : State) (earlier later : List (Entry Call Reply))
    → replay step opened (earlier ++ later) ≡ replay step (replay step opened earlier) later
joined_state opened [] later = refl
joined_state opened (e ∷ earlier) later = joined_state (step opened e.call).0 earlier later

pub joined_book : (opened : State) (room : ℕ) (earlier later : List (Entry Call Reply)) → IsLegal step opened earlier
    → IsLegal book_step (book_at (replay step opened earlier) room) later → IsLegal step opened (earlier ++ later)
joined_book opened room earlier later legal goes_on =
    joined_legal opened earlier later legal (book_is_legal (replay step opened earlier) room later goes_on)

pub joined_book_state : (opened : State) (room : ℕ) (earlier later : List (Entry Call Reply))
    → (replay book_step (book_at (replay step opened earlier) room) later).sched ≡ replay step opened (earlier ++ later)
joined_book_state opened room earlier later =
    book_sched (book_at (replay step opened earlier) room) later ∙ sym (joined_state opened earlier later)

-- no call changes the setup
pub joined_setup : (opened : BookState) (later : List (Entry Call Reply)) → (replay book_step opened later).sched.setup ≡ opened.sched.setup
joined_setup opened later = ap (λ (s : State). s.setup) (book_sched opened later) ∙ replay_setup opened.sched later

-- ---- books that are resumed

replay_started : (start : ℕ) (s : State) (h : List (Entry Call Reply)) → replay step (started start s) h ≡ started start (replay step s h)
replay_started start s [] = refl
replay_started start s (e ∷ h) =
    ap (λ (a : State × Reply). replay step a.0 h) (step_started start s e.call) ∙ replay_started start (step s e.call).0 h

pub resumed_book : (opened : State) (start room : ℕ) (earlier later : List (Entry Call Reply)) → IsState opened → IsLegal step opened earlier
    → IsLegal book_step (book_at (state_after_save_and_resume (replay step opened earlier) start) room) later → IsLegal step opened (earlier ++ later)
resumed_book opened start room earlier later is legal goes_on =
    legal_joined opened earlier later start is legal (book_is_legal (state_after_save_and_resume (replay step opened earlier) start) room later goes_on)

pub resumed_book_state : (opened : State) (start room : ℕ) (earlier later : List (Entry Call Reply)) → IsState opened
    → (replay book_step (book_at (state_after_save_and_resume (replay step opened earlier) start) room) later).sched ≡ started start (replay step opened (earlier ++ later))
resumed_book_state opened start room earlier later is =
    let left = replay step opened earlier in
    book_sched (book_at (state_after_save_and_resume left start) room) later
    ∙ ap (λ t. replay step t later) (resumed_same left start (replay_is_state opened earlier is))
    ∙ replay_started start left later ∙ ap (started start) (sym (joined_state opened earlier later))

-- ---- the state of a book

-- A book's scheduler is in a state that a scheduler can be in.
pub book_is_state : (book : Book) → IsState (sched_of book)
book_is_state book =
    let opened = opening_of book in
    let replayed = ap (λ (s : BookState). s.sched) book.replayed ∙ book_sched opened (entries_of book) in
    subst IsState (sym replayed) (replay_is_state opened.sched (entries_of book) book.opened)
