-- What a call leaves of the book and its board, whether it was recorded or refused.
use Rattle.std.proofs.Common.{◌≡◌, ℕ, ◌+◌, [], ◌∷◌, ◌++◌, length, length-set, get_or, set, sym, ap, ◌∙◌, subst, Result, Ok, Err, Some, None, IfOk, OnErr}
use lib.Seq.{set-get_or}
use Rattle.ticket_steps.specs.declared.books.Kept.{Ghosts}
use Rattle.ticket_steps.specs.declared.books.NoMemory.{NoMemory}
use Rattle.ticket_steps.specs.Books.{BookState, book_state, with_entry, with_refusal}
use Rattle.ticket_steps.specs.History.{entry, replay, IsLegal}
use Rattle.ticket_steps.proofs.Histories.{recorded_is}

module _ {K C R : Type 0} (k : Ghosts K C R) where
  abbrev pub book_of : K → BookState k.State C R
  book_of book = book_state (k.state book) (k.history book) (k.refusals book)

  -- a book has taken in a call: it has one entry more, answered by the step, or one more refusal
  abbrev pub Takes : ℕ → C → BookState k.State C R → Result R NoMemory → BookState k.State C R → Type 0
  Takes own call before reply after = IfOk reply (λ r. (r ≡ (k.step before.state call).1) × (after ≡ with_entry k.step own call before))
      × OnErr reply (after ≡ with_refusal before)

module _ {K C R : Type 0} (k : Ghosts K C R) (legal : (book : K) → IsLegal k.step (k.opening book) (k.history book))
    (replayed : (book : K) → k.state book ≡ replay k.step (k.opening book) (k.history book)) where
  -- the reply of a recorded call, and the book that it leaves
  recorded_as : (old new : K) (own : ℕ) (call : C) (reply : R) → k.opening new ≡ k.opening old
      → k.history new ≡ k.history old ++ entry own call reply ∷ [] → k.refusals new ≡ k.refusals old
      → (reply ≡ (k.step (k.state old) call).1) × (book_of k new ≡ with_entry k.step own call (book_of k old))
  recorded_as old new own call reply same more kept =
      recorded_is k.step (k.opening old) (k.opening new) (k.state old) (k.state new) (k.history old) (k.history new) (k.refusals old) (k.refusals new)
      own call reply (replayed old) (replayed new) (legal new) same more kept

  -- a book that answers a call has taken it in
  pub takes : (old new : K) (own : ℕ) (call : C) (reply : Result R NoMemory) → k.opening new ≡ k.opening old
      → IfOk reply (λ r. (k.history new ≡ k.history old ++ entry own call r ∷ []) × (k.refusals new ≡ k.refusals old))
      → OnErr reply ((k.history new ≡ k.history old) × (k.state new ≡ k.state old) × (k.refusals new ≡ k.refusals old + 1))
      → Takes k own call (book_of k old) reply (book_of k new)
  takes old new own call (Ok r) same more _ = (recorded_as old new own call r same more.0 more.1, tt)
  takes old new own call (Err e) same _ kept = (tt, λ j. book_state (kept.1 j) (kept.0 j) (kept.2 j))

  -- the state that a recorded call leaves
  pub recorded_state : (old new : K) (own : ℕ) (call : C) (reply : R) → k.opening new ≡ k.opening old
      → k.history new ≡ k.history old ++ entry own call reply ∷ [] → k.refusals new ≡ k.refusals old
      → k.state new ≡ (k.step (k.state old) call).0
  recorded_state old new own call reply same more kept =
      ap (λ (b : BookState k.State C R). b.state) (recorded_as old new own call reply same more kept).1

  -- a call that is posted leaves all words but the one at its place
  pub board_posted : ((s : k.State) (call : C) (at : ℕ) → k.posts_at s call ≡ Some at
      → k.board (k.step s call).0 ≡ set (k.board s) at (get_or (k.board (k.step s call).0) at 0))
      → (old new : K) (own place : ℕ) (call : C) (reply : Result R NoMemory) → k.opening new ≡ k.opening old
      → IfOk reply (λ r. (k.history new ≡ k.history old ++ entry own call r ∷ []) × (k.refusals new ≡ k.refusals old))
      → OnErr reply ((k.history new ≡ k.history old) × (k.state new ≡ k.state old) × (k.refusals new ≡ k.refusals old + 1))
      → k.posts_at (k.state old) call ≡ Some place
      → k.board (k.state new) ≡ set (k.board (k.state old)) place (get_or (k.board (k.state new)) place 0)
  board_posted posted old new own place call (Ok r) same more _ placed =
      subst (λ (s : k.State). k.board s ≡ set (k.board (k.state old)) place (get_or (k.board s) place 0))
      (sym (recorded_state old new own call r same more.0 more.1)) (posted (k.state old) call place placed)
  board_posted posted old new own place call (Err e) same _ kept placed =
      subst (λ (s : k.State). k.board s ≡ set (k.board (k.state old)) place (get_or (k.board s) place 0)) (sym kept.1)
      (sym (set-get_or (k.board (k.state old)) place 0))

  -- so there are as many words as before
  pub words_posted : ((s : k.State) (call : C) (at : ℕ) → k.posts_at s call ≡ Some at
      → k.board (k.step s call).0 ≡ set (k.board s) at (get_or (k.board (k.step s call).0) at 0))
      → (old new : K) (own place : ℕ) (call : C) (reply : Result R NoMemory) → k.opening new ≡ k.opening old
      → IfOk reply (λ r. (k.history new ≡ k.history old ++ entry own call r ∷ []) × (k.refusals new ≡ k.refusals old))
      → OnErr reply ((k.history new ≡ k.history old) × (k.state new ≡ k.state old) × (k.refusals new ≡ k.refusals old + 1))
      → k.posts_at (k.state old) call ≡ Some place → length (k.board (k.state new)) ≡ length (k.board (k.state old))
  words_posted posted old new own place call reply same more kept placed =
      ap length (board_posted posted old new own place call reply same more kept placed)
      ∙ length-set (k.board (k.state old)) place (get_or (k.board (k.state new)) place 0)

  -- a call that is posted nowhere leaves the board as it was
  pub board_kept : ((s : k.State) (call : C) → k.posts_at s call ≡ None → k.board (k.step s call).0 ≡ k.board s)
      → (old new : K) (own : ℕ) (call : C) (reply : Result R NoMemory) → k.opening new ≡ k.opening old
      → IfOk reply (λ r. (k.history new ≡ k.history old ++ entry own call r ∷ []) × (k.refusals new ≡ k.refusals old))
      → OnErr reply ((k.history new ≡ k.history old) × (k.state new ≡ k.state old) × (k.refusals new ≡ k.refusals old + 1))
      → k.posts_at (k.state old) call ≡ None → k.board (k.state new) ≡ k.board (k.state old)
  board_kept unposted old new own call (Ok r) same more _ placed =
      ap k.board (recorded_state old new own call r same more.0 more.1) ∙ unposted (k.state old) call placed
  board_kept unposted old new own call (Err e) same _ kept placed = ap k.board kept.1
