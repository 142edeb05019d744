-- The board of a book: what its laws say of it, call by call and along a history.
use Rattle.std.proofs.Common.{◌≡◌, ℕ, List, [], ◌∷◌, length, length-set, get_or, set, sym, refl, ap, ◌∙◌, Option, Some, None}
use Rattle.ticket_steps.specs.declared.books.Entry.{Entry}
use Rattle.ticket_steps.specs.declared.books.Kept.{Ghosts}
use Rattle.ticket_steps.specs.Books.{BookState, IsLawfulBook}
use Rattle.ticket_steps.specs.History.{replay, IsLegal}
use Rattle.ticket_lock.specs.declared.views.Start.{Start}
use Rattle.ticket_lock.specs.Slots.{IsBook}

module _ {K C R : Type 0} (k : Ghosts K C R) where
  -- the laws of a book, as `Kept` has them
  pub record AreLaws : Type 0 where
    pub legal : (book : K) → IsLegal k.step (k.opening book) (k.history book)
    pub replayed : (book : K) → k.state book ≡ replay k.step (k.opening book) (k.history book)
    pub unposted : (s : k.State) (call : C) → k.posts_at s call ≡ None → k.board (k.step s call).0 ≡ k.board s
    pub posted : (s : k.State) (call : C) (at : ℕ) → k.posts_at s call ≡ Some at
        → k.board (k.step s call).0 ≡ set (k.board s) at (get_or (k.board (k.step s call).0) at 0)

  module _ (laws : AreLaws) where
    as_many_by : (s : k.State) (call : C) (o : Option ℕ) → k.posts_at s call ≡ o → length (k.board (k.step s call).0) ≡ length (k.board s)
    as_many_by s call None is = ap length (laws.unposted s call is)
    as_many_by s call (Some at) is = ap length (laws.posted s call at is) ∙ length-set (k.board s) at (get_or (k.board (k.step s call).0) at 0)

    -- no call changes how many words there are
    pub as_many : (s : k.State) (es : List (Entry C R)) → length (k.board (replay k.step s es)) ≡ length (k.board s)
    as_many s [] = refl
    as_many s (e ∷ es) = as_many (k.step s e.call).0 es ∙ as_many_by s e.call (k.posts_at s e.call) refl

    -- so a book has as many as it was opened with
    pub as_many_in : (book : K) → length (k.board (k.state book)) ≡ length (k.board (k.opening book))
    as_many_in book = ap (λ (s : k.State). length (k.board s)) (laws.replayed book) ∙ as_many (k.opening book) (k.history book)

    -- the state of the core's book
    pub state_is : (start : Start K) (b : BookState k.State C R) (book : K) → IsLawfulBook k.step (k.opening start.book) b → IsBook k start b book
        → k.state book ≡ b.state
    state_is start b book lawful is =
        laws.replayed book ∙ ((λ i. replay k.step (is.opening i) (is.entries i)) ∙ sym lawful.replayed)
