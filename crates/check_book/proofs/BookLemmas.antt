-- A book after one entry more.
use Rattle.std.proofs.Common.{◌≡◌, ℕ, List, [], ◌∷◌, ◌++◌, sym, ap, subst, ◌∙◌}
use Rattle.ticket_steps.specs.declared.books.Entry.{Entry}
use Rattle.ticket_steps.specs.History.{entry, replay, IsLegal}
use Rattle.ticket_steps.proofs.Histories.{replay-last, legal-last}
use Rattle.check_sched.specs.declared.call.Call.{Call}
use Rattle.check_sched.specs.declared.call.Reply.{Reply}
use Rattle.check_sched.specs.State.{State}
use Rattle.check_sched.specs.Step.{step}
use Rattle.check_book.specs.BookState.{BookState, book_at, book_step}

module _ (opened : BookState) (s s' : State) (room pass : ℕ) (call : Call) (reply : Reply) (es es' : List (Entry Call Reply))
    (is : s' ≡ (step s call).0) (answer : reply ≡ (step s call).1)
    (more : es' ≡ es ++ entry pass call reply ∷ []) (was : book_at s room ≡ replay book_step opened es) where
  pub book_legal : IsLegal book_step opened es → IsLegal book_step opened es'
  book_legal legal =
      subst (IsLegal book_step opened) (sym more)
      (legal-last book_step opened es (entry pass call reply) legal (answer ∙ ap (λ z. (book_step z call).1) was))

  pub book_replayed : book_at s' room ≡ replay book_step opened es'
  book_replayed =
      ap (λ z. book_at z room) is
      ∙ (ap (λ z. (book_step z call).0) was ∙ sym (replay-last book_step opened es (entry pass call reply)))
      ∙ ap (replay book_step opened) (sym more)
