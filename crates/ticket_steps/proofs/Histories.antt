-- One more entry at the end of a history.
use Rattle.std.proofs.Common.{◌≡◌, ℕ, List, [], ◌∷◌, ◌++◌, refl, sym, ap, ◌∙◌, subst}
use Rattle.ticket_steps.specs.declared.books.Entry.{Entry}
use Rattle.ticket_steps.specs.Books.{BookState, book_state, empty_book, with_entry, with_refusal, IsLawfulBook}
use Rattle.ticket_steps.specs.History.{entry, replay, IsLegal}

module _ {C R S : Type 0} (step : S → C → S × R) where
  pub replay-last : (s : S) (es : List (Entry C R)) (e : Entry C R) → replay step s (es ++ e ∷ []) ≡ (step (replay step s es) e.call).0
  replay-last s [] e = refl
  replay-last s (x ∷ xs) e = replay-last (step s x.call).0 xs e

  pub legal-last : (s : S) (es : List (Entry C R)) (e : Entry C R) → IsLegal step s es → e.reply ≡ (step (replay step s es) e.call).1
      → IsLegal step s (es ++ e ∷ [])
  legal-last s [] e h r = (r, tt)
  legal-last s (x ∷ xs) e h r = (h.0, legal-last (step s x.call).0 xs e h.1 r)

  -- the last reply of a legal history is the step's
  pub legal-last-reply : (s : S) (es : List (Entry C R)) (e : Entry C R) → IsLegal step s (es ++ e ∷ []) → e.reply ≡ (step (replay step s es) e.call).1
  legal-last-reply s [] e h = h.0
  legal-last-reply s (x ∷ xs) e h = legal-last-reply (step s x.call).0 xs e h.1

  pub lawful_empty : (s : S) → IsLawfulBook step s (empty_book s)
  lawful_empty s = record { legal = tt; replayed = refl }

  -- an entry with the step's reply keeps a book lawful
  pub lawful_entry : (s : S) (own : ℕ) (call : C) (book : BookState S C R) → IsLawfulBook step s book → IsLawfulBook step s (with_entry step own call book)
  lawful_entry s own call book l =
      let reply = (step book.state call).1 in record {
        legal = legal-last s book.entries (entry own call reply) l.legal (ap (λ (z : S). (step z call).1) l.replayed);
        replayed = ap (λ (z : S). (step z call).0) l.replayed ∙ sym (replay-last s book.entries (entry own call reply));
      }

  pub lawful_refusal : (s : S) (book : BookState S C R) → IsLawfulBook step s book → IsLawfulBook step s (with_refusal book)
  lawful_refusal s book l = record { legal = l.legal; replayed = l.replayed }

  -- a book that keeps the laws, after one entry more
  pub recorded_is : (o o' s s' : S) (es es' : List (Entry C R)) (k k' own : ℕ) (call : C) (reply : R) → s ≡ replay step o es
      → s' ≡ replay step o' es' → IsLegal step o' es' → o' ≡ o → es' ≡ es ++ entry own call reply ∷ [] → k' ≡ k
      → (reply ≡ (step s call).1) × (book_state s' es' k' ≡ with_entry step own call (book_state s es k))
  recorded_is o o' s s' es es' k k' own call reply was now legal same more kept =
      let legal_here : IsLegal step o (es ++ entry own call reply ∷ []) = subst
      (λ (z : S). IsLegal step z (es ++ entry own call reply ∷ [])) same (subst (IsLegal step o') more legal) in
      let answer : reply ≡ (step s call).1 = legal-last-reply o es (entry own call reply) legal_here ∙ ap (λ (z : S). (step z call).1) (sym was) in
      let last : replay step o es' ≡ (step s call).0 =
      ap (replay step o) more ∙ (replay-last o es (entry own call reply) ∙ ap (λ (z : S). (step z call).0) (sym was)) in
      let state : s' ≡ (step s call).0 = now ∙ (ap (λ (z : S). replay step z es') same ∙ last) in (
        answer,
        λ i. book_state (state i) ((more ∙ ap (λ (r : R). es ++ entry own call r ∷ []) answer) i) (kept i),
      )
