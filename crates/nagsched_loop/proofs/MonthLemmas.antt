-- Generations, one after another.
use Rattle.std.proofs.Common.{◌≡◌, ℕ, ◌+◌, ◌⊎◌, List, [], ◌∷◌, ◌++◌, Option, Some, refl, sym, ap, subst, ◌∙◌, inl, inr, ⊎_elim}
use Rattle.std.proofs.lemmas.List.{flat_map_more}
use Rattle.ticket_steps.specs.Books.{IsLawfulBook, book_state}
use Rattle.ticket_steps.specs.History.{IsLegal, replay}
use Rattle.ticket_steps.specs.declared.books.Entry.{Entry}
use Rattle.check_objects.specs.Configuration.{Configuration}
use Rattle.check_sched.specs.State.{State}
use Rattle.check_sched.specs.Step.{step}
use Rattle.check_sched.specs.declared.call.Call.{Call}
use Rattle.check_sched.specs.declared.call.Reply.{Reply}
use Rattle.check_book.specs.BookState.{BookState, book_step}
use Rattle.check_book.specs.Books.{entries_of, opening_of, refused_of, sched_of, state_of}
use Rattle.check_book.specs.declared.book.Book.{Book}
use Rattle.check_book.proofs.HistoryLaws.{book_is_legal, book_sched}
use Rattle.check_desk.specs.Desks.{AreNewPassesWith}
use Rattle.check_desk.specs.Passes.{pass_of}
use Rattle.check_desk.specs.declared.desk.Desk.{Desk}
use Rattle.check_desk.specs.declared.passes.Pass.{Pass}
use Rattle.nagsched_loop.specs.Effects.{Effect, reads}
use Rattle.nagsched_loop.specs.Loop.{KeepsOtherRuns, KeepsRuns}
use Rattle.nagsched_loop.specs.Months.{AreGenerations, IsBegun, IsFirst, IsGeneration, IsGenerationText, IsSavedText, IsTextOfGenerations}
use Rattle.nagsched_loop.specs.Months.{IsTextOfSetup, IsTextSince, IsWatched, entries_in, later}
use Rattle.nagsched_loop.specs.declared.environment.End.{End}
use Rattle.nagsched_loop.specs.declared.environment.End.TheVariants as end
use Rattle.nagsched_loop.specs.declared.runs.Run.{Run}
use Rattle.nagsched_loop.proofs.RunLemmas.{kept_then}

-- a book without entries has its opening state
pub opened_at : (book : Book) → entries_of book ≡ [] → (opening_of book).sched ≡ sched_of book
opened_at book none = sym (ap (λ s. s.sched) (book.replayed ∙ ap (replay book_step (opening_of book)) none))

-- the history of a book is legal from the opening state of its scheduler on, and leads to the current one
pub legal_history : (opened state : BookState) (history : List (Entry Call Reply)) (refused : ℕ) (from : State)
    → IsLawfulBook book_step opened (book_state state history refused) → opened.sched ≡ from → IsLegal step from history
legal_history opened state history refused from h e = subst (λ s. IsLegal step s history) e (book_is_legal opened.sched opened.room history h.legal)

pub history_leads : (opened state : BookState) (history : List (Entry Call Reply)) (refused : ℕ) (from : State)
    → IsLawfulBook book_step opened (book_state state history refused) → opened.sched ≡ from → state.sched ≡ replay step from history
history_leads opened state history refused from h e =
    ap (λ s. s.sched) h.replayed ∙ book_sched opened history ∙ ap (λ s. replay step s history) e

-- to a caller that had seen nothing, everything that it has seen is new
pub all_new : (before after history : List (Entry Call Reply)) (runs left : List Run)
    → before ≡ [] → history ≡ after → KeepsRuns before after runs left → KeepsOtherRuns history runs left
all_new before after history runs left none is k =
    subst (λ es. KeepsOtherRuns es runs left) (ap (λ es. es ++ k.0) (sym none) ∙ k.1 ∙ sym is) k.2

-- one generation more
pub generations_more : {S : Type 0} (does : S → Effect → S → Type 0) (past : Configuration → List (Entry Call Reply) → Type 0) (rounds : ℕ)
    (histories : List (List (Entry Call Reply))) (history : List (Entry Call Reply)) (from mid to : State) (runs kept left : List Run) (s t u : S)
    → AreGenerations does past rounds histories from mid runs kept s t → IsGeneration does past rounds end.Renewal history mid to kept left t u
    → AreGenerations does past rounds (histories ++ history ∷ []) from to runs left s u
generations_more does past rounds [] history from mid to runs kept left s t u f g =
    (to, left, u, rw (sym f.0, sym f.1, sym f.2) g, (refl, refl, refl))
generations_more does past rounds (h ∷ hs) history from mid to runs kept left s t u f g =
    (f.0, f.1, f.2, f.3, generations_more does past rounds hs history f.0 mid to f.1 kept left f.2 t u f.4 g)

-- and the runs that it keeps
pub kept_generation : (histories : List (List (Entry Call Reply))) (history : List (Entry Call Reply)) (first runs left : List Run)
    → KeepsOtherRuns (entries_in histories) first runs → KeepsOtherRuns history runs left → KeepsOtherRuns (entries_in (histories ++ history ∷ [])) first left
kept_generation histories history first runs left f g =
    subst (λ es. KeepsOtherRuns es first left) (flat_map_more (λ h. h) [] histories history)
    (kept_then (entries_in histories) history first runs left f g)

-- a pass as a desk hands it out has seen nothing
pub new_unseen : (calls n : ℕ) (desk : Desk) (passes : List Pass) (pass : Pass) → AreNewPassesWith calls desk n (passes ++ pass ∷ []) → (pass_of pass).seen ≡ []
new_unseen calls n desk [] pass h = ap (λ c. c.seen) h.1
new_unseen calls n desk (other ∷ passes) pass h = new_unseen calls (n + 1) desk passes pass h.2

-- a setup that was monitored and not to the end of the program was to be changed
without_program : End → End
without_program end.Program = end.Setup
without_program ending = ending

without_renewal : End → End
without_renewal end.Renewal = end.Setup
without_renewal ending = ending

pub ended_as_setup : (ending : End) → (ending ≡ end.Setup) ⊎ (ending ≡ end.Program) → (ending ≡ end.Setup) ⊎ (ending ≡ end.Renewal) → ending ≡ end.Setup
unfolding without_program without_renewal
ended_as_setup end.Setup f g = refl
ended_as_setup end.Renewal f g = ⊎_elim (λ p. p) (λ p. ap without_program p) f
ended_as_setup end.Program f g = ⊎_elim (λ p. p) (λ p. ap without_renewal p) g

-- ---- stored texts

-- the text after a book's generation was, or was to be, handed to the files
pub text_after_store : (past : Configuration → List (Entry Call Reply) → Type 0) (book ended : Book) (before after : Option (List ℕ)) (bytes text : List ℕ)
    (setup : Configuration) (history : List (Entry Call Reply)) → entries_of book ≡ [] → opening_of ended ≡ opening_of book
    → IsLawfulBook book_step (opening_of ended) (book_state (state_of ended) (entries_of ended) (refused_of ended)) → IsSavedText (sched_of ended) (Some bytes)
    → text ≡ bytes → setup ≡ (sched_of ended).setup → history ≡ entries_of ended → (after ≡ before) ⊎ ((after ≡ Some text) × past setup history)
    → (after ≡ before) ⊎ IsGenerationText past (sched_of book) after
text_after_store past book ended before after bytes text setup history none same lawful saved is of_it all kept =
    ⊎_elim (λ old. inl old) (λ new. inr (of_end (subst (IsSavedText (sched_of ended)) (sym (new.0 ∙ ap Some is)) saved) new.1)) kept
  where
    of_end : IsSavedText (sched_of ended) after → past setup history → IsGenerationText past (sched_of book) after
    of_end saved stored =
        let opened = ap (λ s. s.sched) same ∙ opened_at book none in
        let leads = history_leads (opening_of ended) (state_of ended) (entries_of ended) (refused_of ended) (sched_of book) lawful opened in
        record {
          history = entries_of ended;
          legal = legal_history (opening_of ended) (state_of ended) (entries_of ended) (refused_of ended) (sched_of book) lawful opened;
          handed_over = subst (λ s. past s.setup (entries_of ended)) leads (subst (λ h. past (sched_of ended).setup h) all (subst (λ s. past s history) of_it stored));
          is_saved = subst (λ s. IsSavedText s after) leads saved;
        }

-- a setup is begun over the stored text if that is the text that was found
unfoldable pub begun_over : {S : Type 0} (does : S → Effect → S → Type 0) (gives : Configuration → Type 0) (environment clock : S) (setup : Configuration) (start : ℕ)
    (first : State) (found stored : Option (List ℕ)) → does environment (reads start) clock → gives setup → IsFirst setup found start first → found ≡ stored
    → IsBegun does gives stored environment start first
begun_over does gives environment clock setup start first found stored read given is_first same =
    record { clock = clock; read = read; setup = setup; given = given; is_first = subst (λ text. IsFirst setup text start first) same is_first }

module _ {S : Type 0} (does : S → Effect → S → Type 0) (past : Configuration → List (Entry Call Reply) → Type 0) (rounds : ℕ) where
  -- the text after a generation: the one after those before it, or that of its end
  pub text_after_generation : (first from : State) (histories : List (List (Entry Call Reply))) (listed kept : List Run) (s u : S)
      (before last text : Option (List ℕ)) → AreGenerations does past rounds histories first from listed kept s u
      → (last ≡ before) ⊎ IsTextOfGenerations does past rounds first listed s last
      → (text ≡ last) ⊎ IsGenerationText past from text → (text ≡ before) ⊎ IsTextOfGenerations does past rounds first listed s text
  text_after_generation first from histories listed kept s u before last text lead stored ended =
      ⊎_elim
      (λ same. ⊎_elim (λ old. inl (same ∙ old)) (λ known. inr (subst (IsTextOfGenerations does past rounds first listed s) (sym same) known)) stored)
      (λ new. inr (record { histories = histories; from = from; kept = kept; u = u; lead = lead; ended = new })) ended

  -- the text of the last state of a generation
  pub text_of_generation : (ending : End) (history : List (Entry Call Reply)) (from to : State) (runs left : List Run) (s t : S) (text : Option (List ℕ))
      → IsGeneration does past rounds ending history from to runs left s t → IsSavedText to text → IsGenerationText past from text
  text_of_generation ending history from to runs left s t text g saved = record {
    history = history;
    legal = g.legal;
    handed_over = subst (λ state. past state.setup history) g.leads g.handed_over;
    is_saved = subst (λ state. IsSavedText state text) g.leads saved;
  }

  -- the text after a setup
  pub text_after_setup : (gives : Configuration → Type 0) (ending : End) (before : Option (List ℕ)) (to : State) (runs : List Run) (environment t : S)
      (text : Option (List ℕ)) → IsWatched does gives past rounds before ending to runs environment t → IsSavedText to text
      → IsTextOfSetup does gives past rounds before environment text
  text_after_setup gives ending before to runs environment t text w saved = record {
    start = w.start;
    first = w.first;
    listed = w.listed;
    begun = w.begun;
    ended = record {
      histories = w.histories;
      from = w.from;
      kept = w.kept;
      u = w.u;
      lead = w.lead;
      ended = text_of_generation ending w.history w.from to w.kept runs w.u t text w.last saved;
    };
  }

-- the text after several setups, and after one more
pub text_since : {S : Type 0} (does : S → Effect → S → Type 0) (gives : Configuration → Type 0) (past : Configuration → List (Entry Call Reply) → Type 0)
    (rounds : ℕ) (before last text : Option (List ℕ)) (environment : S) → IsTextSince does gives past rounds before last
    → (text ≡ last) ⊎ IsTextOfSetup does gives past rounds last environment text → IsTextSince does gives past rounds before text
text_since does gives past rounds before last text environment since kept =
    ⊎_elim (λ same. subst (IsTextSince does gives past rounds before) (sym same) since) (λ new. later environment since new) kept
