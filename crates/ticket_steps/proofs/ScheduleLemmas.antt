-- What is so after every schedule.
use Rattle.std.proofs.Common.{◌≡◌, ℕ, ◌+◌, ◌<◌, ◌≤◌, List, [], ◌∷◌, ◌++◌, length, take, get_or, add-one, sym, refl, ap, ◌∙◌, subst, arith, append_assoc}
use Rattle.std.proofs.Common.{Bool, true, cond, eqb, ne_eqb, ◌≢◌}
use Rattle.std.proofs.Math.Seq.{take-suc}
use Rattle.std.proofs.lemmas.List.{append-nil}
use mathlib.Core.List.{IsPrefix}
use Rattle.ticket_steps.specs.declared.books.Entry.{Entry}
use Rattle.ticket_steps.specs.declared.books.Kept.{Ghosts}
use Rattle.ticket_steps.specs.declared.events.Event.{Event}
use Rattle.ticket_steps.specs.declared.seats.CoreSeat.{CoreSeat}
use Rattle.ticket_steps.specs.declared.seats.Phase.{Phase}
use Rattle.ticket_steps.specs.declared.seats.Phase.TheVariants.{Holding}
use Rattle.ticket_steps.specs.Books.{BookState, IsLawfulBook, calls_handled, with_entry, with_refusal}
use Rattle.ticket_steps.specs.declared.events.Seen.{Seen}
use Rattle.ticket_steps.specs.CoreStates.{CoreState, opening_core}
use Rattle.ticket_steps.specs.Faults.{Shows, LeadsBy}
use Rattle.ticket_steps.specs.Happenings.{Happening, split, drew, waited, held, posted, post_refused, left_posted, recorded, refused, glanced, gathered}
use Rattle.ticket_steps.specs.Happenings.{calls_made, calls_ended, recorded_by, recordings, Moves, Leads}
use Rattle.ticket_steps.specs.History.{entry, of}
use Rattle.ticket_steps.specs.Lawful.{IsLawful}
use Rattle.ticket_steps.specs.Seats.{IsSeatAt, is_present}
use Rattle.ticket_steps.specs.Schedules.{Schedule, IsSchedule, IsLine, ShowsAt}
use Rattle.ticket_steps.proofs.Histories.{lawful_empty, lawful_entry, lawful_refusal}
use Rattle.ticket_steps.proofs.LawfulSteps.{lawful_opened, moves_lawful, taken_entry, taken_refusal}
use Rattle.ticket_steps.proofs.EntryLemmas.{of-append}
use Rattle.ticket_steps.proofs.SeatLemmas.{own_below}
use Rattle.ticket_steps.proofs.SumLemmas.{below_yes, below_no}

module _ {C R : Type 0} where
  pub recordings-append : (hs later : List (Happening C R)) → recordings (hs ++ later) ≡ recordings hs ++ recordings later
  recordings-append [] later = refl
  recordings-append (split own count ∷ hs) later = recordings-append hs later
  recordings-append (drew own ticket ∷ hs) later = recordings-append hs later
  recordings-append (waited own ∷ hs) later = recordings-append hs later
  recordings-append (held own ∷ hs) later = recordings-append hs later
  recordings-append (posted own call reply ∷ hs) later = ap (λ (l : List (Entry C R)). entry own call reply ∷ l) (recordings-append hs later)
  recordings-append (post_refused own ∷ hs) later = recordings-append hs later
  recordings-append (left_posted own ∷ hs) later = recordings-append hs later
  recordings-append (recorded own call reply ∷ hs) later = ap (λ (l : List (Entry C R)). entry own call reply ∷ l) (recordings-append hs later)
  recordings-append (refused own ∷ hs) later = recordings-append hs later
  recordings-append (glanced own place word ∷ hs) later = recordings-append hs later
  recordings-append (gathered own other ∷ hs) later = recordings-append hs later

  -- the recordings of a number are those that it made
  pub of-recordings : (n : ℕ) (hs : List (Happening C R)) → of n (recordings hs) ≡ recorded_by n hs
  of-recordings n [] = refl
  of-recordings n (split own count ∷ hs) = of-recordings n hs
  of-recordings n (drew own ticket ∷ hs) = of-recordings n hs
  of-recordings n (waited own ∷ hs) = of-recordings n hs
  of-recordings n (held own ∷ hs) = of-recordings n hs
  of-recordings n (posted own call reply ∷ hs) = ap (λ (l : List (Entry C R)). cond (eqb own n) (entry own call reply ∷ l) l) (of-recordings n hs)
  of-recordings n (post_refused own ∷ hs) = of-recordings n hs
  of-recordings n (left_posted own ∷ hs) = of-recordings n hs
  of-recordings n (recorded own call reply ∷ hs) = ap (λ (l : List (Entry C R)). cond (eqb own n) (entry own call reply ∷ l) l) (of-recordings n hs)
  of-recordings n (refused own ∷ hs) = of-recordings n hs
  of-recordings n (glanced own place word ∷ hs) = of-recordings n hs
  of-recordings n (gathered own other ∷ hs) = of-recordings n hs

  pub count-cons : (h : Happening C R) (hs : List (Happening C R)) → (calls_made (h ∷ hs) ≡ calls_made (h ∷ []) + calls_made hs)
      × (calls_ended (h ∷ hs) ≡ calls_ended (h ∷ []) + calls_ended hs)
  count-cons (split own count) hs = (omega arith, omega arith)
  count-cons (drew own ticket) hs = (omega arith, omega arith)
  count-cons (waited own) hs = (omega arith, omega arith)
  count-cons (held own) hs = (omega arith, omega arith)
  count-cons (posted own call reply) hs = (omega arith, omega arith)
  count-cons (post_refused own) hs = (omega arith, omega arith)
  count-cons (left_posted own) hs = (omega arith, omega arith)
  count-cons (recorded own call reply) hs = (omega arith, omega arith)
  count-cons (refused own) hs = (omega arith, omega arith)
  count-cons (glanced own place word) hs = (omega arith, omega arith)
  count-cons (gathered own other) hs = (omega arith, omega arith)

module _ {K C R : Type 0} (k : Ghosts K C R) where
  abbrev entries_in : CoreState k.State C R → List (Entry C R)
  entries_in c = c.book.entries

  module _ (draws : ℕ) where
    -- one happening more
    pub leads_more : (b c d : CoreState k.State C R) (hs : List (Happening C R)) (h : Happening C R) → Leads k draws b hs c → Moves k draws c h d
        → Leads k draws b (hs ++ h ∷ []) d
    leads_more b c d [] h t m = (d, subst (λ (z : CoreState k.State C R). Moves k draws z h d) t m, refl)
    leads_more b c d (x ∷ xs) h t m = (t.0, t.1, leads_more t.0 c d xs h t.2 m)

    pub leads_lawful : (numbers : ℕ) (b c : CoreState k.State C R) (hs : List (Happening C R)) → IsLawful numbers draws b → Leads k draws b hs c
        → IsLawful numbers draws c
    leads_lawful numbers b c [] l t = subst (IsLawful numbers draws) (sym t) l
    leads_lawful numbers b c (h ∷ hs) l t = leads_lawful numbers t.0 c hs (moves_lawful numbers draws k b t.0 h l t.1) t.2

    -- what is so of a book stays so, where entries and refusals keep it
    book_stays : (P : BookState k.State C R → Type 0) → ((own : ℕ) (call : C) (book : BookState k.State C R) → P book → P (with_entry k.step own call book))
        → ((book : BookState k.State C R) → P book → P (with_refusal book))
        → (b c : CoreState k.State C R) (h : Happening C R) → Moves k draws b h c → P b.book → P c.book
    book_stays P e r b c (split own count) t l = subst (λ (z : CoreState k.State C R). P z.book) (sym t.6) l
    book_stays P e r b c (drew own ticket) t l = subst (λ (z : CoreState k.State C R). P z.book) (sym t.5) l
    book_stays P e r b c (waited own) t l = subst (λ (z : CoreState k.State C R). P z.book) (sym t.5) l
    book_stays P e r b c (held own) t l = subst (λ (z : CoreState k.State C R). P z.book) (sym t.3) l
    book_stays P e r b c (posted own call reply) t l = subst (λ (z : CoreState k.State C R). P z.book) (sym t.5) (e own call b.book l)
    book_stays P e r b c (post_refused own) t l = subst (λ (z : CoreState k.State C R). P z.book) (sym t.4) (r b.book l)
    book_stays P e r b c (left_posted own) t l = subst (λ (z : CoreState k.State C R). P z.book) (sym t.4) l
    book_stays P e r b c (recorded own call reply) t l = subst (λ (z : CoreState k.State C R). P z.book) (sym t.5) (e own call b.book l)
    book_stays P e r b c (refused own) t l = subst (λ (z : CoreState k.State C R). P z.book) (sym t.4) (r b.book l)
    book_stays P e r b c (glanced own place word) t l = subst (λ (z : CoreState k.State C R). P z.book) (sym t.5) l
    book_stays P e r b c (gathered own other) t l = subst (λ (z : CoreState k.State C R). P z.book) (sym t.7) l

    pub leads_lawful_book : (opening : k.State) (b c : CoreState k.State C R) (hs : List (Happening C R)) → IsLawfulBook k.step opening b.book
        → Leads k draws b hs c → IsLawfulBook k.step opening c.book
    leads_lawful_book opening b c [] l t = subst (λ (z : CoreState k.State C R). IsLawfulBook k.step opening z.book) (sym t) l
    leads_lawful_book opening b c (h ∷ hs) l t =
        leads_lawful_book opening t.0 c hs (book_stays (IsLawfulBook k.step opening)
        (λ own call book was. lawful_entry k.step opening own call book was) (λ book was. lawful_refusal k.step opening book was) b t.0 h t.1 l) t.2

    -- what the book has of entries, it keeps
    leads_grow : (es : List (Entry C R)) (b c : CoreState k.State C R) (hs : List (Happening C R)) → IsPrefix es b.book.entries
        → Leads k draws b hs c → IsPrefix es c.book.entries
    leads_grow es b c [] pre t = subst (λ (z : CoreState k.State C R). IsPrefix es z.book.entries) (sym t) pre
    leads_grow es b c (h ∷ hs) pre t = leads_grow es t.0 c hs (book_stays (λ (book : BookState k.State C R). IsPrefix es book.entries)
        (λ own call book was. (
          was.0 ++ entry own call (k.step book.state call).1 ∷ [],
          sym (append_assoc es was.0 _) ∙
              ap (λ (l : List (Entry C R)). l ++ entry own call (k.step book.state call).1 ∷ []) was.1,
        )) (λ book was. was) b t.0 h t.1 pre) t.2

    -- a glance reads the word that the entries so far leave
    pub leads_glanced : (opening : k.State) (own place word : ℕ) (b c : CoreState k.State C R) (before after : List (Happening C R))
        → IsLawfulBook k.step opening b.book → Leads k draws b (before ++ glanced own place word ∷ after) c
        → ShowsAt k opening place word c.book.entries
    leads_glanced opening own place word b c [] after l t = record {
      entries = b.book.entries;
      prefix = leads_grow b.book.entries t.0 c after
          (subst (λ (z : CoreState k.State C R). IsPrefix b.book.entries z.book.entries) (sym t.1.5) ([], append-nil b.book.entries)) t.2;
      legal = l.legal;
      within = subst (λ (s : k.State). place < length (k.board s)) l.replayed t.1.3;
      word_is = t.1.4 ∙ ap (λ (s : k.State). get_or (k.board s) place 0) l.replayed;
    }
    leads_glanced opening own place word b c (h ∷ hs) after l t =
        leads_glanced opening own place word t.0 c hs after (book_stays (IsLawfulBook k.step opening)
        (λ own call book was. lawful_entry k.step opening own call book was) (λ book was. lawful_refusal k.step opening book was) b t.0 h t.1 l) t.2

    -- one happening adds to the entries what it has recorded
    moves_recordings : (b c : CoreState k.State C R) (h : Happening C R) → Moves k draws b h c → c.book.entries ≡ b.book.entries ++ recordings (h ∷ [])
    moves_recordings b c (split own count) t = ap entries_in t.6 ∙ sym (append-nil b.book.entries)
    moves_recordings b c (drew own ticket) t = ap entries_in t.5 ∙ sym (append-nil b.book.entries)
    moves_recordings b c (waited own) t = ap entries_in t.5 ∙ sym (append-nil b.book.entries)
    moves_recordings b c (held own) t = ap entries_in t.3 ∙ sym (append-nil b.book.entries)
    moves_recordings b c (posted own call reply) t = ap entries_in t.5 ∙ ap (λ (r : R). b.book.entries ++ entry own call r ∷ []) (sym t.4)
    moves_recordings b c (post_refused own) t = ap entries_in t.4 ∙ sym (append-nil b.book.entries)
    moves_recordings b c (left_posted own) t = ap entries_in t.4 ∙ sym (append-nil b.book.entries)
    moves_recordings b c (recorded own call reply) t = ap entries_in t.5 ∙ ap (λ (r : R). b.book.entries ++ entry own call r ∷ []) (sym t.4)
    moves_recordings b c (refused own) t = ap entries_in t.4 ∙ sym (append-nil b.book.entries)
    moves_recordings b c (glanced own place word) t = ap entries_in t.5 ∙ sym (append-nil b.book.entries)
    moves_recordings b c (gathered own other) t = ap entries_in t.7 ∙ sym (append-nil b.book.entries)

    -- the entries are those that were there, and what was recorded since
    pub leads_recordings : (b c : CoreState k.State C R) (hs : List (Happening C R)) → Leads k draws b hs c
        → c.book.entries ≡ b.book.entries ++ recordings hs
    leads_recordings b c [] t = ap entries_in t ∙ sym (append-nil b.book.entries)
    leads_recordings b c (h ∷ hs) t = leads_recordings t.0 c hs t.2 ∙ (ap (λ (l : List (Entry C R)). l ++ recordings hs) (moves_recordings b t.0 h t.1)
        ∙ (append_assoc b.book.entries (recordings (h ∷ [])) (recordings hs)
        ∙ ap (λ (l : List (Entry C R)). b.book.entries ++ l) (sym (recordings-append (h ∷ []) hs))))

    moves_of : (n : ℕ) (b c : CoreState k.State C R) (h : Happening C R) → Moves k draws b h c
        → of n c.book.entries ≡ of n b.book.entries ++ recorded_by n (h ∷ [])
    moves_of n b c h t = ap (of n) (moves_recordings b c h t) ∙ (of-append n b.book.entries (recordings (h ∷ []))
        ∙ ap (λ (l : List (Entry C R)). of n b.book.entries ++ l) (of-recordings n (h ∷ [])))

    abbrev taken : CoreState k.State C R → ℕ
    taken c = calls_handled c.book

    abbrev served : CoreState k.State C R → ℕ
    served c = c.served

    -- the book has taken in the calls that were made since, and the number served has risen by the calls that have ended
    abbrev pub Counts : CoreState k.State C R → CoreState k.State C R → List (Happening C R) → Type 0
    Counts b c hs = (calls_handled c.book ≡ calls_handled b.book + calls_made hs) × (c.served ≡ b.served + calls_ended hs)

    moves_count : (b c : CoreState k.State C R) (h : Happening C R) → Moves k draws b h c → Counts b c (h ∷ [])
    moves_count b c (split own count) t = (omega (arith, ap taken t.6), omega (arith, ap served t.6))
    moves_count b c (drew own ticket) t = (omega (arith, ap taken t.5), omega (arith, ap served t.5))
    moves_count b c (waited own) t = (omega (arith, ap taken t.5), omega (arith, ap served t.5))
    moves_count b c (held own) t = (omega (arith, ap taken t.3), omega (arith, ap served t.3))
    moves_count b c (posted own call reply) t = (omega (arith, ap taken t.5, taken_entry 0 draws k b.book own call), omega (arith, ap served t.5))
    moves_count b c (post_refused own) t = (omega (arith, ap taken t.4, taken_refusal 0 draws k b.book), omega (arith, ap served t.4))
    moves_count b c (left_posted own) t = (omega (arith, ap taken t.4), omega (arith, ap served t.4))
    moves_count b c (recorded own call reply) t = (omega (arith, ap taken t.5, taken_entry 0 draws k b.book own call), omega (arith, ap served t.5))
    moves_count b c (refused own) t = (omega (arith, ap taken t.4, taken_refusal 0 draws k b.book), omega (arith, ap served t.4))
    moves_count b c (glanced own place word) t = (omega (arith, ap taken t.5), omega (arith, ap served t.5))
    moves_count b c (gathered own other) t = (omega (arith, ap taken t.7), omega (arith, ap served t.7))

    pub leads_count : (b c : CoreState k.State C R) (hs : List (Happening C R)) → Leads k draws b hs c → Counts b c hs
    leads_count b c [] t = (omega (arith, ap taken t), omega (arith, ap served t))
    leads_count b c (h ∷ hs) t =
        let now = moves_count b t.0 h t.1 in
        let later = leads_count t.0 c hs t.2 in
        let both = count-cons h hs in
        (omega (arith, now.0, later.0, both.0), omega (arith, now.1, later.1, both.1))

    shown_more : (b c d : CoreState k.State C R) (es : List (Event C)) (e : Event C) (seen : Seen R) → LeadsBy k draws b es c → Shows k draws c e seen d
        → LeadsBy k draws b (es ++ e ∷ []) d
    shown_more b c d [] e seen t m = (seen, d, subst (λ (z : CoreState k.State C R). Shows k draws z e seen d) t m, refl)
    shown_more b c d (x ∷ xs) e seen t m = (t.0, t.1, t.2, shown_more t.1 c d xs e seen t.3 m)

    -- one event more, where it is shown
    pub leads_by_more : (b c d : CoreState k.State C R) (es : List (Event C)) (n : ℕ) (e : Event C) (seen : Seen R) → LeadsBy k draws b (take n es) c
        → n < length es → e ≡ get_or es n e → Shows k draws c e seen d
        → LeadsBy k draws b (take (n + 1) es) d
    leads_by_more b c d es n e seen t lt read m =
        let more : take (n + 1) es ≡ take n es ++ e ∷ [] = rw add-one (take-suc es n e lt ∙ ap (λ (x : Event C). take n es ++ x ∷ []) (sym read)) in
        subst (λ (l : List (Event C)). LeadsBy k draws b l d) (sym more) (shown_more b c d (take n es) e seen t m)

    -- a seat that is there has no number from all of them on, so what it records is nothing to such a number
    nothing : (numbers n : ℕ) (b : CoreState k.State C R) (own : ℕ) (call : C) (reply : R) (phase : Phase) → IsLawful numbers draws b → numbers ≤ n
        → (i : ℕ) (p : CoreSeat) → is_present phase ≡ true → IsSeatAt b.seats i own phase p → cond (eqb own n) (entry own call reply ∷ []) [] ≡ []
    nothing numbers n b own call reply phase l le i p there st =
        let below = own_below numbers draws b l i p st.0 (ap is_present st.2 ∙ there) in
        let apart : own ≢ n = λ e. omega (arith, below, le, st.1, e) in
        ap (λ (x : Bool). cond x (entry own call reply ∷ []) []) (ne_eqb own n apart)

    -- only seats that are there record, and their own numbers are among the numbers
    moves_strangers : (numbers n : ℕ) (b c : CoreState k.State C R) (h : Happening C R) → IsLawful numbers draws b → numbers ≤ n
        → of n b.book.entries ≡ [] → Moves k draws b h c → of n c.book.entries ≡ []
    moves_strangers numbers n b c (split own count) l le none t = moves_of n b c (split own count) t ∙ (append-nil (of n b.book.entries) ∙ none)
    moves_strangers numbers n b c (drew own ticket) l le none t = moves_of n b c (drew own ticket) t ∙ (append-nil (of n b.book.entries) ∙ none)
    moves_strangers numbers n b c (waited own) l le none t = moves_of n b c (waited own) t ∙ (append-nil (of n b.book.entries) ∙ none)
    moves_strangers numbers n b c (held own) l le none t = moves_of n b c (held own) t ∙ (append-nil (of n b.book.entries) ∙ none)
    moves_strangers numbers n b c (posted own call reply) l le none t =
        moves_of n b c (posted own call reply) t
        ∙ (ap (λ (l : List (Entry C R)). of n b.book.entries ++ l) (nothing numbers n b own call reply (Holding t.2) l le t.0 t.1 refl t.3)
        ∙ (append-nil (of n b.book.entries) ∙ none))
    moves_strangers numbers n b c (post_refused own) l le none t =
        moves_of n b c (post_refused own) t ∙ (append-nil (of n b.book.entries) ∙ none)
    moves_strangers numbers n b c (left_posted own) l le none t =
        moves_of n b c (left_posted own) t ∙ (append-nil (of n b.book.entries) ∙ none)
    moves_strangers numbers n b c (recorded own call reply) l le none t =
        moves_of n b c (recorded own call reply) t
        ∙ (ap (λ (l : List (Entry C R)). of n b.book.entries ++ l) (nothing numbers n b own call reply (Holding t.2) l le t.0 t.1 refl t.3)
        ∙ (append-nil (of n b.book.entries) ∙ none))
    moves_strangers numbers n b c (refused own) l le none t = moves_of n b c (refused own) t ∙ (append-nil (of n b.book.entries) ∙ none)
    moves_strangers numbers n b c (glanced own place word) l le none t =
        moves_of n b c (glanced own place word) t ∙ (append-nil (of n b.book.entries) ∙ none)
    moves_strangers numbers n b c (gathered own other) l le none t = moves_of n b c (gathered own other) t ∙ (append-nil (of n b.book.entries) ∙ none)

    pub leads_strangers : (numbers n : ℕ) (b c : CoreState k.State C R) (hs : List (Happening C R)) → IsLawful numbers draws b → numbers ≤ n
        → of n b.book.entries ≡ [] → Leads k draws b hs c → of n c.book.entries ≡ []
    leads_strangers numbers n b c [] l le none t = ap (λ (z : CoreState k.State C R). of n z.book.entries) t ∙ none
    leads_strangers numbers n b c (h ∷ hs) l le none t =
        leads_strangers numbers n t.0 c hs (moves_lawful numbers draws k b t.0 h l t.1) le (moves_strangers numbers n b t.0 h l le none t.1) t.2

  pub schedule_lawful : (s : Schedule k.State C R) → IsSchedule k s → IsLawful s.numbers s.draws s.end
  schedule_lawful s is =
      leads_lawful s.draws s.numbers (opening_core s.numbers s.draws s.opening) s.end s.happenings (lawful_opened s.numbers s.draws s.opening is.nonempty_numbers) is.leads

  pub schedule_book : (s : Schedule k.State C R) → IsSchedule k s → IsLawfulBook k.step s.opening s.end.book
  schedule_book s is = leads_lawful_book s.draws s.opening (opening_core s.numbers s.draws s.opening) s.end s.happenings (lawful_empty k.step s.opening) is.leads

  pub schedule_order : (s : Schedule k.State C R) → IsSchedule k s → s.end.book.entries ≡ recordings s.happenings
  schedule_order s is = leads_recordings s.draws (opening_core s.numbers s.draws s.opening) s.end s.happenings is.leads

  pub schedule_of : (s : Schedule k.State C R) → IsSchedule k s → (n : ℕ) → of n s.end.book.entries ≡ recorded_by n s.happenings
  schedule_of s is n = ap (of n) (schedule_order s is) ∙ of-recordings n s.happenings

  pub schedule_glanced : (s : Schedule k.State C R) → IsSchedule k s → (own place word : ℕ) (before after : List (Happening C R))
      → s.happenings ≡ before ++ glanced own place word ∷ after → ShowsAt k s.opening place word s.end.book.entries
  schedule_glanced s is own place word before after happenings =
      leads_glanced s.draws s.opening own place word (opening_core s.numbers s.draws s.opening) s.end before after (lawful_empty k.step s.opening)
      (subst (λ (hs : List (Happening C R)). Leads k s.draws (opening_core s.numbers s.draws s.opening) hs s.end) happenings is.leads)

  pub schedule_made : (s : Schedule k.State C R) → IsSchedule k s → calls_made s.happenings ≡ calls_handled s.end.book
  schedule_made s is = omega (arith, (leads_count s.draws (opening_core s.numbers s.draws s.opening) s.end s.happenings is.leads).0)

  pub schedule_ended : (s : Schedule k.State C R) → IsSchedule k s → calls_ended s.happenings ≡ s.end.served
  schedule_ended s is = omega (arith, (leads_count s.draws (opening_core s.numbers s.draws s.opening) s.end s.happenings is.leads).1)

  pub schedule_strangers : (s : Schedule k.State C R) → IsSchedule k s → (n : ℕ) → s.numbers ≤ n → of n s.end.book.entries ≡ []
  schedule_strangers s is n le =
      leads_strangers s.draws s.numbers n (opening_core s.numbers s.draws s.opening) s.end s.happenings
      (lawful_opened s.numbers s.draws s.opening is.nonempty_numbers) le refl is.leads

pub lawful_line : {S C R : Type 0} (numbers draws : ℕ) (c : CoreState S C R) → IsLawful numbers draws c → c.served ≤ c.next → IsLine c
lawful_line numbers draws c l le = record {
  past = λ t lt. omega (arith, l.tickets t, below_yes t c.served lt, below_yes t c.next (omega arith));
  in_line = λ t ge lt. omega (arith, l.tickets t, below_no t c.served ge, below_yes t c.next lt);
  to_come = λ t ge. omega (arith, l.tickets t, below_no t c.next ge);
}
