-- Each kind of step is one event, and keeps the rule.
use Rattle.std.proofs.Common.{◌≡◌, ◌↔◌, ℕ, ◌+◌, ◌-◌, ◌%◌, ◌<◌, ◌≤◌, ◌≢◌, ◌⊎◌, List, [], ◌∷◌, ◌++◌, map, length, get_or, set, take, drop, length-set, sym, refl}
use Rattle.std.proofs.Common.{ap, ◌∙◌, subst, inl, inr, ⊎_elim, arith, true, false, Bool, Option, Some, None}
use mathlib.Core.Option.{some, none, some-injective}
use mathlib.Core.Option as maybe
use mathlib.Core.List.{map-append}
use lib.ListN.{get_elem?}
use lib.Seq.{map-set, set-get_or}
use Rattle.std.specs.Option.{unwrap_or}
use Rattle.std.proofs.lemmas.List.{append-nil}
use Rattle.atomic_table.specs.Table.{State, keeps, put_back, stepped}
use Rattle.atomic_table.proofs.Lists.{at_map}
use Rattle.ticket_steps.specs.declared.books.Entry.{Entry}
use Rattle.ticket_steps.specs.declared.books.Kept.{Ghosts}
use Rattle.ticket_steps.specs.declared.seats.CoreSeat.{CoreSeat}
use Rattle.ticket_steps.specs.declared.seats.Phase.TheVariants.{Waiting, Holding}
use Rattle.ticket_steps.specs.Books.{BookState, with_entry, with_refusal, IsLawfulBook}
use Rattle.ticket_steps.specs.CoreStates.{CoreState, core_state, opening_core}
use Rattle.ticket_steps.specs.Happenings.{Happening, Moves, Leads, with_seats, after_post, after_leave}
use Rattle.ticket_steps.specs.Happenings as event
use Rattle.ticket_steps.specs.History.{entry, of, replay, IsLegal}
use Rattle.ticket_steps.specs.Lawful.{IsLawful}
use Rattle.ticket_steps.specs.Seats.{Holds, holder_count_of, is_present, tickets_of, holders, seat_after_split, other_seat, waiting_seat, holding_seat}
use Rattle.ticket_steps.specs.Seats.{posted_seat, seat_after_leave, gone_seat}
use Rattle.ticket_steps.specs.Sums.{occurrences}
use Rattle.ticket_steps.proofs.CoreLemmas.{few_tickets}
use Rattle.ticket_steps.proofs.Histories.{legal-last-reply, lawful_entry, lawful_refusal}
use Rattle.ticket_steps.proofs.LawfulSteps.{lawful_opened}
use Rattle.ticket_steps.proofs.Lists.{at_set, at_snoc, set_else, set_here, set_again}
use Rattle.ticket_steps.proofs.EntryLemmas.{of-other}
use Rattle.ticket_steps.proofs.ScheduleLemmas.{leads_more, leads_lawful, leads_lawful_book, leads_strangers}
use Rattle.ticket_steps.proofs.SeatLemmas.{holds, one_holder, no_holder, sole, named_once, tickets_holding, holding_holds, posted_holds, holder_there}
use Rattle.ticket_steps.proofs.SumLemmas.{occurrences-append, occurrences-same, occurrences-take-drop, total-set, total-append, term_le, terms_le, below_le}
use Rattle.ticket_lock.specs.declared.views.Start.{Start}
use Rattle.ticket_lock.specs.declared.views.View.{View}
use Rattle.ticket_lock.specs.Histories.{IsTrueView}
use Rattle.ticket_lock.specs.Kinds.{Kind, split, draw, look_held, look_waits, post, leave, gather, second_load, glance, table_after, view_after}
use Rattle.ticket_lock.specs.Kinds.{IsReady, IsEventOf, IsInSlot}
use Rattle.ticket_lock.specs.Layout.{grant_word, board_word, next_word}
use Rattle.ticket_lock.specs.Rule.{IsTableOf}
use Rattle.ticket_lock.specs.Slots.{IsBook, IsSlotOf}
use Rattle.ticket_lock.specs.Steps.{TableMoment, IsTableMoment, IsOneEvent, IsBookAfterCall, place_after, word_in}
use Rattle.ticket_lock.specs.Views.{draws_in, view, seat_in, spent_view, Follows, view_after_split, split_view, gathered_view}
use Rattle.ticket_lock.specs.Words.{AreWordsOf}
use Rattle.ticket_lock.proofs.BoardLemmas.{AreLaws, as_many, state_is}
use Rattle.ticket_lock.proofs.WordLemmas.{next_found, next_raised, watched_found, next_granted, board_found, board_stored}
use Rattle.ticket_lock.proofs.HistoryLemmas.{follows_whole, follows_none, follows_later, follows_fewer, longer_of}

module _ {K C R : Type 0} (k : Ghosts K C R) (m : TableMoment K k.State C R) (is : IsTableMoment k m) where
  abbrev V : Type 0
  V = View K C R

  abbrev Core : Type 0
  Core = CoreState k.State C R

  abbrev Book : Type 0
  Book = BookState k.State C R

  abbrev Homes : Type 0
  Homes = List (maybe.Option (Option K))

  -- the core state in which the lock was opened
  abbrev pub opening_state : Core
  opening_state = opening_core m.start.numbers m.start.draws (k.opening m.start.book)

  pub lawful : IsLawful m.start.numbers m.start.draws m.core
  lawful = leads_lawful k m.start.draws m.start.numbers opening_state m.core m.happenings
      (lawful_opened m.start.numbers m.start.draws (k.opening m.start.book) is.ruled.nonempty_numbers) is.ruled.words.leads

  pub lawful_book : IsLawfulBook k.step (k.opening m.start.book) m.core.book
  lawful_book = leads_lawful_book k m.start.draws (k.opening m.start.book) opening_state m.core m.happenings
      record { legal = tt; replayed = refl } is.ruled.words.leads

  -- a number that wasn't given out has no entries
  pub strangers_none : (n : ℕ) → m.start.numbers ≤ n → of n m.core.book.entries ≡ []
  strangers_none n le = leads_strangers k m.start.draws m.start.numbers n opening_state m.core m.happenings
      (lawful_opened m.start.numbers m.start.draws (k.opening m.start.book) is.ruled.nonempty_numbers) le refl is.ruled.words.leads

  -- the next ticket is far from wrapping
  pub next_small : m.core.next ≤ 4398046510080
  next_small = few_tickets m.core.next _ m.start.numbers m.start.draws lawful.supply is.ruled.bounded_numbers (omega (arith, is.ruled.bounded_draws))

  pub next_is : get_or m.table.words next_word 0 ≡ m.core.next
  next_is = next_found m.core.next m.core.served (k.board m.core.book.state) m.table.words is.ruled.words.words

  pub board_is : (place : ℕ) → get_or m.table.words (board_word place) 0 ≡ get_or (k.board m.core.book.state) place 0
  board_is place = board_found m.core.next m.core.served (k.board m.core.book.state) m.table.words is.ruled.words.words place

  -- the word that a ticket watches that isn't left yet
  pub watched_is : (ticket : ℕ) → m.core.served ≤ ticket → (get_or m.table.words (grant_word ticket) 0 ≡ ticket) ↔ (ticket ≡ m.core.served)
  watched_is ticket le = watched_found m.core.next m.core.served (k.board m.core.book.state) m.table.words is.ruled.words.words ticket le

  pub seat_at : (id : ℕ) (v : V) → get_elem? m.table.views id ≡ some v → get_elem? m.core.seats id ≡ some v.seat
  seat_at id v at = subst (λ (l : List CoreSeat). get_elem? l id ≡ some v.seat) (sym is.ruled.words.seats) (at_map seat_in m.table.views id v at)

  -- the seat that makes the step, in the core
  pub seat_here : get_elem? m.core.seats m.id ≡ some m.me.0.seat
  seat_here = seat_at m.id m.me.0 is.there

  -- its view is true, as all are
  pub true_here : IsTrueView m.start m.core.book m.me.0
  true_here = is.ruled.known.each m.id m.me.0 is.there

  others_true : (j : ℕ) (u : V) → j ≢ m.id → get_elem? m.table.views j ≡ some u → IsTrueView m.start m.core.book u
  others_true j u _ at = is.ruled.known.each j u at

  true_view : (b : Book) (a : Option (Start K)) (p : CoreSeat) (seen : List (Entry C R)) (n : ℕ)
      → ((o : Start K) → a ≡ Some o → o ≡ m.start) → Follows p.numbers seen b.entries
      → ((t : ℕ) → Holds t p.phase → (seen ≡ b.entries) × (n ≡ b.refused)) → IsTrueView m.start b (view a p seen n)
  true_view b a p seen n start_is follows out = record {
    start_is = start_is;
    seen = follows;
    one = follows_none b.entries;
    two = follows_none b.entries;
    within = λ m. omega arith;
    out = out;
  }

  -- the view of a seat that doesn't hold
  true_idle : (p : CoreSeat) (seen : List (Entry C R)) → Follows p.numbers seen m.core.book.entries → holder_count_of p.phase ≡ 0
      → IsTrueView m.start m.core.book (view m.me.0.start p seen 0)
  true_idle p seen follows idle = true_view m.core.book m.me.0.start p seen 0 true_here.start_is follows (λ t h. absurd (omega (arith, h.0, idle)))

  -- the view of a seat that has this book of the core, or has put it back
  true_with_book : (b : Book) (p : CoreSeat) (book : K) (n : ℕ) → IsBook k m.start b book → ((t : ℕ) → Holds t p.phase → n ≡ k.refusals book)
      → IsTrueView m.start b (view m.me.0.start p (k.history book) n)
  true_with_book b p book n is_book refused = true_view b m.me.0.start p (k.history book) n true_here.start_is
      (follows_whole p.numbers (k.history book) b.entries is_book.entries) (λ t h. (is_book.entries, refused t h ∙ is_book.refused))

  true_set : (b : Book) (vs : List V) (i : ℕ) (w : V) → IsTrueView m.start b w
      → ((j : ℕ) (v : V) → j ≢ i → get_elem? vs j ≡ some v → IsTrueView m.start b v)
      → (j : ℕ) (v : V) → get_elem? (set vs i w) j ≡ some v → IsTrueView m.start b v
  true_set b vs i w mine others j v e = ⊎_elim (λ (t : (j ≡ i) × (w ≡ v)). subst (IsTrueView m.start b) t.1 mine)
      (λ (t : (j ≢ i) × (get_elem? vs j ≡ some v)). others j v t.0 t.1) (at_set vs i j w v e)

  -- the slot stays as it was if as many seats hold as before
  slot_stays : (seats : List CoreSeat) (next : ℕ) (words : List ℕ) (views : List V) → holders seats ≡ holders m.core.seats
      → IsSlotOf k m.start (core_state next m.core.served seats m.core.book) record { words = words; homes = m.table.homes; views = views }
  slot_stays seats next words views same = record {
    one_slot = is.ruled.slot.one_slot;
    home = λ e. is.ruled.slot.home (sym same ∙ e);
    away = λ h. is.ruled.slot.away (omega (arith, h, same));
  }

  -- a table of the same lock to which this one event leads
  event_to : (h : Happening C R) (d : Core) (s : State (Option K) V) → Moves k m.start.draws m.core h d
      → AreWordsOf d.next d.served (k.board d.book.state) s.words → d.seats ≡ map seat_in s.views → IsSlotOf k m.start d s
      → ((j : ℕ) (v : V) → get_elem? s.views j ≡ some v → IsTrueView m.start d.book v) → IsOneEvent k m h s
  event_to h d s move words seats slot each = (
    d,
    move,
    record {
      nonempty_numbers = is.ruled.nonempty_numbers;
      bounded_numbers = is.ruled.bounded_numbers;
      bounded_draws = is.ruled.bounded_draws;
      words = record { words = words; seats = seats; leads = leads_more k m.start.draws _ m.core d m.happenings h is.ruled.words.leads move };
      slot = slot;
      known = record { each = each };
    },
  )

  -- the same, if only the seat that makes the step has another view
  seat_event : (h : Happening C R) (d : Core) (words : List ℕ) (homes : Homes) (w : V) → Moves k m.start.draws m.core h d
      → AreWordsOf d.next d.served (k.board d.book.state) words → d.seats ≡ set m.core.seats m.id w.seat
      → IsSlotOf k m.start d record { words = words; homes = homes; views = set m.table.views m.id w } → IsTrueView m.start d.book w
      → ((j : ℕ) (u : V) → j ≢ m.id → get_elem? m.table.views j ≡ some u → IsTrueView m.start d.book u)
      → IsOneEvent k m h record { words = words; homes = homes; views = set m.table.views m.id w }
  seat_event h d words homes w move are seats slot mine others = event_to h d _ move are
      (seats ∙ (ap (λ (l : List CoreSeat). set l m.id w.seat) is.ruled.words.seats ∙ sym (map-set seat_in m.table.views m.id w)))
      slot (true_set d.book m.table.views m.id w mine others)

  pub draw_event : IsReady k m draw → IsEventOf k m draw (table_after k m draw)
  draw_event ready =
      let p : CoreSeat = waiting_seat m.core.next m.me.0.seat in
      let up : (get_or m.table.words next_word 0 + 1) % 18446744073709551616 ≡ m.core.next + 1 = omega (arith, next_is, next_small) in
      seat_event (event.drew m.me.0.seat.own m.core.next) (core_state (m.core.next + 1) m.core.served (set m.core.seats m.id p) m.core.book) _ _
      (view_after k m draw) (m.id, m.me.0.seat, (seat_here, refl, ready.0), ready.1, refl, refl)
      (subst (λ (n : ℕ). AreWordsOf (m.core.next + 1) m.core.served (k.board m.core.book.state) (set m.table.words next_word n)) (sym up)
      (next_raised m.core.next m.core.served (k.board m.core.book.state) m.table.words is.ruled.words.words (m.core.next + 1))) refl
      (slot_stays _ _ _ _ (omega (arith, total-set holds m.core.seats m.id m.me.0.seat p seat_here, ap holder_count_of ready.0)))
      (true_idle p m.me.0.seen true_here.seen refl) others_true

  -- a load after which the seat is the same in the core leaves the core state as it was
  load_same : (hs : List (Happening C R)) (word : ℕ) (w : V) → Leads k m.start.draws opening_state hs m.core → w.seat ≡ m.me.0.seat
      → IsTrueView m.start m.core.book w
      → IsTableOf k m.start hs m.core (stepped m.table word (get_or m.table.words word 0) m.id m.me.1 w keeps)
  load_same hs word w leads same mine = record {
    nonempty_numbers = is.ruled.nonempty_numbers;
    bounded_numbers = is.ruled.bounded_numbers;
    bounded_draws = is.ruled.bounded_draws;
    words = record {
      words = subst (AreWordsOf m.core.next m.core.served (k.board m.core.book.state)) (sym (set-get_or m.table.words word 0)) is.ruled.words.words;
      seats = is.ruled.words.seats ∙ sym (map-set seat_in m.table.views m.id w ∙ (ap (set (map seat_in m.table.views) m.id) same
          ∙ set_again (map seat_in m.table.views) m.id m.me.0.seat (at_map seat_in m.table.views m.id m.me.0 is.there)));
      leads = leads;
    };
    slot = slot_stays m.core.seats m.core.next _ _ refl;
    known = record { each = true_set m.core.book m.table.views m.id w mine others_true };
  }

  -- the same as an event that leaves the core state
  load_event : (h : Happening C R) (word : ℕ) (w : V) → Moves k m.start.draws m.core h m.core → w.seat ≡ m.me.0.seat
      → IsTrueView m.start m.core.book w → IsOneEvent k m h (stepped m.table word (get_or m.table.words word 0) m.id m.me.1 w keeps)
  load_event h word w move same mine =
      (m.core, move, load_same _ word w (leads_more k m.start.draws opening_state m.core m.core m.happenings h is.ruled.words.leads move) same mine)

  pub wait_event : (ticket : ℕ) → IsReady k m (look_waits ticket) → IsEventOf k m (look_waits ticket) (table_after k m (look_waits ticket))
  wait_event ticket ready = load_event (event.waited m.me.0.seat.own) (grant_word ticket) m.me.0
      (m.id, m.me.0.seat, ticket, (seat_here, refl, ready.0), ready.1, refl) refl true_here

  -- the book is at home when a ticket is served, and it is the core's
  pub book_home : m.me.0.seat.phase ≡ Waiting m.core.served → (book : K) × IsInSlot m.table book × IsBook k m.start m.core.book book
  book_home waits = is.ruled.slot.home (no_holder m.start.numbers m.start.draws m.core lawful m.id m.me.0.seat seat_here waits)

  pub home_is : (book : K) → m.me.0.seat.phase ≡ Waiting m.core.served → IsInSlot m.table book → IsBook k m.start m.core.book book
  home_is book waits at =
      let t = book_home waits in
      let same : t.0 ≡ book = ap (λ (o : Option K). unwrap_or o book) (some-injective _ _ (some-injective _ _ (sym t.1 ∙ at))) in
      subst (IsBook k m.start m.core.book) same t.2

  pub look_event : (book : K) → IsReady k m (look_held book) → IsEventOf k m (look_held book) (table_after k m (look_held book))
  look_event book ready =
      let p : CoreSeat = holding_seat m.core.served m.me.0.seat in
      seat_event (event.held m.me.0.seat.own) (with_seats m.core (set m.core.seats m.id p)) _ _ (view_after k m (look_held book))
      (m.id, m.me.0.seat, (seat_here, refl, ready.0), refl)
      (subst (AreWordsOf m.core.next m.core.served (k.board m.core.book.state)) (sym (set-get_or m.table.words (grant_word m.core.served) 0))
      is.ruled.words.words) refl
      record {
        one_slot = length-set m.table.homes 0 none ∙ is.ruled.slot.one_slot;
        home = λ e. absurd (omega (arith, e, total-set holds m.core.seats m.id m.me.0.seat p seat_here, ap holder_count_of ready.0));
        away = λ _. set_here m.table.homes 0 none (omega (arith, is.ruled.slot.one_slot));
      }
      (true_with_book m.core.book p book _ (home_is book ready.0 ready.1) (λ t h. refl)) others_true

  -- the views of the other seats stay true if a holder adds only entries of its own number
  others_know : (ticket : ℕ) (b : Book) (zs : List (Entry C R)) → Holds ticket m.me.0.seat.phase → b.entries ≡ m.core.book.entries ++ zs
      → ((n : ℕ) → m.me.0.seat.own ≢ n → of n b.entries ≡ of n m.core.book.entries)
      → (j : ℕ) (u : V) → j ≢ m.id → get_elem? m.table.views j ≡ some u → IsTrueView m.start b u
  others_know ticket b zs holder more others j u other e =
      let there = seat_at j u e in
      let own_in : 0 < occurrences m.me.0.seat.own m.me.0.seat.numbers =
      (lawful.each m.id m.me.0.seat seat_here).own (holder_there m.me.0.seat.phase holder.0) in
      let ticket_here : occurrences m.core.served (tickets_of m.me.0.seat.phase) ≡ 1 = tickets_holding m.core.served ticket m.me.0.seat holder
      ∙ (ap (λ (n : ℕ). occurrences m.core.served (n ∷ [])) ((lawful.each m.id m.me.0.seat seat_here).holder ticket holder)
      ∙ occurrences-same m.core.served []) in
      let known = is.ruled.known.each j u e in
      let still : (p : ℕ) → 0 < occurrences p u.seat.numbers → of p b.entries ≡ of p m.core.book.entries = λ p has. others p (λ same. omega (
        arith,
        own_in,
        ap (λ (n : ℕ). occurrences n u.seat.numbers) same,
        has,
        lawful.numbered m.me.0.seat.own,
        below_le m.me.0.seat.own m.start.numbers,
        terms_le (λ (q : CoreSeat). occurrences m.me.0.seat.own q.numbers) m.core.seats m.id j m.me.0.seat u.seat other seat_here there,
      )) in record {
        start_is = known.start_is;
        seen = follows_later u.seat.numbers u.seen m.core.book.entries b.entries zs known.seen more still;
        one = follows_later u.one.numbers u.one.seen m.core.book.entries b.entries zs known.one more (λ p has. still p (omega (arith, has, known.within p)));
        two = follows_later u.two.numbers u.two.seen m.core.book.entries b.entries zs known.two more (λ p has. still p (omega (arith, has, known.within p)));
        within = known.within;
        out = λ t h. absurd (omega (
          arith,
          sole m.start.numbers m.start.draws m.core lawful m.id j m.me.0.seat u.seat seat_here ticket_here other there,
          tickets_holding m.core.served t u.seat h,
          ap (λ (n : ℕ). occurrences m.core.served (n ∷ [])) ((lawful.each j u.seat there).holder t h),
          occurrences-same m.core.served [],
        ));
      }

  -- a book of the core after a holder's call: it has the entries of the one that was handed out, and then entries of the holder's number only
  record IsLater (b : Book) (book : K) : Type 0 where
    pub is_book : IsBook k m.start b book
    pub zs : List (Entry C R)
    pub more : b.entries ≡ m.core.book.entries ++ zs
    pub others : (n : ℕ) → m.me.0.seat.own ≢ n → of n b.entries ≡ of n m.core.book.entries

  later_entry : (call : C) (book : K) → IsBook k m.start (with_entry k.step m.me.0.seat.own call m.core.book) book
      → IsLater (with_entry k.step m.me.0.seat.own call m.core.book) book
  later_entry call book is_book = record {
    is_book = is_book;
    zs = _;
    more = refl;
    others = λ n ne. of-other n m.core.book.entries (entry m.me.0.seat.own call (k.step m.core.book.state call).1) ne;
  }

  -- a book without another entry
  later_same : (b : Book) (book : K) → IsBook k m.start b book → b.entries ≡ m.core.book.entries → IsLater b book
  later_same b book is_book same =
      record { is_book = is_book; zs = []; more = same ∙ sym (append-nil m.core.book.entries); others = λ n ne. ap (of n) same }

  -- the holder posts
  post_to : (ticket place : ℕ) (book : K) (h : Happening C R) (b : Book) → m.me.0.seat.phase ≡ Holding ticket → IsLater b book
      → Moves k m.start.draws m.core h (after_post m.core m.id ticket m.me.0.seat b)
      → k.board b.state ≡ set (k.board m.core.book.state) place (word_in k book place) → IsOneEvent k m h (table_after k m (post ticket place book))
  post_to ticket place book h b holding later move shows =
      let holder = holding_holds ticket m.me.0.seat.phase holding in
      let p : CoreSeat = posted_seat ticket m.me.0.seat in
      let as_many : holders (set m.core.seats m.id p) ≡ holders m.core.seats =
      omega (arith, total-set holds m.core.seats m.id m.me.0.seat p seat_here, holder.0) in
      seat_event h (after_post m.core m.id ticket m.me.0.seat b) _ _ (view_after k m (post ticket place book)) move
      (subst (λ (q : List ℕ). AreWordsOf m.core.next m.core.served q (set m.table.words (board_word place) (word_in k book place))) (sym shows)
      (board_stored m.core.next m.core.served (k.board m.core.book.state) m.table.words is.ruled.words.words place (word_in k book place))) refl
      record {
        one_slot = is.ruled.slot.one_slot;
        home = λ e. absurd (omega (arith, e, as_many, term_le holds m.core.seats m.id m.me.0.seat seat_here, holder.0));
        away = λ e. is.ruled.slot.away (omega (arith, e, as_many));
      }
      (true_with_book b p book _ later.is_book (λ t h. refl)) (others_know ticket b later.zs holder later.more later.others)

  -- the holder leaves, and the book is home again
  leave_to : (posted : Bool) (ticket : ℕ) (book : K) (h : Happening C R) (b : Book) → Holds ticket m.me.0.seat.phase → m.me.1 ≡ (0, Some book) ∷ []
      → IsLater b book → Moves k m.start.draws m.core h (after_leave m.core m.id m.me.0.seat b) → k.board b.state ≡ k.board m.core.book.state
      → IsOneEvent k m h (table_after k m (leave posted ticket book))
  leave_to posted ticket book h b holder carries later move shows =
      let served : m.core.served ≡ ticket = sym ((lawful.each m.id m.me.0.seat seat_here).holder ticket holder) in
      let p : CoreSeat = seat_after_leave m.me.0.seat in
      let here : put_back m.table.homes m.me.1 ≡ set m.table.homes 0 (some (Some book)) = ap (put_back m.table.homes) carries in
      seat_event h (after_leave m.core m.id m.me.0.seat b) _ _ (view_after k m (leave posted ticket book)) move
      (subst (λ (n : ℕ). AreWordsOf m.core.next (m.core.served + 1) (k.board b.state) (set m.table.words (grant_word (n + 1)) (n + 1))) served
      (subst (λ (q : List ℕ). AreWordsOf m.core.next (m.core.served + 1) q (set m.table.words (grant_word (m.core.served + 1)) (m.core.served + 1)))
      (sym shows) (next_granted m.core.next m.core.served (k.board m.core.book.state) m.table.words is.ruled.words.words))) refl
      record {
        one_slot = ap length here ∙ (length-set m.table.homes 0 (some (Some book)) ∙ is.ruled.slot.one_slot);
        home = λ _. (
          book,
          ap (λ (q : Homes). get_elem? q 0) here ∙ set_here m.table.homes 0 (some (Some book)) (omega (arith, is.ruled.slot.one_slot)),
          later.is_book,
        );
        away = λ e. absurd (omega (
          arith,
          e,
          total-set holds m.core.seats m.id m.me.0.seat p seat_here,
          holder.0,
          one_holder m.start.numbers m.start.draws m.core lawful,
        ));
      }
      (true_with_book b p book 0 later.is_book (λ t e. absurd (omega (arith, e.0)))) (others_know ticket b later.zs holder later.more later.others)

  -- a book that comes back from a holder has its call as the core's book has it: recorded with the step's reply, or refused
  returned_book : AreLaws k → (ticket : ℕ) (place : Option ℕ) (book : K) → Holds ticket m.me.0.seat.phase
      → IsBookAfterCall k m.start m.me.0.seat.own m.me.0.seen m.me.0.refused place book
      → ((call : C) × (reply : R) × (reply ≡ (k.step m.core.book.state call).1) × (k.posts_at m.core.book.state call ≡ place)
      × IsBook k m.start (with_entry k.step m.me.0.seat.own call m.core.book) book) ⊎ IsBook k m.start (with_refusal m.core.book) book
  returned_book laws ticket place book holder ret =
      let out = true_here.out ticket holder in
      ⊎_elim
      (λ (t : (e : Entry C R) × (e.pass ≡ m.me.0.seat.own) × (k.history book ≡ m.me.0.seen ++ e ∷ []) × (k.refusals book ≡ m.me.0.refused)
      × (place_after k m.start m.me.0.seen e.call ≡ place)).
      let e : Entry C R = t.0 in
      let grown : k.history book ≡ m.core.book.entries ++ e ∷ [] = t.2 ∙ ap (λ (q : List (Entry C R)). q ++ e ∷ []) out.0 in
      let legal_here : IsLegal k.step (k.opening m.start.book) (m.core.book.entries ++ e ∷ []) = subst (IsLegal k.step (k.opening m.start.book)) grown
      (subst (λ (z : k.State). IsLegal k.step z (k.history book)) ret.opening (laws.legal book)) in
      let answer : e.reply ≡ (k.step m.core.book.state e.call).1 =
      legal-last-reply k.step (k.opening m.start.book) m.core.book.entries e legal_here
      ∙ ap (λ (z : k.State). (k.step z e.call).1) (sym lawful_book.replayed) in
      let same : e ≡ entry m.me.0.seat.own e.call (k.step m.core.book.state e.call).1 = λ i. record { pass = t.1 i; call = e.call; reply = answer i } in
      inl (
        e.call,
        e.reply,
        answer,
        ap (λ (z : k.State). k.posts_at z e.call) (lawful_book.replayed ∙ ap (replay k.step (k.opening m.start.book)) (sym out.0)) ∙ t.4,
        record {
          opening = ret.opening;
          entries = grown ∙ ap (λ (z : Entry C R). m.core.book.entries ++ z ∷ []) same;
          refused = t.3 ∙ out.1;
        },
      ))
      (λ (t : (k.history book ≡ m.me.0.seen) × (k.refusals book ≡ m.me.0.refused + 1)).
      inr record { opening = ret.opening; entries = t.0 ∙ out.0; refused = t.1 ∙ ap (λ (n : ℕ). n + 1) out.1 })
      ret.more

  -- the word that the holder posts is that of the core's book after its call
  word_posted : AreLaws k → (place : ℕ) (b : Book) (book : K) → IsLawfulBook k.step (k.opening m.start.book) b → IsBook k m.start b book
      → k.board b.state ≡ set (k.board m.core.book.state) place (get_or (k.board b.state) place 0)
      → k.board b.state ≡ set (k.board m.core.book.state) place (word_in k book place)
  word_posted laws place b book legal is_book = subst (λ (z : k.State). k.board b.state ≡ set (k.board m.core.book.state) place (get_or (k.board z) place 0))
      (sym (state_is k laws m.start b book legal is_book))

  -- it is the holder's own number whose call was posted, or was refused
  pub post_event : AreLaws k → (ticket place : ℕ) (book : K) → IsReady k m (post ticket place book)
      → IsEventOf k m (post ticket place book) (table_after k m (post ticket place book))
  post_event laws ticket place book ready =
      let own : ℕ = m.me.0.seat.own in
      ⊎_elim
      (λ (t : (call : C) × (reply : R) × (reply ≡ (k.step m.core.book.state call).1) × (k.posts_at m.core.book.state call ≡ Some place)
      × IsBook k m.start (with_entry k.step own call m.core.book) book). (
        event.posted own t.0 t.1,
        inl (t.0, t.1, refl),
        post_to ticket place book _ (with_entry k.step own t.0 m.core.book) ready.0 (later_entry t.0 book t.4)
            (m.id, m.me.0.seat, ticket, (seat_here, refl, ready.0), t.2, refl, (place, t.3))
            (word_posted laws place _ book (lawful_entry k.step (k.opening m.start.book) own t.0 m.core.book lawful_book) t.4
            (laws.posted m.core.book.state t.0 place t.3)),
      ))
      (λ (t : IsBook k m.start (with_refusal m.core.book) book). (
        event.post_refused own,
        inr refl,
        post_to ticket place book _ (with_refusal m.core.book) ready.0 (later_same _ book t refl)
            (m.id, m.me.0.seat, ticket, (seat_here, refl, ready.0), refl)
            (word_posted laws place _ book (lawful_refusal k.step (k.opening m.start.book) m.core.book lawful_book) t
            (sym (set-get_or (k.board m.core.book.state) place 0))),
      ))
      (returned_book laws ticket (Some place) book (holding_holds ticket m.me.0.seat.phase ready.0) ready.1)

  -- a holder that has posted leaves, and the book that it posted is home; one that hasn't leaves with its call, recorded or refused
  pub leave_event : AreLaws k → (posted : Bool) (ticket : ℕ) (book : K) → IsReady k m (leave posted ticket book)
      → IsEventOf k m (leave posted ticket book) (table_after k m (leave posted ticket book))
  leave_event laws true ticket book ready =
      let holder = posted_holds ticket m.me.0.seat.phase ready.0 in
      let out = true_here.out ticket holder in
      leave_to true ticket book (event.left_posted m.me.0.seat.own) m.core.book holder ready.1
      (later_same m.core.book book record {
        opening = ready.2.opening;
        entries = ready.2.entries ∙ out.0;
        refused = ready.2.refused_is ∙ out.1;
      } refl)
      (m.id, m.me.0.seat, ticket, (seat_here, refl, ready.0), refl) refl
  leave_event laws false ticket book ready =
      let own : ℕ = m.me.0.seat.own in
      let holder = holding_holds ticket m.me.0.seat.phase ready.0 in
      ⊎_elim
      (λ (t : (call : C) × (reply : R) × (reply ≡ (k.step m.core.book.state call).1) × (k.posts_at m.core.book.state call ≡ None)
      × IsBook k m.start (with_entry k.step own call m.core.book) book). (
        event.recorded own t.0 t.1,
        inl (t.0, t.1, refl),
        leave_to false ticket book _ (with_entry k.step own t.0 m.core.book) holder ready.1 (later_entry t.0 book t.4)
            (m.id, m.me.0.seat, ticket, (seat_here, refl, ready.0), t.2, refl, t.3) (laws.unposted m.core.book.state t.0 t.3),
      ))
      (λ (t : IsBook k m.start (with_refusal m.core.book) book). (
        event.refused own,
        inr refl,
        leave_to false ticket book _ (with_refusal m.core.book) holder ready.1 (later_same _ book t refl)
            (m.id, m.me.0.seat, ticket, (seat_here, refl, ready.0), refl) refl,
      ))
      (returned_book laws ticket None book holder ready.2)

  pub split_event : (count : ℕ) → IsReady k m (split count) → IsEventOf k m (split count) (table_after k m (split count))
  split_event count ready =
      let v : V = m.me.0 in
      let n : ℕ = length v.seat.numbers - count in
      let a : V = view_after_split count v in
      let b : V = split_view count v in
      let draws : draws_in v.start ≡ m.start.draws = ap draws_in ready.0 in
      let p : CoreSeat = seat_after_split m.start.draws count v.seat in
      let q : CoreSeat = other_seat m.start.draws count v.seat in
      let views : map seat_in (set m.table.views m.id a ++ b ∷ []) ≡ set (map seat_in m.table.views) m.id p ++ q ∷ [] =
      map-append seat_in (set m.table.views m.id a) (b ∷ []) ∙ (ap (λ (l : List CoreSeat). l ++ b.seat ∷ []) (map-set seat_in m.table.views m.id a)
      ∙ (λ i. set (map seat_in m.table.views) m.id (seat_after_split (draws i) count v.seat) ++ other_seat (draws i) count v.seat ∷ [])) in
      let fewer : (ms : List ℕ) → ((x : ℕ) → occurrences x ms ≤ occurrences x v.seat.numbers) → Follows ms v.seen m.core.book.entries =
      λ ms le. follows_fewer ms v.seat.numbers v.seen m.core.book.entries true_here.seen (λ x has. omega (arith, has, le x)) in
      let sums : (x : ℕ) → occurrences x (take n v.seat.numbers) + occurrences x (drop n v.seat.numbers) ≡ occurrences x v.seat.numbers =
      λ x. occurrences-take-drop x n v.seat.numbers in
      let mine = true_set m.core.book m.table.views m.id a (true_idle a.seat v.seen (fewer _ (λ x. omega (arith, sums x))) refl) others_true in
      event_to (event.split v.seat.own count) (with_seats m.core (set m.core.seats m.id p ++ q ∷ [])) _
      (m.id, v.seat, (seat_here, refl, ready.1), ready.2, ready.3, ready.4, refl) is.ruled.words.words
      (ap (λ (l : List CoreSeat). set l m.id p ++ q ∷ []) is.ruled.words.seats ∙ sym views)
      (slot_stays _ _ _ _ (omega (
        arith,
        total-append holds (set m.core.seats m.id p) (q ∷ []),
        total-set holds m.core.seats m.id v.seat p seat_here,
        ap holder_count_of ready.1,
      )))
      (λ j u e. ⊎_elim (λ (t : get_elem? (set m.table.views m.id a) j ≡ some u). mine j u t)
      (λ (t : b ≡ u). subst (IsTrueView m.start m.core.book) t (true_idle b.seat v.seen (fewer _ (λ x. omega (arith, sums x))) refl))
      (at_snoc (set m.table.views m.id a) b u j e))

  pub gather_event : (other : ℕ) (w : V) → IsReady k m (gather other w) → IsEventOf k m (gather other w) (table_after k m (gather other w))
  gather_event other w ready =
      let v : V = m.me.0 in
      let x : V = gathered_view v w in
      let there = seat_at other w ready.2 in
      let old = is.ruled.known.each other w ready.2 in
      let names : v.seat.own ≢ w.seat.own = λ e. ready.1 (named_once m.start.numbers m.start.draws m.core lawful m.id other v.seat w.seat seat_here there
      (ap is_present ready.0) (ap is_present ready.3) e) in
      event_to (event.gathered v.seat.own w.seat.own) (with_seats m.core (set (set m.core.seats m.id x.seat) other gone_seat)) _
      (m.id, v.seat, other, w.seat, (seat_here, refl, ready.0), (there, refl, ready.3), names, refl) is.ruled.words.words
      (ap (λ (q : List CoreSeat). set (set q m.id x.seat) other gone_seat) is.ruled.words.seats
      ∙ sym (map-set seat_in (set m.table.views m.id x) other spent_view
      ∙ ap (λ (q : List CoreSeat). set q other gone_seat) (map-set seat_in m.table.views m.id x)))
      (slot_stays _ _ _ _ (omega (
        arith,
        total-set holds (set m.core.seats m.id x.seat) other w.seat gone_seat (set_else m.core.seats m.id other x.seat ready.1 ∙ there),
        total-set holds m.core.seats m.id v.seat x.seat seat_here,
        ap holder_count_of ready.0,
        ap holder_count_of ready.3,
      )))
      (true_set m.core.book (set m.table.views m.id x) other spent_view
      (true_view m.core.book None gone_seat [] 0 (λ o e. absurd (cc)) (follows_none m.core.book.entries) (λ t e. absurd (omega (arith, e.0))))
      (λ j u _ e. true_set m.core.book m.table.views m.id x record {
        start_is = true_here.start_is;
        seen = longer_of v.seat.numbers w.seat.numbers v.seen w.seen m.core.book.entries true_here.seen old.seen;
        one = true_here.seen;
        two = old.seen;
        within = λ y. omega (arith, occurrences-append y v.seat.numbers w.seat.numbers);
        out = λ t h. absurd (omega (arith, h.0));
      } others_true j u e))

  -- the second load of a gather is no event
  pub second_load_same : IsReady k m second_load → IsEventOf k m second_load (table_after k m second_load)
  second_load_same idle = load_same m.happenings next_word (view_after k m second_load) is.ruled.words.leads refl
      (true_idle m.me.0.seat m.me.0.seen true_here.seen (ap holder_count_of idle))

  pub glance_event : AreLaws k → (place : ℕ) → IsReady k m (glance place) → IsEventOf k m (glance place) (table_after k m (glance place))
  glance_event laws place ready =
      let many : length (k.board m.core.book.state) ≡ length (k.board (k.opening m.start.book)) =
      ap (λ (z : k.State). length (k.board z)) lawful_book.replayed ∙ as_many k laws (k.opening m.start.book) m.core.book.entries in
      load_event _ (board_word place) (view_after k m (glance place))
      (m.id, m.me.0.seat, (seat_here, refl, ready.0), omega (arith, ready.1, many), board_is place, refl) refl
      (true_idle m.me.0.seat m.core.book.entries (follows_whole m.me.0.seat.numbers m.core.book.entries m.core.book.entries refl)
      (ap holder_count_of ready.0))

  -- each kind of step
  pub event_of : AreLaws k → (kind : Kind K C R) → IsReady k m kind → IsEventOf k m kind (table_after k m kind)
  event_of laws (split count) ready = split_event count ready
  event_of laws draw ready = draw_event ready
  event_of laws (look_held book) ready = look_event book ready
  event_of laws (look_waits ticket) ready = wait_event ticket ready
  event_of laws (post ticket place book) ready = post_event laws ticket place book ready
  event_of laws (leave posted ticket book) ready = leave_event laws posted ticket book ready
  event_of laws (gather other w) ready = gather_event other w ready
  event_of laws second_load ready = second_load_same ready
  event_of laws (glance place) ready = glance_event laws place ready
