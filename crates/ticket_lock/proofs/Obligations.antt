-- The obligations of calls to the table: each step keeps the rule, and its fact holds.
use Rattle.std.proofs.Common.{◌≡◌, ℕ, suc, ◌+◌, ◌%◌, ◌<◌, ◌≤◌, List, [], ◌∷◌, ◌++◌, length, get_or, sym, refl, ap, ◌∙◌, subst, ⊎_elim, arith}
use Rattle.std.proofs.Common.{Option, Some, None, Bool, true, false, cond}
use mathlib.Core.Logic.{dite}
use native.Mathlib.Decide.{ℕ_discrete, dec_le}
use mathlib.Core.Option.{some, none, some-ne-none}
use lib.ListN.{get_elem?}
use Rattle.atomic_table.specs.Table.{State, Me, Step, Act, step, keeps, takes, gives, Allows, Splits, Joins, opening as opens, stepped, carried_after, Valid}
use Rattle.ticket_steps.specs.declared.books.Entry.{Entry}
use Rattle.ticket_steps.specs.declared.books.Kept.{Ghosts}
use Rattle.ticket_steps.specs.declared.seats.CoreSeat.{CoreSeat}
use Rattle.ticket_steps.specs.declared.seats.Phase.TheVariants.{Idle, Waiting, Holding, Posted}
use Rattle.ticket_steps.specs.Books.{empty_book}
use Rattle.ticket_steps.specs.CoreStates.{opening_core}
use Rattle.ticket_steps.specs.Happenings.{Happening}
use Rattle.ticket_steps.specs.History.{of}
use Rattle.ticket_steps.specs.Seats.{Holds, holder_count_of, tickets_of}
use Rattle.ticket_steps.specs.Sums.{total, occurrences}
use Rattle.ticket_steps.proofs.Lists.{at_snoc, set_else}
use Rattle.ticket_steps.proofs.SeatLemmas.{holds, alone, busy, holder_le, unnumbered_calls, holding_holds, posted_holds, taken_at_home}
use Rattle.ticket_steps.proofs.SumLemmas.{times_le, below_yes}
use Rattle.ticket_lock.specs.declared.views.Start.{Start}
use Rattle.ticket_lock.specs.declared.views.View.{View}
use Rattle.ticket_lock.specs.Boards.{board_length}
use Rattle.ticket_lock.specs.Endings.{EndsSchedule}
use Rattle.ticket_lock.specs.GhostSteps.{DrawFact, LookFact, PostFact, LeaveFact, SecondLoadFact, GlanceFact}
use Rattle.ticket_lock.specs.Histories.{IsTrueView}
use Rattle.ticket_lock.specs.Kinds.{draw, look_held, post, leave, glance, second_load, view_after, table_after, IsReady}
use Rattle.ticket_lock.specs.Layout.{first_words, grant_word, board_word, next_word}
use Rattle.ticket_lock.specs.Rule.{IsTableOf, ObeysRule}
use Rattle.ticket_lock.specs.Steps.{TableMoment, IsTableMoment, IsOneEvent, IsBookAfterCall, IsBookAfterPost, word_in}
use Rattle.ticket_lock.specs.Views.{spent_view, first_view, view_after_split, split_view, gathered_view}
use Rattle.ticket_lock.proofs.BoardLemmas.{AreLaws}
use Rattle.ticket_lock.proofs.Events.{lawful, seat_here, true_here, strangers_none, book_home, draw_event, wait_event, look_event, post_event, leave_event}
use Rattle.ticket_lock.proofs.Events.{split_event, gather_event, second_load_same, glance_event}
use Rattle.ticket_lock.proofs.Facts.{ends_schedule, draw_fact, look_held_fact, look_waits_fact, post_fact, leave_fact, glance_fact, second_load_fact}
use Rattle.ticket_lock.proofs.WordLemmas.{words_opened}
use Rattle.ticket_lock.proofs.HistoryLemmas.{follows_self, all_seen, empty_before}

module _ {K C R : Type 0} (k : Ghosts K C R) (start : Start K) where
  abbrev V : Type 0
  V = View K C R

  abbrev Table : Type 0
  Table = State (Option K) V

  abbrev Seat : Type 0
  Seat = Me (Option K) V

  abbrev Moment : Type 0
  Moment = TableMoment K k.State C R

  abbrev Rule : Table → Type 0
  Rule s = ObeysRule k start s

  -- the table as it is made is that of the core's opening
  pub opens_with : (book : K) → k.opening book ≡ (k.opening start.book) → k.history book ≡ [] → k.refusals book ≡ 0 → 0 < start.numbers
      → start.numbers ≤ 1024 → start.draws ≤ 4294967295
      → IsTableOf k start [] (opening_core start.numbers start.draws (k.opening start.book))
      (opens (first_words (k.board (k.opening start.book))) (Some book ∷ []) (first_view start))
  opens_with book state none_kept none_refused nonempty_numbers bounded bounded_draws =
      record {
        nonempty_numbers = nonempty_numbers;
        bounded_numbers = bounded;
        bounded_draws = bounded_draws;
        words = record { words = words_opened (k.board (k.opening start.book)); seats = refl; leads = refl };
        slot =
            record {
              one_slot = refl;
              home = λ _. (book, refl, record { opening = state; entries = none_kept; refused = none_refused });
              away = λ h. absurd (omega (arith, h));
            };
        known = record {
          each = λ j v e. ⊎_elim (λ t. absurd (some-ne-none v (sym t)))
              (λ t. subst (λ (w : V). IsTrueView {S = k.State} start (empty_book (k.opening start.book)) w) t record {
                start_is = λ o e'. cc;
                seen = follows_self _ [];
                one = follows_self [] [];
                two = follows_self [] [];
                within = λ n. omega arith;
                out = λ t' e'. absurd (omega (arith, e'.0));
              }) (at_snoc [] (first_view start) v j e);
        };
      }

  pub starts : (book : K) → k.opening book ≡ (k.opening start.book) → k.history book ≡ [] → k.refusals book ≡ 0 → 0 < start.numbers
      → start.numbers ≤ 1024 → start.draws ≤ 4294967295
      → Rule (opens (first_words (k.board (k.opening start.book))) (Some book ∷ []) (first_view start))
  starts book state none_kept none_refused nonempty_numbers bounded bounded_draws =
      ([], opening_core start.numbers start.draws (k.opening start.book), opens_with book state none_kept none_refused nonempty_numbers bounded bounded_draws)

  -- the moment of a table that obeys the rule
  abbrev moment : (s : Table) → Rule s → ℕ → Seat → Moment
  moment s r id me = record { start = start; happenings = r.0; core = r.1; table = s; id = id; me = me }

  is_moment : (s : Table) (r : Rule s) (id : ℕ) (me : Seat) → get_elem? s.views id ≡ some me.0 → IsTableMoment k (moment s r id me)
  is_moment s r id me at = record { ruled = r.2; there = at }

  -- the table after an event obeys it
  obeys : (m : Moment) (h : Happening C R) (s : Table) → IsOneEvent k m h s → ObeysRule k m.start s
  obeys m h s e = (m.happenings ++ h ∷ [], e.0, e.2)

  pub draws : (n id : ℕ) (me : Seat) → me.0.seat.phase ≡ Idle → 0 < me.0.seat.left
      → Allows Rule n id me next_word (λ x. (x + 1) % 18446744073709551616) (DrawFact (step n next_word 1 0 none) me)
  draws n id me idle has_left s r wide at small =
      let m = moment s r id me in
      let is = is_moment s r id me at in
      (view_after k m draw, keeps, tt, obeys m _ _ (draw_event k m is (idle, has_left)), draw_fact k m is (step n next_word 1 0 none))

  -- the obligation of a look at the word that this ticket watches
  abbrev LookAllowed : Moment → Step (Option K) → ℕ → Type 0
  LookAllowed m st t = (w : V) × (a : Act (Option K)) × Valid m.table.homes m.me.1 a
      × ObeysRule k m.start (stepped m.table (grant_word t) (get_or m.table.words (grant_word t) 0) m.id m.me.1 w a)
      × LookFact k st m.me (get_or m.table.words (grant_word t) 0) (w, carried_after m.me.1 a)

  look_held_allowed : AreLaws k → (m : Moment) → IsTableMoment k m → (st : Step (Option K)) → m.me.0.seat.phase ≡ Waiting m.core.served → m.me.1 ≡ []
      → LookAllowed m st m.core.served
  look_held_allowed laws m is st waits bare =
      let t = book_home k m is waits in (
        view_after k m (look_held t.0),
        takes 0 (Some t.0),
        t.1,
        obeys m _ _ (look_event k m is t.0 (waits, t.1)),
        look_held_fact k m is laws t.0 st (waits, bare, t.1),
      )

  looks_at : AreLaws k → (n id t : ℕ) (me : Seat) → me.0.seat.phase ≡ Waiting t → me.1 ≡ []
      → Allows Rule n id me (grant_word t) (λ x. x) (LookFact k (step n (grant_word t) 0 0 none) me)
  looks_at laws n id t me waits bare s r wide at small =
      let m = moment s r id me in
      let is = is_moment s r id me at in
      let st : Step (Option K) = step n (grant_word t) 0 0 none in
      dite (ℕ_discrete t r.1.served)
      (λ first. subst (LookAllowed m st) (sym first) (look_held_allowed laws m is st (waits ∙ ap Waiting first) bare))
      (λ later. (me.0, keeps, tt, obeys m _ _ (wait_event k m is t (waits, later)), look_waits_fact k m is t st (waits, later)))

  pub looks : AreLaws k → (n id t word : ℕ) (me : Seat) → word ≡ grant_word t → me.0.seat.phase ≡ Waiting t → me.1 ≡ []
      → Allows Rule n id me word (λ x. x) (LookFact k (step n word 0 0 none) me)
  looks laws n id t word me is waits bare = rw is (looks_at laws n id t me waits bare)

  -- a leave, by a holder that has posted or by one that hasn't
  leave_obeys : AreLaws k → (posted : Bool) (m : Moment) (t : ℕ) (book : K) → IsTableMoment k m → IsReady k m (leave posted t book)
      → ObeysRule k m.start (table_after k m (leave posted t book)) × Holds t m.me.0.seat.phase × (m.me.1 ≡ (0, Some book) ∷ [])
  leave_obeys laws true m t book is ready = (obeys m _ _ (leave_event k m is laws true t book ready), posted_holds t m.me.0.seat.phase ready.0, ready.1)
  leave_obeys laws false m t book is ready =
      (obeys m _ _ (leave_event k m is laws false t book ready).2, holding_holds t m.me.0.seat.phase ready.0, ready.1)

  leave_ready : (posted : Bool) (m : Moment) (t : ℕ) (book : K) → m.me.1 ≡ (0, Some book) ∷ [] → m.me.0.seat.phase ≡ cond posted (Posted t) (Holding t)
      → (posted ≡ false → IsBookAfterCall k m.start m.me.0.seat.own m.me.0.seen m.me.0.refused None book)
      → (posted ≡ true → IsBookAfterPost k m.start m.me.0.seen m.me.0.refused book) → IsReady k m (leave posted t book)
  leave_ready true m t book carries holder recorded posts = (holder, carries, posts refl)
  leave_ready false m t book carries holder recorded posts = (holder, carries, recorded refl)

  leaves_at : AreLaws k → (posted : Bool) (n id t : ℕ) (me : Seat) (book : K) (o : Start K)
      → me.1 ≡ (0, Some book) ∷ [] → me.0.seat.phase ≡ cond posted (Posted t) (Holding t) → me.0.start ≡ Some o
      → (posted ≡ false → IsBookAfterCall k o me.0.seat.own me.0.seen me.0.refused None book)
      → (posted ≡ true → IsBookAfterPost k o me.0.seen me.0.refused book)
      → Allows Rule n id me (grant_word (t + 1)) (λ _. t + 1) (λ _. LeaveFact k (step n (grant_word (t + 1)) (t + 1) 0 none) me (t + 1))
  leaves_at laws posted n id t me book o carries holder known recorded posts s r wide at small =
      let m = moment s r id me in
      let is = is_moment s r id me at in
      let mine : o ≡ start = (true_here k m is).start_is o known in
      let e = leave_obeys laws posted m t book is (leave_ready posted m t book carries holder
      (λ no. subst (λ (z : Start K). IsBookAfterCall k z me.0.seat.own me.0.seen me.0.refused None book) mine (recorded no))
      (λ yes. subst (λ (z : Start K). IsBookAfterPost k z me.0.seen me.0.refused book) mine (posts yes))) in
      (view_after k m (leave posted t book), gives, tt, e.0, leave_fact k m is posted t book (step n (grant_word (t + 1)) (t + 1) 0 none) (e.1, e.2))

  pub leaves : AreLaws k → (posted : Bool) (n id t word : ℕ) (me : Seat) (book : K) (o : Start K) → word ≡ grant_word (t + 1)
      → me.1 ≡ (0, Some book) ∷ [] → me.0.seat.phase ≡ cond posted (Posted t) (Holding t) → me.0.start ≡ Some o
      → (posted ≡ false → IsBookAfterCall k o me.0.seat.own me.0.seen me.0.refused None book)
      → (posted ≡ true → IsBookAfterPost k o me.0.seen me.0.refused book)
      → Allows Rule n id me word (λ _. t + 1) (λ _. LeaveFact k (step n word (t + 1) 0 none) me (t + 1))
  leaves laws posted n id t word me book o is carries holder known recorded posts =
      rw is (leaves_at laws posted n id t me book o carries holder known recorded posts)

  posts_at : AreLaws k → (n id t place : ℕ) (me : Seat) (book : K) (o : Start K) → me.0.seat.phase ≡ Holding t
      → me.0.start ≡ Some o → IsBookAfterCall k o me.0.seat.own me.0.seen me.0.refused (Some place) book
      → Allows Rule n id me (board_word place) (λ _. word_in k book place)
      (λ _. PostFact (k.history book) (k.refusals book) (step n (board_word place) (word_in k book place) 0 none) me (word_in k book place))
  posts_at laws n id t place me book o holder known recorded s r wide at small =
      let m = moment s r id me in
      let is = is_moment s r id me at in
      let ready = subst (λ (z : Start K). IsBookAfterCall k z me.0.seat.own me.0.seen me.0.refused (Some place) book)
      ((true_here k m is).start_is o known) recorded in (
        view_after k m (post t place book),
        keeps,
        tt,
        obeys m _ _ (post_event k m is laws t place book (holder, ready)).2,
        post_fact k m is t place book (step n (board_word place) (word_in k book place) 0 none) holder,
      )

  pub posts : AreLaws k → (n id t place word number : ℕ) (entries : List (Entry C R)) (refused : ℕ) (me : Seat) (book : K) (o : Start K)
      → word ≡ board_word place → number ≡ word_in k book place → entries ≡ k.history book → refused ≡ k.refusals book
      → me.0.seat.phase ≡ Holding t → me.0.start ≡ Some o → IsBookAfterCall k o me.0.seat.own me.0.seen me.0.refused (Some place) book
      → Allows Rule n id me word (λ _. number) (λ _. PostFact entries refused (step n word number 0 none) me number)
  posts laws n id t place word number entries refused me book o at stores has kept holder known recorded =
      rw (at, stores, has, kept) (posts_at laws n id t place me book o holder known recorded)

  glances_at : AreLaws k → (n id place : ℕ) (me : Seat) → me.0.seat.phase ≡ Idle → place < board_length k start.book
      → Allows Rule n id me (board_word place) (λ x. x) (GlanceFact k (step n (board_word place) 0 0 none) me)
  glances_at laws n id place me idle within s r wide at small =
      let m = moment s r id me in
      let is = is_moment s r id me at in (
        view_after k m (glance place),
        keeps,
        tt,
        obeys m _ _ (glance_event k m is laws place (idle, within)),
        glance_fact k m is place (step n (board_word place) 0 0 none) refl,
      )

  pub glances : AreLaws k → (n id place word : ℕ) (me : Seat) → word ≡ board_word place → me.0.seat.phase ≡ Idle → place < board_length k start.book
      → Allows Rule n id me word (λ x. x) (GlanceFact k (step n word 0 0 none) me)
  glances laws n id place word me is idle within = rw is (glances_at laws n id place me idle within)

  pub splits : (id count : ℕ) (v : V) (o : Start K) → v.start ≡ Some o → v.seat.phase ≡ Idle → v.seat.fresh ≡ true → 0 < count
      → count < length v.seat.numbers → Splits Rule id v (view_after_split count v) (split_view count v)
  splits id count v o known idle fresh some_count less s r at =
      let m = moment s r id (v, []) in
      let is = is_moment s r id (v, []) at in
      obeys m _ _ (split_event k m is count (known ∙ ap Some ((true_here k m is).start_is o known), idle, fresh, some_count, less))

  pub joins : (id other : ℕ) (v w : V) → v.seat.phase ≡ Idle → w.seat.phase ≡ Idle → Joins Rule id v other w (gathered_view v w) spent_view
  joins id other v w idle idle' s r at apart at_other =
      let m = moment s r id (v, []) in
      obeys m _ _ (gather_event k m (is_moment s r id (v, []) at) other w
      (idle, apart, sym (set_else s.views id other (gathered_view v w) apart) ∙ at_other, idle'))

  pub second_loads : (n id : ℕ) (me : Seat) → me.0.seat.phase ≡ Idle
      → Allows Rule n id me next_word (λ x. x) (SecondLoadFact (step n next_word 0 0 none) me)
  second_loads n id me idle s r wide at small =
      let m = moment s r id me in
      let is = is_moment s r id me at in
      (view_after k m second_load, keeps, tt, (r.0, r.1, second_load_same k m is idle), second_load_fact k m is (step n next_word 0 0 none))

  -- the last book of a lock, for a seat with this view that has all numbers
  pub record IsLastBook (v : V) (book : K) : Type 0 where
    pub ends : EndsSchedule k start book
    pub opening : k.opening book ≡ k.opening start.book
    pub history : k.history book ≡ v.seen
    pub calls : length (k.history book) + k.refusals book ≡ v.seat.calls
    pub numbers : (p : ℕ) → start.numbers ≤ p → of p (k.history book) ≡ []

  -- if one idle seat has all numbers, the book is in its slot, and its entries are those that the seat has seen
  pub closes : AreLaws k → (s : Table) (id : ℕ) (v : V) → Rule s → get_elem? s.views id ≡ some v → v.seat.phase ≡ Idle → start.numbers ≤ length v.seat.numbers
      → (book : K) × (get_elem? s.homes 0 ≡ some (some (Some book))) × IsLastBook v book
  closes laws s id v r at idle all =
      let m = moment s r id (v, []) in
      let is = is_moment s r id (v, []) at in
      let l = lawful k m is in
      let old = true_here k m is in
      let sole = alone start.numbers start.draws m.core l id v.seat (seat_here k m is) all in
      let free : total holds m.core.seats ≡ 0 =
      sole holds (λ j u e gone_is. omega (
        arith,
        gone_is,
        holder_le start.draws m.core.served u (l.each j u e),
        times_le m.core.served (tickets_of u.phase),
        busy start.draws m.core.served u (l.each j u e),
      )) ∙ ap holder_count_of idle in
      let calls : total (λ (p : CoreSeat). p.calls) m.core.seats ≡ v.seat.calls =
      sole (λ (p : CoreSeat). p.calls) (λ j u e gone_is. unnumbered_calls start.draws m.core.served u (l.each j u e) gone_is) in
      let there = r.2.slot.home free in
      let strangers : (p : ℕ) → start.numbers ≤ p → of p m.core.book.entries ≡ [] = λ p h. strangers_none k m is p h in
      let seen : m.core.book.entries ≡ v.seen = all_seen v.seen m.core.book.entries old.seen.0 (λ p. dite (dec_le (suc 0) (occurrences p v.seat.numbers))
      (λ has. old.seen.1 p has)
      (λ out. empty_before p v.seen m.core.book.entries old.seen.0 (strangers p (dite (dec_le start.numbers p) (λ le. le) (λ lt. absurd (omega (
        arith,
        out,
        l.numbered p,
        below_yes p start.numbers (omega arith),
        sole (λ (q : CoreSeat). occurrences p q.numbers) (λ j u e gone_is. omega (arith, times_le p u.numbers, gone_is)),
      ))))))) in (
        there.0,
        there.1,
        record {
          ends = ends_schedule k m is laws there.0 there.2;
          opening = there.2.opening;
          history = there.2.entries ∙ seen;
          calls = omega (arith, ap length there.2.entries, there.2.refused, taken_at_home start.numbers start.draws m.core l free, l.calls, calls);
          numbers = λ p h. ap (of p) there.2.entries ∙ strangers p h;
        },
      )
