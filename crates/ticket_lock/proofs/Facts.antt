-- The facts that the seat learns from its step hold of that step.
use Rattle.std.proofs.Common.{◌≡◌, ℕ, zero, suc, ◌<◌, ◌≤◌, ◌≢◌, List, [], ◌∷◌, ◌++◌, length, get_or, set, sym, refl, ap, ◌∙◌, subst, arith, Bool, Option, Some}
use Rattle.std.specs.Option.{unwrap_or}
use mathlib.Core.Logic.{dite}
use native.Mathlib.Decide.{dec_le}
use mathlib.Core.Option.{some, some-ne-none}
use lib.ListN.{get_elem?}
use Rattle.atomic_table.specs.Table.{Step, rest, carried_after}
use Rattle.ticket_steps.specs.declared.books.Entry.{Entry}
use Rattle.ticket_steps.specs.declared.books.Kept.{Ghosts}
use Rattle.ticket_steps.specs.declared.seats.CoreSeat.{CoreSeat}
use Rattle.ticket_steps.specs.declared.seats.Phase.TheVariants.{Waiting, Holding}
use Rattle.ticket_steps.specs.Books.{book_state}
use Rattle.ticket_steps.specs.History.{replay, IsLegal}
use Rattle.ticket_steps.specs.Seats.{tickets_of}
use Rattle.ticket_steps.specs.Sums.{occurrences}
use Rattle.ticket_steps.proofs.Lists.{at_within, set_here, set_else}
use Rattle.ticket_steps.proofs.SeatLemmas.{alone_served, in_line, served_le, one_calls, tickets_waiting, tickets_holding, waits_in_line}
use Rattle.ticket_steps.proofs.SeatLemmas.{no_holder, taken_at_home}
use Rattle.ticket_steps.proofs.SumLemmas.{occurrences-same, term_le}
use Rattle.ticket_lock.specs.declared.views.Start.{Start}
use Rattle.ticket_lock.specs.declared.views.View.{View}
use Rattle.ticket_lock.specs.Endings.{EndsSchedule}
use Rattle.ticket_lock.specs.Kinds.{Kind, split, draw, look_held, look_waits, post, leave, gather, second_load, glance, view_after, found_in, act_of}
use Rattle.ticket_lock.specs.Kinds.{Fact, MayLearn, HasFact}
use Rattle.ticket_lock.specs.Slots.{IsBook}
use Rattle.ticket_lock.specs.Steps.{TableMoment, IsTableMoment}
use Rattle.ticket_lock.specs.Views.{Follows, view_after_draw, view_after_look, view_after_post, view_after_leave}
use Rattle.ticket_lock.proofs.BoardLemmas.{AreLaws, state_is}
use Rattle.ticket_lock.proofs.Events.{lawful, lawful_book, next_small, next_is, watched_is, board_is, seat_here, true_here, home_is}
use Rattle.ticket_lock.proofs.HistoryLemmas.{follows_longer, longer_is}

abbrev pub book_or : {K : Type 0} → K → List (ℕ × Option K) → K
book_or d [] = d
book_or d (x ∷ xs) = unwrap_or x.1 d

at_before : {A : Type 0} (xs ys : List A) (i : ℕ) (a : A) → get_elem? xs i ≡ some a → get_elem? (xs ++ ys) i ≡ some a
at_before [] ys i a at = absurd (some-ne-none a (sym at))
at_before (x ∷ xs) ys zero a at = at
at_before (x ∷ xs) ys (suc i) a at = at_before xs ys i a at

module _ {K C R : Type 0} (k : Ghosts K C R) (m : TableMoment K k.State C R) (is : IsTableMoment k m) where
  -- the fact holds of the seat after the step
  abbrev pub Shows : Kind K C R → Step (Option K) → Type 0
  Shows kind step = Fact k m kind step (found_in k m kind) (view_after k m kind, carried_after m.me.1 (act_of k m kind))

  -- the book of the core is that at the end of a schedule
  pub ends_schedule : AreLaws k → (book : K) → IsBook k m.start m.core.book book → EndsSchedule k m.start book
  ends_schedule laws book is_book = record {
    schedule = record { opening = k.opening m.start.book; numbers = m.start.numbers; draws = m.start.draws; happenings = m.happenings; end = m.core };
    is = record { nonempty_numbers = is.ruled.nonempty_numbers; bounded_numbers = is.ruled.bounded_numbers; leads = is.ruled.words.leads };
    opening = refl;
    numbers = refl;
    draws = refl;
    book_is = λ i. book_state (sym (state_is k laws m.start m.core.book book (lawful_book k m is) is_book) i) (sym is_book.entries i) (sym is_book.refused i);
  }

  pub draw_fact : (step : Step (Option K)) → Shows draw step
  draw_fact step = ap (λ (n : ℕ). (view_after_draw n m.me.0, m.me.1)) (sym (next_is k m is))

  pub look_held_fact : AreLaws k → (book : K) (step : Step (Option K)) → MayLearn k m (look_held book) step → Shows (look_held book) step
  look_held_fact laws book step may =
      let v : View K C R = m.me.0 in
      let old = true_here k m is in
      let at = seat_here k m is in
      let l = lawful k m is in
      let is_book = home_is k m is book may.0 may.2 in
      let has : 0 < occurrences m.core.served (tickets_of v.seat.phase) =
      omega (arith, tickets_waiting m.core.served m.core.served v.seat may.0, occurrences-same m.core.served []) in
      λ t phase. let ticket : m.core.served ≡ t = let both : Waiting m.core.served ≡ Waiting t = sym may.0 ∙ phase in cc in (
        λ _. (
          book,
          (λ i. (view_after_look k (ticket i) v book, (0, Some book) ∷ may.1 i)),
          λ o known. let mine : m.start ≡ o = sym (old.start_is o known) in (
            record {
              opening = is_book.opening ∙ ap (λ (z : Start K). k.opening z.book) mine;
              follows = subst (Follows v.seat.numbers v.seen) (sym is_book.entries) old.seen;
              counted = omega (
                arith,
                taken_at_home m.start.numbers m.start.draws m.core l (no_holder m.start.numbers m.start.draws m.core l m.id v.seat at may.0),
                ap length is_book.entries,
                is_book.refused,
                ticket,
              );
              bounded = omega (arith, ticket, in_line m.start.numbers m.start.draws m.core l m.id m.core.served v.seat at has, next_small k m is);
            },
            subst (λ (z : Start K). EndsSchedule k z book) mine (ends_schedule laws book is_book),
          ),
        ),
        λ miss. absurd (miss ((watched_is k m is m.core.served (omega arith)).1 refl ∙ ticket)),
      )

  -- a seat that waits finds its ticket in the word exactly if it is served
  pub found_waiting : (ticket : ℕ) → m.me.0.seat.phase ≡ Waiting ticket → ticket ≢ m.core.served → found_in k m (look_waits ticket) ≢ ticket
  found_waiting ticket waits later hit = later ((watched_is k m is ticket
      (waits_in_line m.start.numbers m.start.draws m.core (lawful k m is) m.id ticket m.me.0.seat (seat_here k m is) waits)).0 hit)

  pub look_waits_fact : (ticket : ℕ) (step : Step (Option K)) → MayLearn k m (look_waits ticket) step → Shows (look_waits ticket) step
  look_waits_fact ticket step may =
      λ t phase. let same : ticket ≡ t = let both : Waiting ticket ≡ Waiting t = sym may.0 ∙ phase in cc in (
        λ hit. absurd (found_waiting ticket may.0 may.1 (hit ∙ sym same)),
        λ _. (
          refl,
          λ o known. dite (dec_le o.numbers (length m.me.0.seat.numbers))
              (λ all. absurd (may.1 (alone_served m.start.numbers m.start.draws m.core (lawful k m is) m.id ticket m.me.0.seat (seat_here k m is) may.0
              (omega (arith, all, ap (λ (z : Start K). z.numbers) ((true_here k m is).start_is o known))))))
              (λ fewer. omega arith),
        ),
      )

  pub post_fact : (ticket place : ℕ) (book : K) (step : Step (Option K)) → m.me.0.seat.phase ≡ Holding ticket → Shows (post ticket place book) step
  post_fact ticket place book step holding =
      λ t phase. let same : ticket ≡ t = let both : Holding ticket ≡ Holding t = sym holding ∙ phase in cc in
      λ i. (view_after_post (same i) (k.history book) (k.refusals book) m.me.0, m.me.1)

  pub leave_fact : (posted : Bool) (ticket : ℕ) (book : K) (step : Step (Option K)) → MayLearn k m (leave posted ticket book) step
      → Shows (leave posted ticket book) step
  leave_fact posted ticket book step may =
      let v : View K C R = m.me.0 in
      let l = lawful k m is in
      let at = seat_here k m is in
      let has : 0 < occurrences ticket (tickets_of v.seat.phase) = omega (arith, tickets_holding ticket ticket v.seat may.0, occurrences-same ticket []) in
      λ b carries. (
        (let same : book ≡ b = ap (book_or book) (sym may.1 ∙ carries) in λ i. (view_after_leave k v (same i), rest (may.1 i))),
        omega (
          arith,
          one_calls m.start.numbers m.start.draws m.core l m.id v.seat at,
          in_line m.start.numbers m.start.draws m.core l m.id ticket v.seat at has,
          next_small k m is,
        ),
      )

  pub glance_fact : (place : ℕ) (step : Step (Option K)) → MayLearn k m (glance place) step → Shows (glance place) step
  glance_fact place step loads =
      let old = true_here k m is in
      let lb = lawful_book k m is in (
        m.core.book.entries,
        refl,
        λ o known. let mine : m.start ≡ o = sym (old.start_is o known) in record {
          follows = old.seen;
          legal = subst (λ (z : Start K). IsLegal k.step (k.opening z.book) m.core.book.entries) mine lb.legal;
          shown = λ p at.
              let same : place ≡ p = omega (arith, loads, at) in
              board_is k m is place
              ∙ (ap (λ (z : k.State). get_or (k.board z) place 0) lb.replayed
              ∙ (λ i. get_or (k.board (replay k.step (k.opening (mine i).book) m.core.book.entries)) (same i) 0));
        },
      )

  pub second_load_fact : (step : Step (Option K)) → Shows second_load step
  second_load_fact step =
      let v : View K C R = m.me.0 in
      let old = true_here k m is in
      let l = lawful k m is in
      let at = seat_here k m is in
      λ seen. (
        refl,
        follows_longer v.one.numbers v.one.seen v.seen m.core.book.entries old.one old.seen.0
            (rw seen (longer_is v.one.seen v.two.seen (λ (q : List (Entry C R)). length v.one.seen ≤ length q) (λ lt. omega arith) (λ _. omega arith))),
        follows_longer v.two.numbers v.two.seen v.seen m.core.book.entries old.two old.seen.0
            (rw seen (longer_is v.one.seen v.two.seen (λ (q : List (Entry C R)). length v.two.seen ≤ length q) (λ _. omega arith) (λ le. le))),
        omega (arith, l.count, is.ruled.bounded_numbers, term_le (λ (p : CoreSeat). length p.numbers) m.core.seats m.id v.seat at),
        omega (arith, one_calls m.start.numbers m.start.draws m.core l m.id v.seat at, served_le m.start.numbers m.start.draws m.core l, next_small k m is),
      )

  view_set : (w : View K C R) → get_elem? (set m.table.views m.id w) m.id ≡ some w
  view_set w = set_here m.table.views m.id w (at_within m.table.views m.id m.me.0 is.there)

  -- each kind of step
  pub has_fact : AreLaws k → (kind : Kind K C R) (step : Step (Option K)) → MayLearn k m kind step → HasFact k m kind step
  has_fact laws (split count) step may = record { there = at_before _ _ m.id _ (view_set _); agreement = tt }
  has_fact laws draw step may = record { there = view_set _; agreement = draw_fact step }
  has_fact laws (look_held book) step may = record { there = view_set _; agreement = look_held_fact laws book step may }
  has_fact laws (look_waits ticket) step may = record { there = view_set _; agreement = look_waits_fact ticket step may }
  has_fact laws (post ticket place book) step may = record { there = view_set _; agreement = post_fact ticket place book step may }
  has_fact laws (leave posted ticket book) step may = record { there = view_set _; agreement = leave_fact posted ticket book step may }
  has_fact laws (gather other w) step may =
      record { there = set_else (set m.table.views m.id _) other m.id _ (λ same. may (sym same)) ∙ view_set _; agreement = tt }
  has_fact laws second_load step may = record { there = view_set _; agreement = second_load_fact step }
  has_fact laws (glance place) step may = record { there = view_set _; agreement = glance_fact place step may }
