-- Facts that the core's functions cite.
use Rattle.std.proofs.Common.{mul-le-mul_right, ◌≡◌, ℕ, ◌+◌, ◌*◌, ◌^◌, ◌<◌, ◌≤◌, ◌≢◌, List, [], ◌∷◌, ◌++◌, length, get_or, set, sym, refl, ap, ◌∙◌, subst}
use Rattle.std.proofs.Common.{arith, true, Some, None}
use mathlib.Core.Option.{some}
use lib.ListN.{get_elem?}
use Rattle.ticket_steps.specs.declared.books.Entry.{Entry}
use Rattle.ticket_steps.specs.declared.books.Kept.{Ghosts}
use Rattle.ticket_steps.specs.declared.seats.CoreSeat.{CoreSeat}
use Rattle.ticket_steps.specs.declared.seats.Phase.{Phase}
use Rattle.ticket_steps.specs.declared.seats.Phase.TheVariants.{Idle, Waiting, Holding, Posted}
use Rattle.ticket_steps.specs.declared.core_steps.Core.{Core}
use Rattle.ticket_steps.specs.Books.{BookState, book_state, with_entry, with_refusal}
use Rattle.ticket_steps.specs.CoreStates.{CoreState, core_state, opening_core}
use Rattle.ticket_steps.specs.Cores.{core_state_of}
use Rattle.ticket_steps.specs.Happenings.{split, drew, waited, held, posted, post_refused, left_posted, recorded, refused, gathered, with_seats, Moves}
use Rattle.ticket_steps.specs.Lawful.{IsLawful}
use Rattle.ticket_steps.specs.Seats.{Holds, seat, seat_after_split, other_seat, waiting_seat, holding_seat, posted_seat, seat_after_leave, gathered_seat}
use Rattle.ticket_steps.specs.Seats.{gone_seat}
use Rattle.ticket_steps.specs.Sums.{numbers_from}
use Rattle.ticket_steps.proofs.FaultLemmas.{read_is}
use Rattle.ticket_steps.proofs.Lists.{at_same, set_swap}
use Rattle.ticket_steps.proofs.SeatLemmas.{one_calls, served_le, taken_le}
use Rattle.ticket_steps.proofs.SumLemmas.{length-numbers_from}

-- the core state at the opening
pub opened_is : {S C R : Type 0} (numbers draws : ℕ) (opening state : S) (entries : List (Entry C R)) (count served : ℕ) (seats : List CoreSeat) (all : List ℕ)
    → served ≡ 0 → all ≡ numbers_from 0 numbers → seats ≡ seat 0 all Idle (numbers * draws) 0 true ∷ [] → state ≡ opening → entries ≡ [] → count ≡ 0
    → core_state 0 served seats (book_state state entries count) ≡ opening_core numbers draws opening
opened_is numbers draws opening state entries count served seats all served_is all_is seats_are state_is none_kept none_refused =
    let here : seats ≡ seat 0 (numbers_from 0 numbers) Idle (length (numbers_from 0 numbers) * draws) 0 true ∷ [] = seats_are ∙
    (λ i. seat 0 (all_is i) Idle (sym (length-numbers_from 0 numbers) i * draws) 0 true ∷ []) in
    λ i. core_state 0 (served_is i) (here i) (book_state (state_is i) (none_kept i) (none_refused i))

-- a core has few tickets
pub few_tickets : (next left numbers draws : ℕ) → next + left ≤ numbers * draws → numbers ≤ 1024 → draws < 4294967296 → next ≤ 4398046510080
few_tickets next left numbers draws supply bounded small =
    let a : numbers * draws ≤ 1024 * draws = mul-le-mul_right draws bounded in
    omega arith

-- so few calls have ended
pub few_served : {S C R : Type 0} (numbers draws : ℕ) (c : CoreState S C R) → IsLawful numbers draws c → numbers ≤ 1024 → draws < 4294967296
    → c.served ≤ 4398046510080
few_served numbers draws c l bounded small =
    omega (arith, served_le numbers draws c l, few_tickets c.next _ numbers draws l.supply bounded small)

-- and so few calls were refused
pub few_refused : {S C R : Type 0} (numbers draws : ℕ) (c : CoreState S C R) → IsLawful numbers draws c → numbers ≤ 1024 → draws < 4294967296
    → c.book.refused ≤ 4398046510081
few_refused numbers draws c l bounded small = omega (arith, taken_le numbers draws c l, few_served numbers draws c l bounded small)

-- what a core that runs says of itself
module _ {K C R : Type 0} {G : Ghosts K C R} (core : Core K C R G) where
  few_ended : core.grants ≤ 4398046510080
  few_ended = few_served core.numbers core.draws (core_state_of core) core.lawful core.bounded (omega (arith, core.bounded_draws))

  -- its book can count one refusal more
  pub can_refuse : G.refusals core.book < 2 ^ 60
  can_refuse = omega (arith, few_refused core.numbers core.draws (core_state_of core) core.lawful core.bounded (omega (arith, core.bounded_draws)))

  -- its seat x, read at the place where p stands
  module _ (i : ℕ) {p x : CoreSeat} (at : get_elem? core.seats.items i ≡ some p) (read : x ≡ get_or core.seats.items i x) where
    -- can end one call more
    pub can_end : x.calls + 1 < 2 ^ 64
    can_end = omega (
      arith,
      ap (λ (s : CoreSeat). s.calls) (read_is core.seats.items i at read),
      one_calls core.numbers core.draws (core_state_of core) core.lawful i p at,
      few_ended,
    )

    -- where it holds, its ticket is the number served, which is small
    pub ticket_served : (ticket : ℕ) → Holds ticket x.phase → (ticket ≡ core.grants) × (ticket < 2 ^ 60)
    ticket_served ticket holder =
        let holder' = subst (λ (s : CoreSeat). Holds ticket s.phase) (read_is core.seats.items i at read) holder in
        let first : ticket ≡ core.grants = (core.lawful.each i p at).holder ticket holder' in (first, omega (arith, first, few_ended))

-- p stands where x was read in this phase, and where y was read and changed
pub changed_is : (seats : List CoreSeat) (i : ℕ) (change : CoreSeat → CoreSeat) (phase : Phase) {p x y w : CoreSeat} → get_elem? seats i ≡ some p
    → x ≡ get_or seats i x → x.phase ≡ phase → y ≡ get_or seats i y → w ≡ change y → (p.phase ≡ phase) × (w ≡ change p)
changed_is seats i change phase at read is read' changed =
    (ap (λ (s : CoreSeat). s.phase) (sym (read_is seats i at read)) ∙ is, changed ∙ ap change (read_is seats i at read'))

module _ {K C R : Type 0} (k : Ghosts K C R) (draws : ℕ) (b : CoreState k.State C R) (i own : ℕ) (p : CoreSeat)
    (at : get_elem? b.seats i ≡ some p) (called : p.own ≡ own) where
  pub split_moves : (count : ℕ) (w x : CoreSeat) (seats : List CoreSeat) → p.phase ≡ Idle → p.fresh ≡ true → 0 < count → count < length p.numbers
      → w ≡ seat_after_split draws count p → x ≡ other_seat draws count p → seats ≡ set b.seats i w ++ x ∷ []
      → Moves k draws b (split own count) (with_seats b seats)
  split_moves count w x seats idle fresh some_count less kept given_is seats_are =
      (i, p, (at, called, idle), fresh, some_count, less, λ j. with_seats b ((seats_are ∙ (λ k. set b.seats i (kept k) ++ given_is k ∷ [])) j))

  pub draw_moves : (w : CoreSeat) → p.phase ≡ Idle → 0 < p.left → w ≡ waiting_seat b.next p
      → Moves k draws b (drew own b.next) (core_state (b.next + 1) b.served (set b.seats i w) b.book)
  draw_moves w idle has_left is = (i, p, (at, called, idle), has_left, refl, λ j. core_state (b.next + 1) b.served (set b.seats i (is j)) b.book)

  pub look_moves : (ticket : ℕ) (w : CoreSeat) → p.phase ≡ Waiting ticket → ticket ≡ b.served → w ≡ holding_seat ticket p
      → Moves k draws b (held own) (with_seats b (set b.seats i w))
  look_moves ticket w waits first is =
      (i, p, (at, called, waits ∙ ap Waiting first), λ j. with_seats b (set b.seats i ((is ∙ ap (λ (t : ℕ). holding_seat t p) first) j)))

  pub wait_moves : (ticket : ℕ) → p.phase ≡ Waiting ticket → ticket ≢ b.served → Moves k draws b (waited own) b
  wait_moves ticket waits later = (i, p, ticket, (at, called, waits), later, refl)

  pub posted_moves : (ticket : ℕ) (w : CoreSeat) (call : C) (reply : R) (book : BookState k.State C R) → p.phase ≡ Holding ticket → w ≡ posted_seat ticket p
      → reply ≡ (k.step b.book.state call).1 → book ≡ with_entry k.step own call b.book
      → (place : ℕ) → k.posts_at b.book.state call ≡ Some place → Moves k draws b (posted own call reply) (core_state b.next b.served (set b.seats i w) book)
  posted_moves ticket w call reply book holds is answer book_is place placed =
      (i, p, ticket, (at, called, holds), answer, (λ j. core_state b.next b.served (set b.seats i (is j)) (book_is j)), (place, placed))

  pub post_refused_moves : (ticket : ℕ) (w : CoreSeat) (book : BookState k.State C R) → p.phase ≡ Holding ticket → w ≡ posted_seat ticket p
      → book ≡ with_refusal b.book → Moves k draws b (post_refused own) (core_state b.next b.served (set b.seats i w) book)
  post_refused_moves ticket w book holds is book_is =
      (i, p, ticket, (at, called, holds), λ j. core_state b.next b.served (set b.seats i (is j)) (book_is j))

  pub left_posted_moves : (ticket : ℕ) (w : CoreSeat) → p.phase ≡ Posted ticket → w ≡ seat_after_leave p
      → Moves k draws b (left_posted own) (core_state b.next (b.served + 1) (set b.seats i w) b.book)
  left_posted_moves ticket w posts is =
      (i, p, ticket, (at, called, posts), λ j. core_state b.next (b.served + 1) (set b.seats i (is j)) b.book)

  pub recorded_moves : (ticket : ℕ) (w : CoreSeat) (call : C) (reply : R) (book : BookState k.State C R) → p.phase ≡ Holding ticket → w ≡ seat_after_leave p
      → reply ≡ (k.step b.book.state call).1 → book ≡ with_entry k.step own call b.book
      → k.posts_at b.book.state call ≡ None → Moves k draws b (recorded own call reply) (core_state b.next (b.served + 1) (set b.seats i w) book)
  recorded_moves ticket w call reply book holds is answer book_is unplaced =
      (i, p, ticket, (at, called, holds), answer, (λ j. core_state b.next (b.served + 1) (set b.seats i (is j)) (book_is j)), unplaced)

  pub refused_moves : (ticket : ℕ) (w : CoreSeat) (book : BookState k.State C R) → p.phase ≡ Holding ticket → w ≡ seat_after_leave p
      → book ≡ with_refusal b.book
      → Moves k draws b (refused own) (core_state b.next (b.served + 1) (set b.seats i w) book)
  refused_moves ticket w book holds is book_is = (i, p, ticket, (at, called, holds), λ j. core_state b.next (b.served + 1) (set b.seats i (is j)) (book_is j))

  pub gather_moves : (m other : ℕ) (q w x : CoreSeat) → get_elem? b.seats m ≡ some q → q.own ≡ other → p.phase ≡ Idle → q.phase ≡ Idle → own ≢ other
      → w ≡ gone_seat → x ≡ gathered_seat p q
      → Moves k draws b (gathered own other) (with_seats b (set (set b.seats m w) i x))
  gather_moves m other q w x at' called' idle idle' apart gone_is joined_is =
      let here = λ (e : m ≡ i). at_same b.seats i p q at (subst (λ (n : ℕ). get_elem? b.seats n ≡ some q) e at') in
      let ne : m ≢ i = λ e. apart (sym called ∙ (ap (λ (s : CoreSeat). s.own) (here e) ∙ called')) in (
        i,
        p,
        m,
        q,
        (at, called, idle),
        (at', called', idle'),
        apart,
        λ j. with_seats b (((λ n. set (set b.seats m (gone_is n)) i (joined_is n)) ∙ set_swap b.seats m i gone_seat (gathered_seat p q) ne) j),
      )
