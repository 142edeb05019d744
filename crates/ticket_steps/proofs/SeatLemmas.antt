-- What a lawful core state says of its seats.
use Rattle.std.proofs.Common.{◌≡◌, ℕ, ◌+◌, ◌-◌, ◌<◌, ◌≤◌, ◌≢◌, ◌⊎◌, List, [], ◌∷◌, length, sym, refl, ap, ◌∙◌, ⊎_elim, inl, inr, arith, true, false}
use mathlib.Core.Logic.{dite}
use native.Mathlib.Decide.{ℕ_discrete, dec_le}
use mathlib.Core.Option.{some}
use lib.ListN.{get_elem?}
use Rattle.ticket_steps.specs.declared.seats.CoreSeat.{CoreSeat}
use Rattle.ticket_steps.specs.declared.seats.Phase.{Phase}
use Rattle.ticket_steps.specs.declared.seats.Phase.TheVariants.{Idle, Waiting, Holding, Posted, Gone}
use Rattle.ticket_steps.specs.Books.{calls_handled}
use Rattle.ticket_steps.specs.CoreStates.{CoreState}
use Rattle.ticket_steps.specs.Lawful.{IsSeat, IsLawful}
use Rattle.ticket_steps.specs.Seats.{Holds, tickets_of, holder_count_of, poster_count_of, is_present, tickets_at, holders, posters}
use Rattle.ticket_steps.specs.Sums.{total, occurrences, once_below, numbers_from}
use Rattle.ticket_steps.proofs.SumLemmas.{occurrences-same, occurrences-other, times_le, below_le, below_no, below_yes, between, term_le, terms_le, sums_le}
use Rattle.ticket_steps.proofs.SumLemmas.{sums_lt}
use Rattle.ticket_steps.proofs.SumLemmas.{only_term, some_term, numbers_from_last}

abbrev pub tickets : ℕ → CoreSeat → ℕ
tickets t s = occurrences t (tickets_of s.phase)

-- the number of tickets of a seat: one or none
abbrev pub ticket_count : Phase → ℕ
ticket_count p = length (tickets_of p)

abbrev pub queued : CoreSeat → ℕ
queued s = ticket_count s.phase

abbrev pub holds : CoreSeat → ℕ
holds s = holder_count_of s.phase

abbrev pub posts : CoreSeat → ℕ
posts s = poster_count_of s.phase

-- a seat in one of the two phases of a holder holds
pub holding_holds : (t : ℕ) (p : Phase) → p ≡ Holding t → Holds t p
holding_holds t p e = (ap holder_count_of e, ap tickets_of e)

pub posted_holds : (t : ℕ) (p : Phase) → p ≡ Posted t → Holds t p
posted_holds t p e = (ap holder_count_of e, ap tickets_of e)

-- a seat that holds is there
pub holder_there : (p : Phase) → holder_count_of p ≡ 1 → is_present p ≡ true
holder_there Idle e = absurd (omega (arith, e))
holder_there (Waiting t) e = absurd (omega (arith, e))
holder_there (Holding t) e = refl
holder_there (Posted t) e = refl
holder_there Gone e = absurd (omega (arith, e))

-- and has one ticket
pub same_ticket : (t k : ℕ) → t ∷ [] ≡ k ∷ [] → t ≡ k
same_ticket t k e = cc

-- the ticket of a seat in a known phase
pub tickets_idle : (t : ℕ) (s : CoreSeat) → s.phase ≡ Idle → occurrences t (tickets_of s.phase) ≡ 0
tickets_idle t s e = ap (λ (p : Phase). occurrences t (tickets_of p)) e

pub tickets_waiting : (t k : ℕ) (s : CoreSeat) → s.phase ≡ Waiting k → occurrences t (tickets_of s.phase) ≡ occurrences t (k ∷ [])
tickets_waiting t k s e = ap (λ (p : Phase). occurrences t (tickets_of p)) e

pub tickets_holding : (t k : ℕ) (s : CoreSeat) → Holds k s.phase → occurrences t (tickets_of s.phase) ≡ occurrences t (k ∷ [])
tickets_holding t k s e = ap (occurrences t) e.1

holder_le_as : (served : ℕ) (p : Phase) → ((t : ℕ) → Holds t p → t ≡ served) → holder_count_of p ≤ occurrences served (tickets_of p)
holder_le_as served Idle h = omega arith
holder_le_as served (Waiting t) h = omega arith
holder_le_as served (Holding t) h = omega (arith, ap (λ (k : ℕ). occurrences served (k ∷ [])) (h t (refl, refl)), occurrences-same served [])
holder_le_as served (Posted t) h = omega (arith, ap (λ (k : ℕ). occurrences served (k ∷ [])) (h t (refl, refl)), occurrences-same served [])
holder_le_as served Gone h = omega arith

-- a holder has the number served as its ticket
pub holder_le : (draws served : ℕ) (s : CoreSeat) → IsSeat draws served s → holder_count_of s.phase ≤ occurrences served (tickets_of s.phase)
holder_le draws served s is = holder_le_as served s.phase is.holder

busy_as : (p : Phase) → length (tickets_of p) ≤ 1
busy_as Idle = omega arith
busy_as (Waiting t) = omega arith
busy_as (Holding t) = omega arith
busy_as (Posted t) = omega arith
busy_as Gone = omega arith

gone_none_as : (p : Phase) → is_present p ≡ false → length (tickets_of p) ≡ 0
gone_none_as Idle h = absurd (cc)
gone_none_as (Waiting t) h = absurd (cc)
gone_none_as (Holding t) h = absurd (cc)
gone_none_as (Posted t) h = absurd (cc)
gone_none_as Gone h = refl

-- a seat that has posted holds
posted_le_as : (p : Phase) → poster_count_of p ≤ holder_count_of p
posted_le_as Idle = omega arith
posted_le_as (Waiting t) = omega arith
posted_le_as (Holding t) = omega arith
posted_le_as (Posted t) = omega arith
posted_le_as Gone = omega arith

pub posters_le : (seats : List CoreSeat) → posters seats ≤ holders seats
posters_le seats = sums_le posts holds seats (λ k u e. posted_le_as u.phase)

there_or_not : (p : Phase) → (is_present p ≡ true) ⊎ (is_present p ≡ false)
there_or_not p = elim (is_present p) as (λ b. (b ≡ true) ⊎ (b ≡ false)) [ true ↦ inl refl | false ↦ inr refl ]

only_ticket : (t x : ℕ) → 0 < occurrences t (x ∷ []) → x ∷ [] ≡ t ∷ []
only_ticket t x h = dite (ℕ_discrete t x) (λ e. ap (λ (n : ℕ). n ∷ []) (sym e)) (λ ne. absurd (omega (arith, h, occurrences-other t x [] ne)))

-- a seat with a ticket has no other
pub ticket_is : (t : ℕ) (p : Phase) → 0 < occurrences t (tickets_of p) → tickets_of p ≡ t ∷ []
ticket_is t Idle h = absurd (omega (arith, h))
ticket_is t (Waiting x) h = only_ticket t x h
ticket_is t (Holding x) h = only_ticket t x h
ticket_is t (Posted x) h = only_ticket t x h
ticket_is t Gone h = absurd (omega (arith, h))

-- it waits or holds
pub waits_or_holds : (t : ℕ) (p : Phase) → tickets_of p ≡ t ∷ [] → (p ≡ Waiting t) ⊎ Holds t p
waits_or_holds t Idle h = let n : 0 ≡ 1 = ap (λ (ts : List ℕ). length ts) h in absurd (omega (arith, n))
waits_or_holds t (Waiting x) h = inl (ap Waiting (same_ticket x t h))
waits_or_holds t (Holding x) h = inr (refl, h)
waits_or_holds t (Posted x) h = inr (refl, h)
waits_or_holds t Gone h = let n : 0 ≡ 1 = ap (λ (ts : List ℕ). length ts) h in absurd (omega (arith, n))

-- a seat with a ticket answers for some number
pub busy : (draws served : ℕ) (s : CoreSeat) → IsSeat draws served s → length (tickets_of s.phase) ≤ length s.numbers
busy draws served s is = ⊎_elim
    (λ (t : is_present s.phase ≡ true). omega (arith, busy_as s.phase, is.own t, times_le s.own s.numbers))
    (λ (t : is_present s.phase ≡ false). omega (arith, gone_none_as s.phase t)) (there_or_not s.phase)

-- a seat without numbers has ended no calls
pub unnumbered_calls : (draws served : ℕ) (s : CoreSeat) → IsSeat draws served s → length s.numbers ≡ 0 → s.calls ≡ 0
unnumbered_calls draws served s is none = ⊎_elim
    (λ (t : is_present s.phase ≡ true). absurd (omega (arith, none, is.own t, times_le s.own s.numbers)))
    (λ (t : is_present s.phase ≡ false). (is.gone_seat t).1) (there_or_not s.phase)

-- and has posted none
pub unnumbered_posts : (draws served : ℕ) (s : CoreSeat) → IsSeat draws served s → length s.numbers ≡ 0 → poster_count_of s.phase ≡ 0
unnumbered_posts draws served s is none = omega (
  arith,
  none,
  busy draws served s is,
  times_le served (tickets_of s.phase),
  holder_le draws served s is,
  posted_le_as s.phase,
)

module _ {S C R : Type 0} (numbers draws : ℕ) (c : CoreState S C R) (l : IsLawful numbers draws c) where
  -- the number served has one seat at most
  pub one_served : tickets_at c.served c.seats ≡ once_below c.served c.next
  one_served = omega (arith, l.tickets c.served, below_no c.served c.served (omega arith))

  pub holders_le : holders c.seats ≤ tickets_at c.served c.seats
  holders_le = sums_le holds (tickets c.served) c.seats (λ k u e. holder_le draws c.served u (l.each k u e))

  pub one_holder : holders c.seats ≤ 1
  one_holder = omega (arith, holders_le, one_served, below_le c.served c.next)

  -- the book has taken in as many calls as were ended, and at most one that was posted
  pub taken_le : calls_handled c.book ≤ c.served + 1
  taken_le = omega (arith, l.counted, posters_le c.seats, one_holder)

  -- where no seat holds, they are as many
  pub taken_at_home : holders c.seats ≡ 0 → calls_handled c.book ≡ c.served
  taken_at_home home = omega (arith, l.counted, posters_le c.seats, home)

  -- where the seat that is served waits, no seat holds
  pub no_holder : (i : ℕ) (p : CoreSeat) → get_elem? c.seats i ≡ some p → p.phase ≡ Waiting c.served → holders c.seats ≡ 0
  no_holder i p at waits =
      let mine : occurrences c.served (tickets_of p.phase) ≡ 1 = tickets_waiting c.served c.served p waits ∙ occurrences-same c.served [] in
      let fewer : holders c.seats < tickets_at c.served c.seats = sums_lt holds (tickets c.served) c.seats i p at (omega (arith, ap holder_count_of waits, mine))
      (λ k u e. holder_le draws c.served u (l.each k u e)) in
      omega (arith, one_served, below_le c.served c.next)

  -- beside the seat that is served no other has its ticket
  pub sole : (i k : ℕ) (p u : CoreSeat) → get_elem? c.seats i ≡ some p → occurrences c.served (tickets_of p.phase) ≡ 1 → k ≢ i
      → get_elem? c.seats k ≡ some u → occurrences c.served (tickets_of u.phase) ≡ 0
  sole i k p u at mine other e = omega (arith, mine, terms_le (tickets c.served) c.seats i k p u other at e, one_served, below_le c.served c.next)

  -- a ticket that a seat has was drawn and isn't left yet
  pub in_line : (i t : ℕ) (p : CoreSeat) → get_elem? c.seats i ≡ some p → 0 < occurrences t (tickets_of p.phase) → c.served < c.next
  in_line i t p at has = between t c.served c.next (omega (arith, l.tickets t, term_le (tickets t) c.seats i p at))

  -- it is the number served or a later one
  pub not_left : (i t : ℕ) (p : CoreSeat) → get_elem? c.seats i ≡ some p → 0 < occurrences t (tickets_of p.phase) → c.served ≤ t
  not_left i t p at has = dite (dec_le c.served t) (λ le. le)
      (λ left. absurd (omega (arith, l.tickets t, term_le (tickets t) c.seats i p at, below_yes t c.served (omega arith), below_le t c.next)))

  pub served_le : c.served ≤ c.next
  served_le =
      dite (dec_le c.served c.next) (λ le. le)
      (λ gt. absurd (omega (arith, l.tickets c.next, below_no c.next c.next (omega arith), below_yes c.next c.served (omega arith))))

  pub waits_in_line : (i t : ℕ) (p : CoreSeat) → get_elem? c.seats i ≡ some p → p.phase ≡ Waiting t → c.served ≤ t
  waits_in_line i t p at waits = not_left i t p at (omega (arith, tickets_waiting t t p waits, occurrences-same t []))

  -- a seat that waits while all others have no numbers is the one that is served
  pub alone_served : (i t : ℕ) (p : CoreSeat) → get_elem? c.seats i ≡ some p → p.phase ≡ Waiting t → numbers ≤ length p.numbers → t ≡ c.served
  alone_served i t p at waits all =
      let mine : occurrences t (tickets_of p.phase) ≡ 1 = tickets_waiting t t p waits ∙ occurrences-same t [] in
      let one : once_below c.served c.next ≡ 1 = below_yes c.served c.next (in_line i t p at (omega (arith, mine))) in
      let only : tickets_at c.served c.seats ≡ occurrences c.served (tickets_of p.phase) = only_term (tickets c.served) c.seats i p at
      (λ k u other e. omega (
        arith,
        times_le c.served (tickets_of u.phase),
        busy draws c.served u (l.each k u e),
        terms_le (λ (s : CoreSeat). length s.numbers) c.seats i k p u other at e,
        l.count,
      )) in
      let found : occurrences c.served (t ∷ []) ≡ 1 = sym (tickets_waiting c.served t p waits) ∙ (sym only ∙ (one_served ∙ one)) in
      dite (ℕ_discrete c.served t) (λ e. sym e) (λ ne. absurd (omega (arith, occurrences-other c.served t [] ne, found)))

  -- where one seat stands for all numbers, no other seat counts
  pub alone : (i : ℕ) (p : CoreSeat) → get_elem? c.seats i ≡ some p → numbers ≤ length p.numbers
      → (g : CoreSeat → ℕ) → ((k : ℕ) (u : CoreSeat) → get_elem? c.seats k ≡ some u → length u.numbers ≡ 0 → g u ≡ 0) → total g c.seats ≡ g p
  alone i p at all g h = only_term g c.seats i p at
      (λ k u other e. h k u e (omega (arith, terms_le (λ (s : CoreSeat). length s.numbers) c.seats i k p u other at e, l.count, all)))

  -- two seats that are there and have the same own number are one
  pub named_once : (i k : ℕ) (p q : CoreSeat) → get_elem? c.seats i ≡ some p → get_elem? c.seats k ≡ some q → is_present p.phase ≡ true
      → is_present q.phase ≡ true → p.own ≡ q.own → k ≡ i
  named_once i k p q at at' there there' same = dite (ℕ_discrete k i) (λ e. e) (λ ne. absurd (omega (
    arith,
    (l.each i p at).own there,
    (l.each k q at').own there',
    ap (λ (n : ℕ). occurrences n q.numbers) same,
    terms_le (λ (s : CoreSeat). occurrences p.own s.numbers) c.seats i k p q ne at at',
    l.numbered p.own,
    below_le p.own numbers,
  )))

  -- a seat's own number is below the number of numbers
  pub own_below : (i : ℕ) (p : CoreSeat) → get_elem? c.seats i ≡ some p → is_present p.phase ≡ true → p.own < numbers
  own_below i p at there = dite (dec_le numbers p.own)
      (λ le. absurd (omega (
        arith,
        (l.each i p at).own there,
        term_le (λ (s : CoreSeat). occurrences p.own s.numbers) c.seats i p at,
        l.numbered p.own,
        below_no p.own numbers le,
      )))
      (λ lt. omega arith)

  -- a fresh seat's range is within the numbers
  pub range_within : (i : ℕ) (p : CoreSeat) → get_elem? c.seats i ≡ some p → p.fresh ≡ true → 0 < length p.numbers → p.own + length p.numbers ≤ numbers
  range_within i p at fresh nonempty_numbers =
      let whole = ((l.each i p at).whole fresh).0 in
      let k : ℕ = length p.numbers - 1 in
      let len : k + 1 ≡ length p.numbers = omega arith in
      let last : 0 < occurrences (p.own + k) p.numbers = omega
      (arith, numbers_from_last p.own k, ap (occurrences (p.own + k)) (ap (numbers_from p.own) len), ap (occurrences (p.own + k)) whole) in
      dite (dec_le numbers (p.own + k))
      (λ le. absurd (omega (
        arith,
        last,
        l.numbered (p.own + k),
        below_no (p.own + k) numbers le,
        term_le (λ (s : CoreSeat). occurrences (p.own + k) s.numbers) c.seats i p at,
      )))
      (λ lt. omega (arith, len))

  -- two seats answer for no more than all numbers, and have ended no more than all calls
  pub two_numbers : (i k : ℕ) (p q : CoreSeat) → k ≢ i → get_elem? c.seats i ≡ some p → get_elem? c.seats k ≡ some q
      → length p.numbers + length q.numbers ≤ numbers
  two_numbers i k p q ne at at' = omega (arith, l.count, terms_le (λ (s : CoreSeat). length s.numbers) c.seats i k p q ne at at')

  pub two_calls : (i k : ℕ) (p q : CoreSeat) → k ≢ i → get_elem? c.seats i ≡ some p → get_elem? c.seats k ≡ some q → p.calls + q.calls ≤ c.served
  two_calls i k p q ne at at' = omega (arith, l.calls, terms_le (λ (s : CoreSeat). s.calls) c.seats i k p q ne at at')

  pub one_calls : (i : ℕ) (p : CoreSeat) → get_elem? c.seats i ≡ some p → p.calls ≤ c.served
  one_calls i p at = omega (arith, l.calls, term_le (λ (s : CoreSeat). s.calls) c.seats i p at)

  -- where one seat has no ticket, fewer tickets are drawn and not left than there are numbers
  pub queue_lt : (i : ℕ) (p : CoreSeat) → get_elem? c.seats i ≡ some p → p.phase ≡ Idle → c.next < c.served + numbers
  queue_lt i p at idle =
      let fewer : total queued c.seats < total (λ (s : CoreSeat). length s.numbers) c.seats = sums_lt queued (λ (s : CoreSeat). length s.numbers) c.seats i p at
      (omega (arith, ap ticket_count idle, (l.each i p at).own (ap is_present idle), times_le p.own p.numbers))
      (λ k u e. busy draws c.served u (l.each k u e)) in
      omega (arith, l.queue, l.count, fewer)

  -- a seat that has a ticket has one of those that are drawn and not left
  pub has_ticket : (i t : ℕ) (p : CoreSeat) → get_elem? c.seats i ≡ some p → tickets_of p.phase ≡ t ∷ [] → 0 < occurrences t (tickets_of p.phase)
  has_ticket i t p at has = omega (arith, ap (occurrences t) has, occurrences-same t [])

  -- while a seat waits, some seat has the ticket that is served
  pub served_seat : (i t : ℕ) (p : CoreSeat) → get_elem? c.seats i ≡ some p → p.phase ≡ Waiting t
      → (k : ℕ) × (u : CoreSeat) × (get_elem? c.seats k ≡ some u) × (tickets_of u.phase ≡ c.served ∷ [])
  served_seat i t p at waits =
      let drawn = in_line i t p at (omega (arith, tickets_waiting t t p waits, occurrences-same t [])) in
      let found = some_term (tickets c.served) c.seats (omega (arith, one_served, below_yes c.served c.next drawn)) in (
        found.0,
        found.1,
        found.2,
        ticket_is c.served found.1.phase found.3,
      )

  -- before a seat has posted its call, no seat has
  pub none_posted : (i t : ℕ) (p : CoreSeat) → get_elem? c.seats i ≡ some p → p.phase ≡ Holding t → posters c.seats ≡ 0
  none_posted i t p at holding =
      let fewer : posters c.seats < holders c.seats = sums_lt posts holds c.seats i p at (omega (arith, ap poster_count_of holding, ap holder_count_of holding))
      (λ k u e. posted_le_as u.phase) in
      omega (arith, fewer, one_holder)
