use Rattle.std.proofs.Common.{rules, ◌≡◌, ℕ, ◌+◌, ◌-◌, ◌≤◌, List, arith, sym, ap, ◌∙◌, length, take, drop}
use Rattle.ticket_steps.specs.Seats.{fresh_seat}
use Rattle.ticket_steps.specs.Sums.{numbers_from}
use Rattle.ticket_steps.proofs.SumLemmas.{drop-numbers_from, take-numbers_from}
use Rattle.ticket_lock.specs.Tokens.{caller_in}
use Rattle.ticket_lock.specs.Views.{draws_in}
use Rattle.ticket_lock.proofs.Callers.{kept_caller_is, given_caller_is}
use Rattle.ticket_lock.proofs.Obligations.{splits}
use Rattle.std.proofs.lemmas.Bool.{ltb-true}
use Rattle.ticket_lock.proofs.lock.TicketLock.split_by.Given.{Over}
use Rattle.ticket_lock.proofs.lock.TicketLock.split_by.Goals.{After-split_seat-other}
use Rattle.ticket_lock.proofs.lock.TicketLock.split_by.Goals as goal

pub split_seat-other-requires : goal.split_seat-other-requires
split_seat-other-requires g c = let s = c.args.seat in (
  c.requires.4.0,
  search rules,
  splits g.K.Kept _ _ g.N.Count.count s.table_seat.me.0 _ c.requires.4.1 s.idle c.requires.3 (omega (arith, c.requires.0, c.requires.1))
      (omega (arith, c.requires.0, c.requires.2)),
)

-- the last numbers of a row, and the first
last_of_row : (ns : List ℕ) (own size given_count n : ℕ) → ns ≡ numbers_from own size → length ns ≡ size → n ≡ given_count → given_count ≤ size
    → drop (length ns - n) ns ≡ numbers_from (own + (size - given_count)) given_count
last_of_row ns own size given_count n row len is le =
    let kept : length ns - n ≡ size - given_count = omega (arith, len, is) in
    let left : size - (size - given_count) ≡ given_count = omega (arith, le) in
    (λ i. drop (kept i) (row i)) ∙ drop-numbers_from own (size - given_count) size (omega arith) ∙ ap (numbers_from (own + (size - given_count))) left

first_of_row : (ns : List ℕ) (own size given_count n : ℕ) → ns ≡ numbers_from own size → length ns ≡ size → n ≡ given_count
    → take (length ns - n) ns ≡ numbers_from own (size - given_count)
first_of_row ns own size given_count n row len is =
    let kept : length ns - n ≡ size - given_count = omega (arith, len, is) in
    (λ i. take (kept i) (row i)) ∙ take-numbers_from own (size - given_count) size (omega arith)

-- the seat has a row of numbers, within those of its lock
in_row : (g : Over) (c : After-split_seat-other g) → let s = c.args.seat in
    (s.table_seat.me.0.seat.numbers ≡ numbers_from s.counts.number s.counts.count) × (s.counts.number + s.counts.count ≤ 1024)
in_row g c = let s = c.args.seat in let some = ltb-true 0 s.parts (sym s.fresh_is ∙ c.requires.3) in (s.row some, s.range some)

pub with_all_draws-split_part-requires-clause-seat : goal.with_all_draws-split_part-requires-clause-seat
with_all_draws-split_part-requires-clause-seat g c =
    let s = c.args.seat in
    let v = s.table_seat.me.0 in
    let before = in_row g (goal.at.with_all_draws-split_part-requires-clause-seat g c).After-split_seat-other in
    let own : v.seat.own + (length v.seat.numbers - g.N.Count.count) ≡ s.counts.number + (s.counts.count - c.args.count) =
    omega (arith, s.agreement.own, s.agreement.count, c.requires.0) in
    let row = last_of_row v.seat.numbers s.counts.number s.counts.count c.args.count g.N.Count.count before.0 s.agreement.count (sym c.requires.0)
    (omega (arith, c.requires.2, s.agreement.count)) in
    ap (λ m. m.0.seat) c.split_seat-other.ensures.4 ∙ (λ i. fresh_seat (draws_in (c.requires.4.1 i)) (own i) (row i) 0)

pub with_all_draws-seat-requires-clause-seat : goal.with_all_draws-seat-requires-clause-seat
with_all_draws-seat-requires-clause-seat g c =
    let s = c.args.seat in
    let before = in_row g (goal.at.with_all_draws-seat-requires-clause-seat g c).After-split_seat-other in
    let row = first_of_row s.table_seat.me.0.seat.numbers s.counts.number s.counts.count c.args.count g.N.Count.count before.0 s.agreement.count
    (sym c.requires.0) in
    ap (λ m. m.0.seat) c.split_seat-other.ensures.2 ∙ (λ i. fresh_seat (draws_in (c.requires.4.1 i)) (s.agreement.own i) (row i) (s.agreement.calls i))

pub returns-clause-kept : goal.returns-clause-kept
returns-clause-kept g c =
    let is = kept_caller_is c.args.seat.table_seat.me.0 g.N.Count.count c.args.count c.args.self.now.draws (sym c.requires.0)
    (ap draws_in c.requires.4.1) (omega (arith, c.requires.2)) in
    (search rules, ap (λ s. caller_in s.me.0) c.with_all_draws-seat.ensures ∙ (ap (λ m. caller_in m.0) c.split_seat-other.ensures.2 ∙ is))

pub returns-clause-split_part : goal.returns-clause-split_part
returns-clause-split_part g c =
    let is = given_caller_is c.args.seat.table_seat.me.0 g.N.Count.count c.args.count c.args.self.now.draws (sym c.requires.0)
    (ap draws_in c.requires.4.1) (omega (arith, c.requires.2)) in
    (search rules, ap (λ s. caller_in s.me.0) c.with_all_draws-split_part.ensures ∙ (ap (λ m. caller_in m.0) c.split_seat-other.ensures.4 ∙ is))
