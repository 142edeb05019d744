use Rattle.std.proofs.Common.{rules, ◌<◌, arith, sym, ap, ◌∙◌, subst, length, length-append}
use Rattle.ticket_steps.specs.Sums.{occurrences}
use Rattle.ticket_steps.proofs.SumLemmas.{occurrences-append}
use Rattle.ticket_lock.specs.Legal.{IsLegalFrom}
use Rattle.ticket_lock.specs.Views.{longer}
use Rattle.ticket_lock.proofs.Obligations.{joins, second_loads}
use Rattle.ticket_lock.proofs.HistoryLemmas.{longer_is}
use Rattle.ticket_lock.proofs.lock.TicketLock.gather.Goals as goal

pub join_seat-requires : goal.join_seat-requires
join_seat-requires g c = let s = c.args.seat in let o = c.args.other in (
  c.requires.lock.0.0,
  c.requires.lock.1.0,
  o.bare,
  search rules,
  joins g.K.Kept _ _ _ s.table_seat.me.0 o.table_seat.me.0 s.idle o.idle,
)

pub load-requires : goal.load-requires
load-requires g c = let e = c.join_seat.ensures in (
  e.0 ∙ c.requires.lock.0.0,
  search rules,
  second_loads g.K.Kept _ _ _ c.join_seat.new.seat.me (ap (λ m. m.0.seat.phase) e.2),
)

pub invariant_of-result : goal.invariant_of-result
invariant_of-result g c =
    let k = g.K.Kept in
    let s = c.args.seat in
    let o = c.args.other in
    let j = c.join_seat.ensures.2 in
    let t = c.load.ensures.2 (ap (λ m. m.0.seen) j ∙ sym (ap (λ m. longer m.0.one.seen m.0.two.seen) j)) in
    let e = t.0 in
    let both = length-append s.table_seat.me.0.seat.numbers o.table_seat.me.0.seat.numbers in
    let legal = longer_is s.table_seat.me.0.seen o.table_seat.me.0.seen (IsLegalFrom k s.table_seat.me.0.start)
    (λ _. subst (λ a. IsLegalFrom k a o.table_seat.me.0.seen) (c.requires.lock.1.1 ∙ sym c.requires.lock.0.1) o.legal) (λ _. s.legal) in
    record {
      bare = ap (λ m. m.1) e ∙ (ap (λ m. m.1) j ∙ s.bare);
      legal = subst (λ m. IsLegalFrom k m.0.start m.0.seen) (sym e) (subst (λ m. IsLegalFrom k m.0.start m.0.seen) (sym j) legal);
      idle = ap (λ m. m.0.seat.phase) e ∙ ap (λ m. m.0.seat.phase) j;
      agreement = record {
        own = ap (λ m. m.0.seat.own) e ∙ (ap (λ m. m.0.seat.own) j ∙ s.agreement.own);
        count =
            ap (λ m. length m.0.seat.numbers) e
            ∙ (ap (λ m. length m.0.seat.numbers) j ∙ omega (arith, both, s.agreement.count, o.agreement.count));
        left = ap (λ m. m.0.seat.left) e ∙ (ap (λ m. m.0.seat.left) j ∙ s.agreement.left);
        calls = ap (λ m. m.0.seat.calls) e ∙ (ap (λ m. m.0.seat.calls) j ∙ omega (arith, s.agreement.calls, o.agreement.calls));
        nonempty_numbers = omega (arith, s.agreement.nonempty_numbers);
        bounded_numbers =
            omega (arith, t.3, ap (λ m. length m.0.seat.numbers) j, both, s.agreement.count, o.agreement.count);
        bounded_calls = omega (arith, t.4, ap (λ m. m.0.seat.calls) j, s.agreement.calls, o.agreement.calls);
        among = subst (λ m. 0 < occurrences m.0.seat.own m.0.seat.numbers) (sym e) (subst (λ m. 0 < occurrences m.0.seat.own m.0.seat.numbers) (sym j)
            (omega (arith, s.agreement.among, occurrences-append s.table_seat.me.0.seat.own s.table_seat.me.0.seat.numbers o.table_seat.me.0.seat.numbers)));
      };
      fresh_is = ap (λ m. m.0.seat.fresh) e ∙ ap (λ m. m.0.seat.fresh) j;
      range = λ some. absurd (omega (arith, some));
      row = λ some. absurd (omega (arith, some));
    }
