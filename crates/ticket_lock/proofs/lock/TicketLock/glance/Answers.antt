use Rattle.std.proofs.Common.{arith, sym, ap, ◌∙◌, subst, slice_index}
use Rattle.ticket_lock.specs.Boards.{board_after}
use Rattle.ticket_lock.specs.Counts.{AreCountsOf}
use Rattle.ticket_lock.specs.Legal.{IsLegalFrom}
use Rattle.ticket_lock.specs.Views.{Follows}
use Rattle.ticket_lock.proofs.BoardLemmas.{AreLaws}
use Rattle.ticket_lock.proofs.Obligations.{glances}
use Rattle.ticket_lock.proofs.lock.TicketLock.glance.Given.{Over}
use Rattle.ticket_lock.proofs.lock.TicketLock.glance.Goals as goal

laws_of : (g : Over) → AreLaws g.K.Kept
laws_of g = record { legal = g.met.K.Kept.legal; replayed = g.met.K.Kept.replayed; unposted = g.met.K.Kept.unposted; posted = g.met.K.Kept.posted }

pub load-word-requires : goal.load-word-requires
load-word-requires g c =
    let s = c.args.seat in
    let lock = c.args.self.now in (
      c.requires.lock.0,
      omega (arith, c.board_word.ensures, c.requires.place, lock.sized.0, lock.table.shared.key.counted),
      glances g.K.Kept _ (laws_of g) _ _ c.args.place _ s.table_seat.me c.board_word.ensures s.idle c.requires.place,
    )

pub invariant_of-seat : goal.invariant_of-seat
invariant_of-seat g c =
    let k = g.K.Kept in
    let s = c.args.seat in
    let t = c.load-word.ensures.2 in
    let now = ap (λ m. m.0) t.1 in
    record {
      bare = ap (λ m. m.1) t.1 ∙ s.bare;
      legal = subst (λ w. IsLegalFrom k w.start w.seen) (sym now)
          (subst (λ a. IsLegalFrom k a t.0) (sym c.requires.lock.1) (t.2 _ c.requires.lock.1).legal);
      idle = ap (λ w. w.seat.phase) now ∙ s.idle;
      agreement = subst (λ w. AreCountsOf s.counts w.seat) (sym now) s.agreement;
      fresh_is = ap (λ w. w.seat.fresh) now ∙ s.fresh_is;
      range = s.range;
      row = λ h. ap (λ w. w.seat.numbers) now ∙ s.row h;
    }

pub returns-clause-seen : goal.returns-clause-seen
returns-clause-seen g c =
    let s = c.args.seat in
    let t = c.load-word.ensures.2 in
    subst (λ w. Follows s.table_seat.me.0.seat.numbers s.table_seat.me.0.seen w.seen) (sym (ap (λ m. m.0) t.1)) (t.2 _ c.requires.lock.1).follows

pub returns-clause-word : goal.returns-clause-word
returns-clause-word g c =
    let t = c.load-word.ensures.2 in
    (t.2 _ c.requires.lock.1).shown c.args.place c.board_word.ensures
    ∙ ap (λ w. slice_index (board_after g.K.Kept c.args.self.now.table.shared.key.book.value w.seen) c.args.place) (sym (ap (λ m. m.0) t.1))
