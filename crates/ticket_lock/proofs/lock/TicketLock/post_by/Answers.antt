use Rattle.std.proofs.Common.{arith, ap, ◌∙◌, length, cond, Bool}
use Rattle.ticket_steps.specs.declared.seats.Phase.TheVariants.{Holding, Posted}
use Rattle.ticket_lock.specs.Tokens.{start_of}
use Rattle.ticket_lock.proofs.BoardLemmas.{AreLaws, as_many_in}
use Rattle.ticket_lock.proofs.Obligations.{posts}
use Rattle.ticket_lock.proofs.lock.TicketLock.post_by.Given.{Over}
use Rattle.ticket_lock.proofs.lock.TicketLock.post_by.Goals as goal

laws_of : (g : Over) → AreLaws g.K.Kept
laws_of g = record { legal = g.met.K.Kept.legal; replayed = g.met.K.Kept.replayed; unposted = g.met.K.Kept.unposted; posted = g.met.K.Kept.posted }

pub word-word-requires : goal.word-word-requires
word-word-requires g c =
    let k = g.K.Kept in
    omega (
      arith,
      c.requires.may.3,
      as_many_in k (laws_of g) c.args.book.now,
      ap (λ (s : g.K.Kept.State). length (g.K.Kept.board s)) c.requires.may.2.opening,
    )

pub store-requires : goal.store-requires
store-requires g c =
    let s = c.args.hold in
    let lock = c.args.self.now in (
      c.requires.may.0.0,
      omega (arith, c.board_word.ensures, c.requires.may.3, lock.sized.0, lock.table.shared.key.counted),
      posts g.K.Kept _ (laws_of g) _ _ s.ticket c.args.place _ _ _ _ s.table_seat.me c.args.book.now (start_of lock) c.board_word.ensures
          c.word-word.ensures c.requires.after.0 c.requires.after.1
          (s.holds ∙ ap (λ (b : Bool). cond b (Posted s.ticket) (Holding s.ticket)) c.requires.may.1) c.requires.may.0.1 c.requires.may.2,
    )
