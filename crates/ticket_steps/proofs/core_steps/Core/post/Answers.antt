use Rattle.std.proofs.Common.{◌≡◌, arith, sym, ap, ◌∙◌, refl, List, ℕ, set, Result, Ok, Err, Some}
use mathlib.Core.Option.{some}
use lib.ListN.{get_elem?}
use Rattle.ticket_steps.specs.declared.books.Kept.{Ghosts}
use Rattle.ticket_steps.specs.Books.{BookState, book_state}
use Rattle.ticket_steps.specs.CoreStates.{CoreState, core_state}
use Rattle.ticket_steps.specs.Faults.{Shows}
use Rattle.ticket_steps.specs.declared.books.NoMemory.{NoMemory}
use Rattle.ticket_steps.specs.declared.seats.CoreSeat.{CoreSeat}
use Rattle.ticket_steps.specs.declared.seats.Phase.TheVariants.{Holding}
use Rattle.ticket_steps.specs.declared.events.Event.TheVariants.{Post}
use Rattle.ticket_steps.specs.declared.events.Seen.TheVariants as seen
use Rattle.ticket_steps.specs.declared.events.Fault.TheVariants.{Phase}
use Rattle.ticket_steps.specs.Cores.{core_state_of}
use Rattle.ticket_steps.specs.Happenings.{posted, post_refused}
use Rattle.ticket_steps.specs.Seats.{posted_seat}
use Rattle.ticket_steps.proofs.BoardLemmas.{Takes, takes, board_posted, words_posted}
use Rattle.ticket_steps.proofs.CoreLemmas.{posted_moves, post_refused_moves, can_refuse, changed_is}
use Rattle.ticket_steps.proofs.FaultLemmas.{steps_fault, steps_shown, shows_lawful, read_is, unfit_post, unplaced}
use Rattle.ticket_steps.proofs.core_steps.Core.post.Given.{Over}
use Rattle.ticket_steps.proofs.core_steps.Core.post.Goals.{After-self-2-1}
use Rattle.ticket_steps.proofs.core_steps.Core.post.Goals as goal

-- what the post of a seat shows, whatever the book answered
post_shows : {K C R : Type 0} (k : Ghosts K C R) (draws : ℕ) (b : CoreState k.State C R) (i own ticket : ℕ) (p w : CoreSeat) (call : C)
    (book : BookState k.State C R) (reply : Result R NoMemory) (place : ℕ) → k.posts_at b.book.state call ≡ Some place
    → get_elem? b.seats i ≡ some p → p.own ≡ own → p.phase ≡ Holding ticket → w ≡ posted_seat ticket p → Takes k own call b.book reply book
    → Shows k draws b (Post own call) (seen.Posted reply) (core_state b.next b.served (set b.seats i w) book)
post_shows k draws b i own ticket p w call book (Ok r) place placed at called holds is took =
    let moves = posted_moves k draws b i own p at called ticket w call r book holds is took.0.0 took.0.1 place placed in
    (posted own call r, refl, refl, moves, (place, placed))
post_shows k draws b i own ticket p w call book (Err e) place placed at called holds is took =
    let moves = post_refused_moves k draws b i own p at called ticket w book holds is took.1 in
    (post_refused own, (call, refl), refl, moves, (place, placed))

pub returns-in_default-clause-step : goal.returns-in_default-clause-step
returns-in_default-clause-step g c =
    let self = c.args.self.now in let e = c.in_ok-at.ensures.found in
    let is = ap (λ (s : CoreSeat). s.phase) (read_is self.seats.items c.in_ok-at.at e.1 c.index.ensures) in
    steps_fault g.K.Kept self.draws (core_state_of self) (Post c.args.seat c.args.call) Phase
    (unfit_post g.K.Kept self.numbers self.draws (core_state_of self) self.lawful c.in_ok-at.at c.args.seat e.0 e.1 e.2 e.3 c.args.call
    (λ ticket holds. c.in_default.not-Holding ticket (is ∙ holds)))

pub record-recorded-requires : goal.record-recorded-requires
record-recorded-requires g c = can_refuse c.args.self.now

-- the seat posts, and its call is recorded or refused
posts : (g : Over) (c : After-self-2-1 g) → let self = c.args.self.now in let k = g.K.Kept in let book = c.record-recorded.new.self in
    Shows k self.draws (core_state_of self) (Post c.args.seat c.args.call) (seen.Posted c.record-recorded.result)
    (core_state self.next self.grants (set self.seats.items c.in_ok-at.at c.post.new.self)
    (book_state (k.state book) (k.history book) (k.refusals book)))
posts g c =
    let self = c.args.self.now in
    let i = c.in_ok-at.at in
    let e = c.in_ok-at.ensures.found in
    let ticket = c.in-Holding.ticket in
    let r = c.record-recorded.ensures in
    let s = changed_is self.seats.items i (posted_seat ticket) (Holding ticket) e.1 c.index.ensures c.in-Holding.is c.index_mut.ensures.value c.post.ensures in
    post_shows g.K.Kept self.draws (core_state_of self) i c.args.seat ticket e.0 c.post.new.self c.args.call _ c.record-recorded.result c.in-Some.place
    (sym c.posts.ensures ∙ c.in-Some.is) e.1 e.2 s.0 s.1
    (takes g.K.Kept g.met.K.Kept.legal g.met.K.Kept.replayed self.book c.record-recorded.new.self c.args.seat c.args.call c.record-recorded.result
    r.same r.replied r.refused)

pub invariant_of-self-clause-lawful : goal.invariant_of-self-clause-lawful
invariant_of-self-clause-lawful g c = shows_lawful g.K.Kept _ _ _ _ _ _ c.args.self.now.lawful (posts g c)

pub returns-clause-step : goal.returns-clause-step
returns-clause-step g c = steps_shown g.K.Kept _ _ _ _ _ (posts g (goal.at.returns-clause-step g c).After-self-2-1)

pub returns-in_default-posts-clause-step : goal.returns-in_default-posts-clause-step
returns-in_default-posts-clause-step g c =
    let self = c.args.self.now in let e = c.in_ok-at.ensures.found in
    steps_fault g.K.Kept self.draws (core_state_of self) (Post c.args.seat c.args.call) Phase
    (unplaced g.K.Kept self.numbers self.draws (core_state_of self) self.lawful c.in_ok-at.at c.args.seat e.0 e.1 e.2 e.3 (Post c.args.seat c.args.call)
    (λ there. there) (λ t. c.in_default-posts.not-Some t.0 (c.posts.ensures ∙ t.1)))

pub word-requires : goal.word-requires
word-requires g c =
    let self = c.args.self.now in
    let k = g.K.Kept in
    let r = c.record-recorded.ensures in
    let placed = sym c.posts.ensures ∙ c.in-Some.is in
    omega (
      arith,
      words_posted k g.met.K.Kept.legal g.met.K.Kept.replayed g.met.K.Kept.posted self.book c.record-recorded.new.self c.args.seat
          c.in-Some.place c.args.call c.record-recorded.result r.same r.replied r.refused placed,
      g.met.K.Kept.within (k.state self.book) c.args.call c.in-Some.place placed,
    )

pub invariant_of-self-clause-readout : goal.invariant_of-self-clause-readout
invariant_of-self-clause-readout g c =
    let self = c.args.self.now in
    let k = g.K.Kept in
    let r = c.record-recorded.ensures in
    let place = c.in-Some.place in
    ap (λ (l : List ℕ). set l place c.word.result) self.readout
    ∙ (ap (set (k.board (k.state self.book)) place) c.word.ensures
    ∙ sym (board_posted k g.met.K.Kept.legal g.met.K.Kept.replayed g.met.K.Kept.posted self.book c.record-recorded.new.self c.args.seat
    place c.args.call c.record-recorded.result r.same r.replied r.refused (sym c.posts.ensures ∙ c.in-Some.is)))
