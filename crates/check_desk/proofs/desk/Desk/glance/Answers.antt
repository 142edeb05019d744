use Rattle.std.proofs.Common.{◌≡◌, ◌<◌, ◌∙◌, Some, None, sym, ap, arith}
use Rattle.check_states.specs.Board.{standing_of_word}
use Rattle.check_book.specs.Books.{opening_of}
use Rattle.ticket_lock.specs.Tokens.{seat_of, start_of, words_of}
use Rattle.check_desk.specs.Desks.{objects_of, standing_after}
use Rattle.check_desk.proofs.BoardLemmas.{words_opened}
use Rattle.check_desk.proofs.desk.Desk.glance.Goals.{After-decode, Else-self-object}
use Rattle.check_book.proofs.PublicLaws.{state_read}
use Rattle.check_desk.proofs.desk.Desk.glance.Goals as goal

-- the object is there
there : (c : Else-self-object) → c.args.object < objects_of c.args.self.now
there c = omega (arith, c.if-self-object.false, c.args.self.now.objects_are)

-- what the word is read as
read : (c : After-decode) → c.decode.result ≡ Some (standing_after c.args.self.now (seat_of c.glance-seat.result.0).seen c.args.object)
read c =
    let desk = c.args.self.now in
    let book = (start_of desk.lock).book in
    let opened = opening_of book in
    c.decode.ensures.value ∙ (ap standing_of_word c.glance-seat.ensures.word
    ∙ state_read opened (seat_of c.glance-seat.result.0).seen c.args.object book.opened
    (there (goal.at.returns-clause-missing c).Else-self-object))

pub glance-seat-requires-clause-place : goal.glance-seat-requires-clause-place
glance-seat-requires-clause-place c =
    let desk = c.args.self.now in
    let long : words_of desk.lock ≡ objects_of desk = words_opened (start_of desk.lock).book in
    omega (arith, there (goal.at.glance-seat-requires-clause-place c).Else-self-object, long)

pub returns-clause-missing : goal.returns-clause-missing
returns-clause-missing c =
    let known : Some (standing_after c.args.self.now (seat_of c.glance-seat.result.0).seen c.args.object) ≡ c.decode.result = sym (read c) in
    let less = there (goal.at.returns-clause-missing c).Else-self-object in (
      λ none. let no : Some (standing_after c.args.self.now (seat_of c.glance-seat.result.0).seen c.args.object) ≡ None = known ∙ none in absurd (cc),
      λ past. absurd (omega (arith, past, less)),
    )

pub returns-clause-standing : goal.returns-clause-standing
returns-clause-standing c = λ less. read c
