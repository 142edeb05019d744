use Rattle.std.proofs.Common.{◌<◌, ap, arith, length, sym, ◌∙◌}
use Rattle.check_states.specs.Board.{word_of_standing}
use Rattle.check_sched.specs.Board.{board_of}
use Rattle.check_sched.proofs.BoardLaws.{length-board_of, word_at}
use Rattle.check_sched.specs.Sched.{state_of}
use Rattle.check_sched.proofs.ReportLaws.{standing_read}
use Rattle.check_sched.proofs.sched.Sched.word.Goals as goal

pub index-requires : goal.index-requires
index-requires c =
    let words = ap (λ s. length (board_of s)) c.self.view_is in
    let objects = length-board_of (state_of c.self.inside) in
    let each = c.self.invariant.state.one_each in
    let standings = c.self.invariant.state.one_standing_each in
    omega (arith, c.requires, words, objects, each, standings)

pub returns : goal.returns
returns c =
    let s = state_of c.self.inside in
    let words = ap (λ z. length (board_of z)) c.self.view_is in
    let objects = length-board_of s in
    let in_range : c.args.number < length s.objects = omega (arith, c.requires, words, objects) in
    let each = c.self.invariant.state.one_each in
    let standings = c.self.invariant.state.one_standing_each in
    let read = standing_read c.self.inside.standings.items c.args.number c.index.result.now (omega (arith, in_range, each, standings)) c.index.ensures in
    rw (← c.self.view_is) (c.code.ensures.value ∙ ap word_of_standing (sym read) ∙ sym (word_at s c.args.number in_range))
