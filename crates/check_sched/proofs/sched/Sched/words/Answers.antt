use Rattle.std.proofs.Common.{sym, ◌∙◌}
use Rattle.check_sched.proofs.BoardLaws.{length-board_of}
use Rattle.check_sched.specs.Sched.{state_of}
use Rattle.check_sched.proofs.sched.Sched.words.Goals as goal

pub returns : goal.returns
returns c =
    let s = state_of c.self.inside in
    rw (← c.self.view_is) (c.len.ensures.count ∙ sym c.self.invariant.state.one_each ∙ sym (length-board_of s))
