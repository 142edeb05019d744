use Rattle.std.proofs.Common.{◌≡◌, ◌≤◌, take, vec_capacity}
use Rattle.ticket_steps.proofs.core_steps.first_words.Given as goal

abbrev pub invariant-loop-place : goal.invariant-loop-place
invariant-loop-place g l = (l.board.items ≡ take l.place (g.K.Kept.board (g.K.Kept.state l.book))) × (l.count ≤ vec_capacity l.board)
