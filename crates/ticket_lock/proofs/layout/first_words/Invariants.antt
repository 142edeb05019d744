use Rattle.std.proofs.Common.{◌≡◌, ◌+◌, ◌≤◌, take, vec_capacity}
use Rattle.ticket_lock.specs.Layout.{first_words}
use Rattle.ticket_lock.proofs.layout.first_words.Given as goal

abbrev pub invariant-loop-place : goal.invariant-loop-place
invariant-loop-place g l = (l.words.items ≡ first_words (take l.place (g.K.Kept.board (g.K.Kept.state l.book)))) × (l.count + 5 ≤ vec_capacity l.words)
