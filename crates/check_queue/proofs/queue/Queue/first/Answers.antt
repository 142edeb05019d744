use Rattle.std.proofs.Common.{◌≡◌, arith}
use Rattle.std.proofs.lemmas.List.{get_or_read}
use Rattle.check_queue.specs.Entries.{entry_at}
use Rattle.check_queue.proofs.PositionLaws.{nowhere}
use Rattle.check_queue.proofs.QueueLaws.{first_is, no_first, no_time}
use Rattle.check_queue.proofs.queue.Queue.first.Goals as goal
use Rattle.check_queue.proofs.queue.Queue.first.Goals.{After-index-first}

pub returns-then-self-eq0-clause-least : goal.returns-then-self-eq0-clause-least
returns-then-self-eq0-clause-least c = rw (← c.self.view_is) (no_first _ _ _ c.self.invariant (omega arith))

pub returns-then-self-eq0-clause-present : goal.returns-then-self-eq0-clause-present
returns-then-self-eq0-clause-present c = rw (← c.self.view_is) (λ k. no_time _ _ _ k c.self.invariant (omega arith))

root : (c : After-index-first) → c.index-first.result.now ≡ entry_at c.self.inside.entries.items 0
root c =
    let capacity = c.self.invariant.linked.capacity in
    get_or_read c.self.inside.entries.items 0 c.index-first.result.now (omega arith) c.index-first.ensures nowhere

pub returns-clause-least : goal.returns-clause-least
returns-clause-least c =
    rw (← c.self.view_is, root (goal.at.returns-clause-least c).After-index-first) (first_is _ _ _ c.self.invariant (omega arith)).least

pub returns-clause-present : goal.returns-clause-present
returns-clause-present c =
    rw (← c.self.view_is, root (goal.at.returns-clause-present c).After-index-first) (first_is _ _ _ c.self.invariant (omega arith)).time
