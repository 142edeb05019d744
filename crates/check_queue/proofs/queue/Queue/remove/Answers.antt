use Rattle.std.proofs.Common.{None, sym, ap, refl, ◌∙◌}
use Rattle.std.specs.Vec.{with_item}
use Rattle.std.proofs.Math.ListN.{set}
use Rattle.check_queue.specs.Positions.{absent, position_of, times_in}
use Rattle.check_queue.proofs.HeapLaws.{Sinks}
use Rattle.check_queue.proofs.QueueLaws.{leaves, none_leaves, settles}
use Rattle.check_queue.proofs.queue.Queue.remove.Goals as goal
use Rattle.check_queue.proofs.queue.Queue.remove.Goals.{After-deref_mut-2}

pub returns-in_default-clause-after : goal.returns-in_default-clause-after
returns-in_default-clause-after c =
    rw (← c.self.view_is)
    (none_leaves _ _ c.args.number (sym (c.position_of.ensures ∙ ap (λ ps. position_of ps c.args.number) c.deref.ensures.value) ∙ c.in_default.is))

-- the number is taken out
left : (c : After-deref_mut-2)
    → Sinks c.deref_mut.result.now c.deref_mut-2.result.now c.self.inside.len c.in-Some.hole
    (set (times_in c.self.inside.entries.items c.self.inside.positions.items) c.args.number None)
left c =
    rw (c.deref_mut.ensures.value, c.deref_mut-2.ensures.value) (leaves _ _ _ c.args.number _ c.self.invariant
    (sym (c.position_of.ensures ∙ ap (λ ps. position_of ps c.args.number) c.deref.ensures.value) ∙ c.in-Some.is))

pub close_hole-requires : goal.close_hole-requires
close_hole-requires c = (left (goal.at.close_hole-requires c).After-deref_mut-2).around

pub invariant_of-self : goal.invariant_of-self
invariant_of-self c =
    let s = left (goal.at.invariant_of-self c).After-deref_mut-2 in let times = c.close_hole.ensures.times ∙ s.times in
    (settles c.self.inside.entries (with_item c.self.inside.positions c.args.number absent) c.deref_mut.ensures.value c.deref_mut-2.ensures.value
    s refl c.close_hole.ensures.ordered times).ordered

pub returns-clause-after : goal.returns-clause-after
returns-clause-after c =
    let s = left (goal.at.returns-clause-after c).After-deref_mut-2 in let times = c.close_hole.ensures.times ∙ s.times in
    (settles c.self.inside.entries (with_item c.self.inside.positions c.args.number absent) c.deref_mut.ensures.value c.deref_mut-2.ensures.value
    s refl c.close_hole.ensures.ordered times).times ∙ ap (λ ts. set ts c.args.number None) c.self.view_is
