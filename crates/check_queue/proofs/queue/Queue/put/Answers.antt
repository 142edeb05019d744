use Rattle.std.proofs.Common.{◌≡◌, ◌+◌, length, Some, None, ap, ◌∙◌, arith}
use Rattle.std.proofs.Math.ListN.{set}
use Rattle.std.proofs.lemmas.List.{get_or-set_same, length-set, set-set}
use Rattle.check_queue.specs.Positions.{times_in}
use Rattle.check_queue.proofs.HeapLaws.{Rises}
use Rattle.check_queue.proofs.QueueLaws.{rises_new, settles}
use Rattle.check_queue.proofs.TimesLaws.{time_at}
use Rattle.check_queue.proofs.queue.Queue.put.Goals as goal
use Rattle.check_queue.proofs.queue.Queue.put.Goals.{After-deref_mut-2}

-- the number has no time now
rises : (c : After-deref_mut-2)
    → Rises c.deref_mut.result.now c.deref_mut-2.result.now (c.self.inside.len + 1) c.self.inside.len (record { time = c.args.time; number = c.args.number })
    (times_in c.self.inside.entries.items c.self.inside.positions.items)
rises c =
    let k = c.args.number in
    let gone : times_in c.self.inside.entries.items c.self.inside.positions.items ≡ set c.args.self.now k None = c.self.view_is ∙ c.remove.ensures.after in
    let long = ap length gone ∙ length-set c.args.self.now k None in
    let below = c.requires in
    rw (c.deref_mut.ensures.value, c.deref_mut-2.ensures.value)
    (rises_new _ _ _ k c.args.time c.self.invariant (omega arith)
    (ap (λ ts. time_at ts k) gone ∙ get_or-set_same c.args.self.now k None None below))

pub sift_up-requires-clause-around : goal.sift_up-requires-clause-around
sift_up-requires-clause-around c = (rises (goal.at.sift_up-requires-clause-around c).After-deref_mut-2).kept.around

pub sift_up-requires-clause-outside : goal.sift_up-requires-clause-outside
sift_up-requires-clause-outside c = (rises (goal.at.sift_up-requires-clause-outside c).After-deref_mut-2).outside

pub invariant_of-self : goal.invariant_of-self
invariant_of-self c =
    let kept = (rises (goal.at.invariant_of-self c).After-deref_mut-2).kept in
    let times = c.sift_up.ensures.times ∙ ap (λ ts. set ts c.args.number (Some c.args.time)) kept.times in
    (settles c.self.inside.entries c.self.inside.positions c.deref_mut.ensures.value c.deref_mut-2.ensures.value kept (length-set _ _ _)
    c.sift_up.ensures.ordered times).ordered

pub returns : goal.returns
returns c =
    let k = c.args.number in let kept = (rises (goal.at.returns c).After-deref_mut-2).kept in
    let times = c.sift_up.ensures.times ∙ ap (λ ts. set ts k (Some c.args.time)) kept.times in
    (settles c.self.inside.entries c.self.inside.positions c.deref_mut.ensures.value c.deref_mut-2.ensures.value kept (length-set _ _ _)
    c.sift_up.ensures.ordered times).times
    ∙ ap (λ ts. set ts k (Some c.args.time)) (c.self.view_is ∙ c.remove.ensures.after) ∙ set-set c.args.self.now k None _
