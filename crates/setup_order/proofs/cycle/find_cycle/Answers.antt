use Rattle.std.proofs.Common.{◌≡◌, IfOk, Result, Ok, Err, length, map, subst, sym, true}
use Rattle.setup_order.specs.Search.{is_waiting}
use Rattle.setup_order.proofs.WalkLemmas.{round_is_cycle, walk_returns, walked_waits}
use Rattle.setup_order.proofs.cycle.find_cycle.Goals as goal

each_ok : {A E : Type 0} (P Q : A → Type 0) (r : Result A E) → ((x : A) → P x → Q x) → IfOk r P → IfOk r Q
each_ok P Q (Ok x) weaker holds = weaker x holds
each_ok P Q (Err e) weaker holds = tt

pub closed_walk-requires : goal.closed_walk-requires
closed_walk-requires c =
    let links = map (λ list. list.items) c.args.links.now in
    let walked = rw c.deref-2.ensures.value at c.object_on_cycle.ensures in
    rw (c.deref.ensures.value, walked)
    (walk_returns links c.args.left.now c.in_ok-next.next.items c.last_waiting_object-start.result c.requires.stuck c.in_ok-next.ensures c.last_waiting_object-start.ensures)

pub returns : goal.returns
returns c =
    let links = map (λ list. list.items) c.args.links.now in
    let next = c.in_ok-next.next.items in
    let walked = rw c.deref-2.ensures.value at c.object_on_cycle.ensures in
    let closed_walk = rw c.deref.ensures.value at c.closed_walk.ensures in
    let at : is_waiting c.args.left.now c.object_on_cycle.result ≡ true = subst (λ o. is_waiting c.args.left.now o ≡ true) (sym walked)
    (walked_waits links c.args.left.now next c.last_waiting_object-start.result (length next) c.requires.stuck c.in_ok-next.ensures c.last_waiting_object-start.ensures) in
    each_ok _ _ c.closed_walk.result (λ cycle is. round_is_cycle links c.args.left.now next c.object_on_cycle.result cycle.items c.requires.stuck c.in_ok-next.ensures at is) closed_walk
