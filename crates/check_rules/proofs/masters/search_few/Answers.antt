use Rattle.std.proofs.Common.{◌∙◌, ◌-◌, ◌==◌, [], ◌∷◌, false, ap, arith, get_or, length, refl, rules, sym, take}
use Rattle.setup_order.proofs.TestLemmas.{or_first}
use Rattle.check_rules.proofs.MarkLemmas.{marked_here, marked_within, same_number}
use Rattle.check_rules.proofs.SearchLemmas.{ends, finds, last_marked, last_of, starts, visits}
use Rattle.check_rules.proofs.masters.search_few.Goals as goal

pub loop-turn-init : goal.loop-turn-init
loop-turn-init c =
    let setup = c.args.setup.now in
    let n = c.args.n in
    let made = c.in_ok-count.ensures in
    let size = c.fill.ensures.len in
    let scratch = c.requires.scratch in
    let in_range = c.requires.in_range in
    let begun = starts setup c.args.standings.now n c.fill.new.self (n ∷ []) (length c.args.marks.now) (c.fill.ensures.after search) scratch in_range
    (or_first (n == n) false (same_number n)) in
    let own = c.dependencies.ensures.dependencies in (
      visits setup c.args.standings.now n c.len-turn-end.ensures.setup _ [] n begun
          (marked_here c.fill.new.self n (omega (arith, size, scratch, in_range))) in_range _ _ false c.dependencies.result.now own
          (rw own (sym c.requires.unmet)) refl made.marked made.all made.queued,
      made.queued.marked refl,
      made.fits,
      search rules,
    )

pub returns-then-count-eq0-clause-value : goal.returns-then-count-eq0-clause-value
returns-then-count-eq0-clause-value c =
    ends c.args.setup.now c.args.standings.now c.args.n c.loop-turn.marks (take c.loop-turn.count c.loop-turn.waiting)
    (ap (λ k. take k c.loop-turn.waiting) c.if-count-eq0.true) c.loop-turn.invariant.0

pub dependencies-dependencies-requires : goal.dependencies-dependencies-requires
dependencies-dependencies-requires c =
    let some = c.if-count-eq0.false in
    let last = last_marked c.loop-turn.marks c.loop-turn.waiting c.loop-turn.count 0 (omega (arith, some)) c.loop-turn.invariant.2
    c.loop-turn.invariant.1 in
    let below = marked_within c.loop-turn.marks _ last.1 in
    let size = c.loop-turn.invariant.0.size in
    omega (arith, below, size)

pub returns-then-is_any_met-clause-value : goal.returns-then-is_any_met-clause-value
returns-then-is_any_met-clause-value c =
    let waiting = c.loop-turn.waiting in
    let count = c.loop-turn.count in
    let some = c.if-count-eq0.false in
    let fits = c.loop-turn.invariant.2 in
    let last = last_marked c.loop-turn.marks waiting count 0 (omega (arith, some)) fits c.loop-turn.invariant.1 in
    let is = rw (last_of waiting count 0 (omega (arith, some)) fits) at c.loop-turn.invariant.0 in
    let below = marked_within c.loop-turn.marks _ last.1 in
    let size = c.loop-turn.invariant.0.size in
    finds c.args.setup.now c.args.standings.now c.args.n c.len-turn-end.ensures.setup c.loop-turn.marks (take (count - 1) waiting)
    (get_or waiting (count - 1) 0) is last.1 (omega (arith, below, size)) c.is_any_met.result c.dependencies-dependencies.result.now
    c.dependencies-dependencies.ensures.dependencies c.is_any_met.ensures c.if-is_any_met.true

pub loop-turn-preserved : goal.loop-turn-preserved
loop-turn-preserved c =
    let waiting = c.loop-turn.waiting in
    let count = c.loop-turn.count in
    let some = c.if-count-eq0.false in
    let fits = c.loop-turn.invariant.2 in
    let last = last_marked c.loop-turn.marks waiting count 0 (omega (arith, some)) fits c.loop-turn.invariant.1 in
    let is = rw (last_of waiting count 0 (omega (arith, some)) fits) at c.loop-turn.invariant.0 in
    let below = marked_within c.loop-turn.marks _ last.1 in
    let size = c.loop-turn.invariant.0.size in
    let made = c.in_ok-count-2.ensures in (
      visits c.args.setup.now c.args.standings.now c.args.n c.len-turn-end.ensures.setup c.loop-turn.marks (take (count - 1) waiting)
          (get_or waiting (count - 1) 0) is last.1 (omega (arith, below, size)) _ _ c.is_any_met.result c.dependencies-dependencies.result.now
          c.dependencies-dependencies.ensures.dependencies c.is_any_met.ensures c.if-is_any_met.false made.marked made.all made.queued,
      made.queued.marked last.0,
      made.fits,
      made.room ∙ c.loop-turn.invariant.3,
    )
