use Rattle.std.proofs.Common.{◌%◌, ◌<◌, ◌+◌, ap, arith, sym, ◌∙◌}
use Rattle.std.proofs.Math.Nat.{mod-lt}
use Rattle.std.proofs.lemmas.Grind.{get_or_default_zero}
use Rattle.std.proofs.lemmas.Result.{IfOk-weaker}
use Rattle.check_spread.specs.Visits.{sums_before}
use Rattle.check_spread.proofs.VisitLemmas.{has_remainder_before, counts_first, counts_add, counts_skip, counts_all, few_in_all, ranks_first, visits_few}
use Rattle.check_spread.proofs.VisitLemmas.{remainder_same}
use Rattle.check_spread.proofs.VisitLemmas.{remainder_more}
use Rattle.check_spread.proofs.visits.first_ranks.Goals as goal
use Rattle.check_spread.proofs.visits.first_ranks.Goals.{then-is_scheduled, else-is_scheduled}

pub loop-position-init : goal.loop-position-init
loop-position-init c = counts_first c.args.factor c.args.objects.now c.in_ok-counts.counts.items (c.in_ok-counts.ensures.items_if_clones_equal search)

pub overflow_add-index_mut : goal.overflow_add-index_mut
overflow_add-index_mut c =
    let below : c.loop-position.position % c.args.factor < c.args.factor = mod-lt c.loop-position.position c.requires.steps in
    let at = c.loop-position.invariant.at (c.loop-position.position % c.args.factor) below in
    let bounded = visits_few (has_remainder_before c.args.factor c.loop-position.position (c.loop-position.position % c.args.factor)) 0 c.args.objects.now in
    let same = get_or_default_zero c.loop-position.counts.items (c.loop-position.position % c.args.factor) c.index_mut.result.now
    (omega (arith, below, c.loop-position.invariant.size)) in
    omega (arith, c.index_mut.ensures.value, at, bounded, same, c.requires.bounded)

pub loop-position-preserved : goal.loop-position-preserved
loop-position-preserved c =
    let below : c.loop-position.position % c.args.factor < c.args.factor = mod-lt c.loop-position.position c.requires.steps in
    elim c.if-is_scheduled.branch [
      | then-is_scheduled w ↦
          let same = get_or_default_zero c.loop-position.counts.items (c.loop-position.position % c.args.factor) w.index_mut.result.now
          (omega (arith, below, c.loop-position.invariant.size)) in
          rw (w.counts-is, w.index_mut.ensures.value, same) (counts_add (has_remainder_before c.args.factor c.loop-position.position)
          (has_remainder_before c.args.factor (c.loop-position.position + 1)) c.args.factor c.loop-position.position c.args.objects.now _
          c.loop-position.counts.items c.requires.steps below c.loop-position-test.true (sym c.is_scheduled.ensures ∙ w.if-is_scheduled.true)
          (remainder_same c.args.factor c.loop-position.position) (remainder_more c.args.factor c.loop-position.position) c.loop-position.invariant)
      | else-is_scheduled w ↦ rw w.counts-is (counts_skip (has_remainder_before c.args.factor c.loop-position.position)
          (has_remainder_before c.args.factor (c.loop-position.position + 1)) c.args.factor c.loop-position.position c.args.objects.now _
          c.loop-position.counts.items c.loop-position-test.true (sym c.is_scheduled.ensures ∙ w.if-is_scheduled.false)
          (remainder_same c.args.factor c.loop-position.position) (remainder_more c.args.factor c.loop-position.position) c.loop-position.invariant)
    ]

pub sums_before-requires : goal.sums_before-requires
sums_before-requires c =
    let objects = c.args.objects.now in
    let counted = counts_all c.args.factor c.loop-position.position objects c.loop-position.counts.items
    (omega (arith, c.loop-position.auto.position-end)) c.loop-position.invariant in
    let bounded = few_in_all c.args.factor objects c.loop-position.counts.items counted in
    rw c.deref.ensures.value (omega (arith, bounded, c.requires.bounded))

pub returns : goal.returns
returns c =
    let objects = c.args.objects.now in
    let counted = counts_all c.args.factor c.loop-position.position objects c.loop-position.counts.items
    (omega (arith, c.loop-position.auto.position-end)) c.loop-position.invariant in
    IfOk-weaker c.sums_before.result _ _
    (λ ranks is. ranks_first c.args.factor objects c.loop-position.counts.items ranks.items counted (is ∙ ap (sums_before 0) c.deref.ensures.value))
    c.sums_before.ensures
