use Rattle.std.proofs.Common.{◌%◌, ◌<◌, ◌+◌, ◌++◌, Some, None, false, arith, sym, ap, ◌∙◌, IfSome}
use Rattle.std.specs.Prelude.{slice_index_or}
use Rattle.std.proofs.Math.Nat.{mod-lt}
use Rattle.std.proofs.lemmas.Grind.{get_or_default_zero}
use Rattle.std.proofs.lemmas.List.{take_all}
use Rattle.std.proofs.lemmas.List.Elements.{All-push}
use Rattle.setup_model.proofs.DefaultItems.{no_check}
use Rattle.check_spread.specs.Spread.{first_times}
use Rattle.check_states.specs.declared.times.TheConstants.{LAST_TIME}
use Rattle.check_spread.proofs.VisitLemmas.{is_visited_earlier, counts_add, counts_skip, earlier_same, earlier_more, rank_less, visits_few}
use Rattle.check_spread.proofs.TimesLemmas.{first_times_more, length-first_times, first_time_is, first_time_none, pushed}
use Rattle.check_spread.proofs.times.push_first_times.Goals as goal
use Rattle.check_spread.proofs.times.push_first_times.Goals.{then-is_scheduled+in_ok-push, else-is_scheduled+in_ok-push-2}

pub time-requires-clause-in_range : goal.time-requires-clause-in_range
time-requires-clause-in_range c =
    let below : c.loop-position.position % c.args.spread.factor < c.args.spread.factor = mod-lt c.loop-position.position c.requires.limits.steps in
    let has = c.loop-position.invariant.0 in
    let at = has.at (c.loop-position.position % c.args.spread.factor) below in
    let same = get_or_default_zero c.loop-position.ranks.items (c.loop-position.position % c.args.spread.factor) c.index.result.now
    (omega (arith, below, has.size)) in
    let less = rank_less c.args.spread.factor c.loop-position.position c.args.objects.now _ c.loop-position-test.true
    (sym c.is_scheduled.ensures ∙ c.if-is_scheduled.true) in
    rw c.of-scheduled.ensures (omega (arith, c.index.ensures, at, same, less))

pub overflow_add-index_mut : goal.overflow_add-index_mut
overflow_add-index_mut c =
    let below : c.loop-position.position % c.args.spread.factor < c.args.spread.factor = mod-lt c.loop-position.position c.requires.limits.steps in
    let has = c.loop-position.invariant.0 in
    let at = has.at (c.loop-position.position % c.args.spread.factor) below in
    let bounded = visits_few (is_visited_earlier c.args.spread.factor c.loop-position.position (c.loop-position.position % c.args.spread.factor)) 0
    c.args.objects.now in
    let same = get_or_default_zero c.loop-position.ranks.items (c.loop-position.position % c.args.spread.factor) c.index_mut.result.now
    (omega (arith, below, has.size)) in
    omega (arith, c.index_mut.ensures.value, at, bounded, same, c.requires.bounded)

pub loop-position-preserved : goal.loop-position-preserved
loop-position-preserved c =
    let spread = c.args.spread in
    let objects = c.args.objects.now in
    let position = c.loop-position.position in
    let has = c.loop-position.invariant.0 in
    let below : position % spread.factor < spread.factor = mod-lt position c.requires.limits.steps in
    let more = first_times_more spread objects position no_check c.loop-position-test.true in
    elim c.if-is_scheduled.branch [
      | then-is_scheduled+in_ok-push w ↦
          let ranks_at = get_or_default_zero c.loop-position.ranks.items (position % spread.factor) w.index_mut.result.now (omega (arith, below, has.size)) in
          let rank_at = get_or_default_zero c.loop-position.ranks.items (position % spread.factor) w.index.result.now (omega (arith, below, has.size)) in
          let is = sym c.is_scheduled.ensures ∙ w.if-is_scheduled.true in (
            rw (w.ranks-is, w.index_mut.ensures.value, ranks_at)
                (counts_add (is_visited_earlier spread.factor position) (is_visited_earlier spread.factor (position + 1)) spread.factor position objects
                no_check c.loop-position.ranks.items c.requires.limits.steps below c.loop-position-test.true is (earlier_same spread.factor position)
                (earlier_more spread.factor position) has),
            rw w.times-is (pushed c.args.times.now.items c.loop-position.times.items w.push.new.self.items _ _
                (Some w.time.result) _ w.in_ok-push.ensures.items c.loop-position.invariant.1 more
                (first_time_is spread objects position w.index.result.now (slice_index_or objects position no_check) c.of-scheduled.result is c.of-scheduled.ensures
                (let at = has.at (position % spread.factor) below in w.index.ensures ∙ rank_at ∙ at) ∙ ap Some (sym w.time.ensures.time))),
            rw (w.times-is, w.in_ok-push.ensures.items) (All-push
                (λ first. IfSome first (λ time. time < LAST_TIME)) c.loop-position.times.items (Some w.time.result)
                c.loop-position.invariant.2 w.time.ensures.within),
          )
      | else-is_scheduled+in_ok-push-2 w ↦ (
        rw w.ranks-is (counts_skip (is_visited_earlier spread.factor position) (is_visited_earlier spread.factor (position + 1)) spread.factor position
            objects no_check c.loop-position.ranks.items c.loop-position-test.true (sym c.is_scheduled.ensures ∙ w.if-is_scheduled.false)
            (earlier_same spread.factor position) (earlier_more spread.factor position) has),
        rw w.times-is (pushed c.args.times.now.items c.loop-position.times.items w.push-else-is_scheduled.new.self.items _ _ None _
            w.in_ok-push-2.ensures.items c.loop-position.invariant.1 more
            (first_time_none spread objects position (slice_index_or objects position no_check) (sym c.is_scheduled.ensures ∙ w.if-is_scheduled.false))),
        rw (w.times-is, w.in_ok-push-2.ensures.items) (All-push
            (λ first. IfSome first (λ time. time < LAST_TIME)) c.loop-position.times.items None c.loop-position.invariant.2 tt),
      )
    ]

pub returns-clause-times : goal.returns-clause-times
returns-clause-times c =
    let all = take_all c.loop-position.position (first_times c.args.spread c.args.objects.now)
    (let l = length-first_times c.args.spread c.args.objects.now in omega (arith, l)) in
    c.loop-position.invariant.1 ∙ ap (λ l. c.args.times.now.items ++ l) all
