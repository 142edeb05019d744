use Rattle.std.proofs.Common.{◌∙◌, ◌<◌, ap, arith}
use Rattle.std.specs.Prelude.{nat_lt}
use Rattle.std.proofs.lemmas.List.{take_all}
use Rattle.check_objects.specs.Configuration.{object_count}
use Rattle.check_sched.proofs.OpeningLaws.{length-opening_standings, one_more, standing_seen}
use Rattle.check_sched.proofs.sched.opening_standings.Goals as goal

pub loop-index-preserved : goal.loop-index-preserved
loop-index-preserved c =
    let in_range : c.loop-index.index < object_count c.args.setup.now = omega arith in
    one_more c.loop-index.index _ c.loop-index.standings.items _ c.pending.result c.in_ok-push.ensures.items c.loop-index.invariant
    (standing_seen c.args.setup.now c.loop-index.index c.pending.result _ in_range c.pending.ensures
    (ap (λ hosts. nat_lt c.loop-index.index hosts) c.hosts.ensures.count))

pub returns : goal.returns
returns c = c.loop-index.invariant ∙ take_all c.loop-index.index _ (let l = length-opening_standings c.args.setup.now in omega (arith, l))
