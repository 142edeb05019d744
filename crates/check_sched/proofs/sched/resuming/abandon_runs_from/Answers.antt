use Rattle.std.proofs.Common.{◌<◌, ◌∙◌, arith, length}
use Rattle.check_sched.proofs.AbandonLaws.{freed_all, freed_more, freed_none}
use Rattle.check_sched.proofs.sched.resuming.abandon_runs_from.Goals as goal

pub loop-number-init : goal.loop-number-init
loop-number-init c = record { given = freed_none c.args.from c.args.now _; above = omega arith }

pub loop-number-preserved : goal.loop-number-preserved
loop-number-preserved c =
    let above = c.loop-number.invariant.above in
    let in_range : c.loop-number.number < length c.args.objects.now.items = omega (arith, c.loop-number-test.true, c.len-number-end.ensures) in
    record {
      given = freed_more c.loop-number.number c.args.from c.args.now c.args.objects.now.items c.loop-number.objects.items c.index_mut.result.now
          c.abandon_run.new.self above in_range c.loop-number.invariant.given c.index_mut.ensures.value c.abandon_run.ensures;
      above = omega (arith, above);
    }

pub returns : goal.returns
returns c =
    c.loop-number.invariant.given
    ∙ freed_all c.loop-number.number c.args.from c.args.now c.args.objects.now.items (omega (arith, c.loop-number-test.false, c.len-number-end.ensures))
