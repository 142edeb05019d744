use Rattle.std.proofs.Common.{arith, inl, inr, refl}
use Rattle.check_desk.specs.Passes.{pass_of}
use Rattle.nagsched_loop.proofs.RoundLemmas.{rounds_more}
use Rattle.nagsched_loop.proofs.RunLemmas.{keeps_none, keeps_then}
use Rattle.nagsched_loop.proofs.months.watch.Goals as goal

pub loop-round-init : goal.loop-round-init
loop-round-init g c = ((c.requires, keeps_none (pass_of c.args.pass).seen _), (refl, refl, refl))

pub returns-in-Err-clause-returned : goal.returns-in-Err-clause-returned
returns-in-Err-clause-returned g c =
    let returned = c.in-Err.ensures.returned in
    (returned.0, keeps_then _ _ _ _ _ _ c.loop-round.invariant.0.1 returned.1)

pub returns-in-Err-clause-worked : goal.returns-in-Err-clause-worked
returns-in-Err-clause-worked g c = record {
  count = c.loop-round._round;
  between = pass_of c.loop-round.pass;
  kept = c.loop-round.runs.items;
  u = c.loop-round.environment;
  made = c.loop-round.invariant.1;
  ended = inr (c.loop-round-test.true, c.in-Err.ensures.returned.1, record { now = c.now.result; clock = c.now.new.self; read = c.now.ensures.does; ends = c.in-Err.ensures.ended });
}

pub returns-clause-worked : goal.returns-clause-worked
returns-clause-worked g c = record {
  count = c.loop-round._round;
  between = pass_of c.loop-round.pass;
  kept = c.loop-round.runs.items;
  u = c.loop-round.environment;
  made = c.loop-round.invariant.1;
  ended = inl (omega (arith, c.loop-round-test.false, c.loop-round.auto._round-end), refl, refl, refl, refl);
}

pub loop-round-preserved : goal.loop-round-preserved
loop-round-preserved g c =
    let returned = c.in-Ok.ensures.returned in (
      (returned.0, keeps_then _ _ _ _ _ _ c.loop-round.invariant.0.1 returned.1),
      rounds_more g.O.Environment.does _ _ _ _ _ _ _ _ _ _ c.loop-round.invariant.1
          (record { now = c.now.result; clock = c.now.new.self; read = c.now.ensures.does; round = c.in-Ok.ensures.taken }),
    )
