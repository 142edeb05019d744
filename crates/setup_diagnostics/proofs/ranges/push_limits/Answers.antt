use Rattle.setup_diagnostics.proofs.ranges.push_limits.Goals as goal

pub returns-in-Some : goal.returns-in-Some
returns-in-Some c = rw (← c.limits.ensures, c.in-Some.is) c.push_between.ensures
