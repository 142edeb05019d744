use Rattle.check_desk.specs.Desks.{IsPassOf}
use Rattle.desk_tests.proofs.desks.ask_often.Given as goal

abbrev pub invariant-loop-made : goal.invariant-loop-made
invariant-loop-made g l = IsPassOf l.desk l.pass
