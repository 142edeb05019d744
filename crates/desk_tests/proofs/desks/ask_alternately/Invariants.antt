use Rattle.check_desk.specs.Desks.{IsPassOf}
use Rattle.desk_tests.proofs.desks.ask_alternately.Given as goal

abbrev pub invariant-loop-round : goal.invariant-loop-round
invariant-loop-round g l = IsPassOf l.desk l.first × IsPassOf l.desk l.second
