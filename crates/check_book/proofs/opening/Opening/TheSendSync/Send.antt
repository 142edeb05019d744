-- It owns nothing, so it may go to another thread.
use denote.RattleType.{RattleType}
use denote.Param.Send.{IsSend}
use Rattle.check_book.specs.contracts.opening.Opening.{the_row}

pub send : (S : RattleType) → IsSend (the_row S)
send S = record { owned = λ d vs. ((λ vss. (tt, ((λ uss. (tt, tt)), tt))), tt); leaving = λ k f vs. tt }
