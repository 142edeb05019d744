-- It owns nothing, so any thread may share it.
use denote.RattleType.{RattleType}
use denote.Param.Send.{IsSync, part_keyless}
use Rattle.check_book.specs.contracts.opening.Opening.{the_row}
use Rattle.check_book.proofs.opening.Opening.TheSendSync.Send.{send}

pub sync : (S : RattleType) → IsSync (the_row S)
sync S = record { shared = λ d b o κ q. part_keyless (the_row S) (send S) q d b o }
