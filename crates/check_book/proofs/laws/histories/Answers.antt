use Rattle.check_sched.specs.State.{opening}
use Rattle.check_book.proofs.HistoryLaws.{book_is_legal}
use Rattle.check_book.proofs.laws.histories.Goals as goal

pub returns : goal.returns
returns c = record { books = λ setup start room history legal. book_is_legal (opening setup start) room history legal }
