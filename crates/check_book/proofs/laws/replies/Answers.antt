use Rattle.check_book.proofs.ReplyLaws.{report_reply, take_reply}
use Rattle.check_book.proofs.laws.replies.Goals as goal

pub returns-clause-take : goal.returns-clause-take
returns-clause-take c = λ opened front pass now answer legal. take_reply opened front pass now answer legal

pub returns-clause-report : goal.returns-clause-report
returns-clause-report c =
    λ opened front between taker pass now object run code answer legal. report_reply opened front between taker pass now object run code answer legal
