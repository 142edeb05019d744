use Rattle.check_book.specs.Books.{entries_of}
use Rattle.check_desk.specs.Desks.{passes_of}
use Rattle.check_desk.proofs.PassLemmas.{all_below}
use Rattle.check_desk.proofs.desk.Desk.close.Goals as goal

pub returns-in-Ok-clause-made : goal.returns-in-Ok-clause-made
returns-in-Ok-clause-made c =
    all_below (passes_of c.args.self) (entries_of c.in-Ok.book) c.in-Ok.ensures.numbers

pub returns-in-Ok-clause-schedule : goal.returns-in-Ok-clause-schedule
returns-in-Ok-clause-schedule c =
    let ends = c.in-Ok.ensures.schedule in record {
      schedule = ends.schedule;
      is = record { schedule = ends.is; opens = ends.opening };
      passes_are = ends.numbers;
      book_is = ends.book_is;
    }
