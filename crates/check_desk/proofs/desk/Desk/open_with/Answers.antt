use Rattle.std.proofs.Common.{◌∙◌, sym, ap}
use Rattle.check_objects.specs.Configuration.{object_count}
use Rattle.check_book.specs.declared.book.Book.{Book}
use Rattle.check_book.specs.Books.{opening_of}
use Rattle.check_book.proofs.PublicLaws.{few_words}
use Rattle.check_desk.proofs.BoardLemmas.{words_in}
use Rattle.check_desk.proofs.desk.Desk.open_with.Goals as goal

pub open_with-requires-clause-words : goal.open_with-requires-clause-words
open_with-requires-clause-words c = few_words c.args.book

pub invariant_of-desk : goal.invariant_of-desk
invariant_of-desk c = record {
  passes_are = c.in-Ok-open_with.ensures.start.1;
  objects_are = ap (λ (book : Book). object_count (opening_of book).sched.setup) c.in-Ok-open_with.ensures.start.0 ∙
      (sym (words_in c.args.book) ∙ sym c.words-objects.ensures);
}

pub returns-in-Err-clause-err : goal.returns-in-Err-clause-err
returns-in-Err-clause-err c = c.in-Err.ensures.err
