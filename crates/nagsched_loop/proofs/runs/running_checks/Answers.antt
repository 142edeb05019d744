use Rattle.std.proofs.Common.{◌≡◌, Some, ap, arith, subst, sym, ◌∙◌}
use Rattle.check_objects.specs.Configuration.{object_count}
use Rattle.check_book.specs.Books.{sched_of}
use Rattle.check_book.proofs.PublicLaws.{book_is_state}
use Rattle.check_sched.specs.State.{run_number_of}
use Rattle.nagsched_loop.proofs.RunLemmas.{running_there}
use Rattle.nagsched_loop.proofs.runs.running_checks.Goals as goal

pub returns-clause-all : goal.returns-clause-all
returns-clause-all c = λ object number is.
    let book = c.args.book.now in
    let listed = running_there object number (sched_of book) is in
    let each = (book_is_state book).one_each in
    let setup = ap object_count (c.setup.ensures ∙ ap (λ s. s.setup) c.sched-sched.ensures) in
    let count = c.len-place-end.ensures.count in
    c.loop-place.invariant.1 object number (omega arith) (subst (λ s. run_number_of object s ≡ Some number) (sym c.sched-sched.ensures) is)
