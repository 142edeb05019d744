use Rattle.std.proofs.Common.{ap, subst, sym, ◌∙◌}
use Rattle.check_sched.specs.State.{IsState}
use Rattle.check_book.specs.BookState.{book_at}
use Rattle.check_book.specs.declared.book.Log.{Log}
use Rattle.check_book.proofs.GenerationLaws.{book_is_state}
use Rattle.check_book.proofs.book.Book.renew.Goals as goal

pub returns-clause-opening : goal.returns-clause-opening
returns-clause-opening c =
    let anew = c.start_over-earlier.ensures in
    let opened = anew.opened ∙ ap (λ (log : Log). log.sched) c.deref_mut.ensures.value in
    λ i. book_at (opened i) (anew.room i)

pub returns-clause-state : goal.returns-clause-state
returns-clause-state c =
    let anew = c.start_over-earlier.ensures in
    let sched = anew.sched ∙ ap (λ (log : Log). log.sched) c.deref_mut.ensures.value in
    λ i. book_at (sched i) (anew.room i)

pub returns-clause-empty : goal.returns-clause-empty
returns-clause-empty c =
    let anew = c.start_over-earlier.ensures in
    (ap (λ entries. entries.items) anew.entries ∙ c.in-Ok.ensures.items, anew.refused)

pub returns-clause-entries : goal.returns-clause-entries
returns-clause-entries c =
    ap (λ entries. entries.items) (c.start_over-earlier.ensures.given ∙ ap (λ (log : Log). log.entries) c.deref_mut.ensures.value)

pub invariant_of-result-clause-opened : goal.invariant_of-result-clause-opened
invariant_of-result-clause-opened c =
    let opened = c.start_over-earlier.ensures.opened ∙ ap (λ (log : Log). log.sched) c.deref_mut.ensures.value in
    subst IsState (sym opened) (book_is_state c.args.self)
