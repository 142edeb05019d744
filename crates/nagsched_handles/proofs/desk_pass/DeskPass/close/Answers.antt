use Rattle.std.proofs.Common.{◌≡◌, ◌≤◌, ◌∙◌, sym, ap, subst, arith, length}
use Rattle.std_alloc.specs.Arc.{arc_value}
use Rattle.check_book.specs.Books.{opening_of}
use Rattle.check_book.specs.BookState.{BookState}
use Rattle.check_desk.specs.Desks.{desk_opening, passes_of}
use Rattle.check_desk.specs.Passes.{pass_of}
use Rattle.check_desk.specs.Schedules.{EndsScheduleFrom}
use Rattle.nagsched_handles.specs.declared.shared.Shared.{Shared}
use Rattle.nagsched_handles.proofs.Books.{book_setup}
use Rattle.nagsched_handles.proofs.desk_pass.DeskPass.close.Goals as goal

pub invariant_of-result : goal.invariant_of-result
invariant_of-result c = record {
  same = c.in-Ok.field-0.named
      ∙ sym (book_setup c.in-Ok-close.book ∙ ap (λ (s : BookState). s.sched.setup) c.in-Ok-close.ensures.opening);
}

pub returns-in-Ok-close-clause-closed : goal.returns-in-Ok-close-clause-closed
returns-in-Ok-close-clause-closed c =
    let before = arc_value c.args.self.shared in
    let opened : opening_of c.in-Ok-close.book ≡ desk_opening before.desk =
    c.in-Ok-close.ensures.opening ∙ ap (λ (s : Shared). desk_opening s.desk) c.in-Ok.ensures.ok in
    let passes : before.passes ≡ c.deref.result.now.passes = ap (λ (s : Shared). s.passes) (sym c.deref.ensures) in
    let all : passes_of before.desk ≤ length (pass_of c.in-Resting.pass).numbers =
    omega (arith, before.passes_are, passes, c.gathered.ensures.numbers, c.if-gathered-deref.false) in
    let ends = subst (λ (s : Shared). EndsScheduleFrom (desk_opening s.desk) (passes_of s.desk) c.in-Ok-close.book)
    c.in-Ok.ensures.ok c.in-Ok-close.ensures.schedule in
    rw c.in-Resting.is (opened, all, c.in-Ok-close.ensures.history, c.in-Ok-close.ensures.calls, ends)
