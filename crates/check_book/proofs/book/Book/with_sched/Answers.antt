use Rattle.std.proofs.Common.{◌≡◌, ◌≤◌, ap, subst, sym}
use Rattle.std.specs.Prelude.{vec_capacity}
use Rattle.check_objects.specs.Configuration.{IsSetup}
use Rattle.ticket_steps.specs.History.{replay, IsLegal}
use Rattle.check_sched.specs.State.{IsState}
use Rattle.check_book.specs.declared.book.Log.{Log}
use Rattle.check_book.specs.BookState.{book_at, book_step}
use Rattle.check_book.specs.Logs.{log_opening, log_state}
use Rattle.check_book.proofs.book.Book.with_sched.Goals as goal

pub invariant_of-result : goal.invariant_of-result
invariant_of-result c =
    let boxed = sym c.in-Ok.ensures.ok in
    let snapped = c.of-opened.ensures in
    record {
      reserved = subst (λ (l : Log). l.room ≤ vec_capacity l.entries) boxed c.requires.reserved;
      opened = subst (λ (l : Log). IsState l.opened.at) boxed (subst IsState (sym snapped) c.requires.state);
      valid_setup = subst (λ (l : Log). IsSetup l.sched.setup) boxed c.requires.state.valid_setup;
      legal = subst (λ (l : Log). IsLegal book_step (log_opening l) l.entries.items) boxed (rw c.requires.none tt);
      replayed =
          subst (λ (l : Log). log_state l ≡ replay book_step (log_opening l) l.entries.items) boxed
          (rw c.requires.none (ap (λ z. book_at z c.args.room) (sym snapped)));
    }
