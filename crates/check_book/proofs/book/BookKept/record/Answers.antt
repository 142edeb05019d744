use Rattle.std.proofs.Common.{◌≡◌, ◌≤◌, ◌∷◌, ◌++◌, [], ap, sym, subst, ◌∙◌, arith}
use Rattle.std.specs.Prelude.{vec_capacity}
use Rattle.check_objects.specs.Configuration.{IsSetup}
use Rattle.ticket_steps.specs.History.{entry, replay, IsLegal}
use Rattle.check_sched.specs.State.{IsState}
use Rattle.check_book.specs.BookState.{book_step}
use Rattle.check_book.specs.Logs.{log_opening, log_state}
use Rattle.check_book.specs.declared.book.Log.{Log}
use Rattle.check_book.proofs.BookLemmas.{book_legal, book_replayed}
use Rattle.check_book.proofs.book.BookKept.record.Goals as goal

pub invariant_of-self-2 : goal.invariant_of-self-2
invariant_of-self-2 c =
    let b = c.args.self.now in
    let log = c.deref_mut-log.result.now in
    let boxed : log ≡ b.log.value = c.deref_mut-log.ensures.value in
    let was_legal = subst (λ (l : Log). IsLegal book_step (log_opening l) l.entries.items) (sym boxed) b.legal in
    let was_replayed = subst (λ (l : Log). log_state l ≡ replay book_step (log_opening l) l.entries.items) (sym boxed) b.replayed in
    let was_reserved = subst (λ (l : Log). l.room ≤ vec_capacity l.entries) (sym boxed) b.reserved in
    let more = c.push_reserved.ensures.items ∙ ap (λ es. es ++ entry c.args.pass c.args.call c.apply-reply.result ∷ []) c.grow.ensures.same in
    let made = c.apply-reply.ensures in
    record {
      reserved = omega (arith, c.push_reserved.ensures.capacity, c.grow.ensures.capacity, was_reserved);
      opened = subst (λ (l : Log). IsState l.opened.at) (sym boxed) b.opened;
      valid_setup = subst IsSetup (sym (made.setup ∙ ap (λ (l : Log). l.sched.setup) boxed)) b.valid_setup;
      legal =
          book_legal (log_opening log) log.sched c.apply-reply.new.self log.room c.args.pass c.args.call c.apply-reply.result log.entries.items
          c.push_reserved.new.self.items made.state made.reply more was_replayed was_legal;
      replayed =
          book_replayed (log_opening log) log.sched c.apply-reply.new.self log.room c.args.pass c.args.call c.apply-reply.result log.entries.items
          c.push_reserved.new.self.items made.state made.reply more was_replayed;
    }

pub returns-clause-replied : goal.returns-clause-replied
returns-clause-replied c =
    let boxed = c.deref_mut-log.ensures.value in
    let same = c.grow.ensures.same ∙ ap (λ (l : Log). l.entries.items) boxed in (
      c.push_reserved.ensures.items ∙ ap (λ es. es ++ entry c.args.pass c.args.call c.apply-reply.result ∷ []) same,
      ap (λ (l : Log). l.refused) boxed,
    )

-- where there is a reply nothing was refused: said by name, so that a body that refuses here is refused at once
pub returns-clause-refused : goal.returns-clause-refused
returns-clause-refused c = tt
