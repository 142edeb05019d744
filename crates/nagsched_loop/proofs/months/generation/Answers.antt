use Rattle.std.proofs.Common.{ap, inr, subst, sym, ◌∙◌}
use Rattle.std.proofs.lemmas.Result.{err_from_is_err_and}
use Rattle.check_book.specs.Books.{entries_of, opening_of, refused_of, sched_of, state_of}
use Rattle.check_desk.specs.Desks.{AreNewPassesWith}
use Rattle.check_desk.specs.Passes.{opening_calls, pass_of}
use Rattle.nagsched_loop.proofs.MonthLemmas.{all_new, history_leads, legal_history, new_unseen, opened_at, text_after_store}
use Rattle.nagsched_loop.proofs.months.generation.Goals as goal

pub returns-clause-generation_ended : goal.returns-clause-generation_ended
returns-clause-generation_ended g c =
    let ended = c.in-Ok-close.book in
    let opened = ap (λ s. s.sched) (c.in-Ok-close.ensures.opening ∙ c.in-Ok.ensures.opening) ∙ opened_at c.args.book c.requires.0 in
    let renewed = ap (λ s. s.sched) c.in-Ok-renew.ensures.state in
    let setup = c.setup.ensures ∙ ap (λ s. s.setup) c.sched.ensures in
    let past =
    subst (λ s. g.F.Files.past s (entries_of ended)) setup
    (subst (λ es. g.F.Files.past c.setup.result.now es) c.entries.ensures c.in_ok-end_generation.ensures.past) in
    let new = subst (λ passes. AreNewPassesWith opening_calls c.in-Ok.desk 0 passes) c.in-Some.ensures.items c.in-Ok.ensures.new in
    let unseen = new_unseen opening_calls 0 c.in-Ok.desk c.pop.new.self.items c.in-Some.pass new in (
      entries_of ended,
      record {
        legal = legal_history (opening_of ended) (state_of ended) (entries_of ended) (refused_of ended) (sched_of c.args.book)
            c.in-Ok-close.ensures.lawful opened;
        leads = renewed ∙ history_leads (opening_of ended) (state_of ended) (entries_of ended) (refused_of ended) (sched_of c.args.book)
            c.in-Ok-close.ensures.lawful opened;
        handed_over = subst (λ state. g.F.Files.past state.setup (entries_of ended)) (sym renewed) past;
        before = pass_of c.in-Some.pass;
        after = pass_of c.watch-pass.result.pass;
        new = unseen;
        all = c.in-Ok-close.ensures.history;
        worked = c.watch-pass.ensures.worked;
      },
      all_new (pass_of c.in-Some.pass).seen (pass_of c.watch-pass.result.pass).seen (entries_of ended) _ _ unseen
          c.in-Ok-close.ensures.history c.watch-pass.ensures.returned.1,
    )

pub returns-in_err-end_generation-clause-kept : goal.returns-in_err-end_generation-clause-kept
returns-in_err-end_generation-clause-kept g c =
    let p = err_from_is_err_and c.from_residual-in_err-end_generation.result c.from_residual-in_err-end_generation.ensures.1 in
    rw p.1
    (text_after_store g.F.Files.past c.args.book c.in-Ok-close.book _ _ _ _ _ _ c.requires.0 (c.in-Ok-close.ensures.opening ∙ c.in-Ok.ensures.opening)
    c.in-Ok-close.ensures.lawful c.in_ok-text.ensures c.deref.ensures.value (c.setup.ensures ∙ ap (λ s. s.setup) c.sched.ensures) c.entries.ensures
    c.in_err-end_generation.ensures.kept)

pub returns-in_default-renew-clause-kept : goal.returns-in_default-renew-clause-kept
returns-in_default-renew-clause-kept g c =
    text_after_store g.F.Files.past c.args.book c.in-Ok-close.book _ _ _ _ _ _ c.requires.0 (c.in-Ok-close.ensures.opening ∙ c.in-Ok.ensures.opening)
    c.in-Ok-close.ensures.lawful c.in_ok-text.ensures c.deref.ensures.value (c.setup.ensures ∙ ap (λ s. s.setup) c.sched.ensures) c.entries.ensures
    (inr (c.in_ok-end_generation.ensures.stored, c.in_ok-end_generation.ensures.past))
