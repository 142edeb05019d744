use Rattle.std.proofs.Common.{◌≡◌, ◌/◌, [], ◌∷◌, ◌++◌, false, inl, inr, refl, ◌∙◌, ⊎_elim}
use Rattle.std.proofs.lemmas.Result.{err_from_is_err_and}
use Rattle.std.specs.Prelude.{Contains}
use Rattle.std.proofs.lemmas.List.Elements.{All-contains, All-contains_itself}
use Rattle.check_book.specs.Books.{sched_of}
use Rattle.nagsched_loop.specs.Loop.{has_call_for, run_with_limit}
use Rattle.nagsched_loop.specs.Months.{entries_in}
use Rattle.nagsched_loop.proofs.MonthLemmas.{begun_over, generations_more, kept_generation, text_after_generation, text_of_generation}
use Rattle.nagsched_loop.proofs.months.watch_setup.Goals as goal

pub loop-init : goal.loop-init
loop-init g c =
    let empty = c.in_ok-book.ensures.empty in
    (tt, tt, (empty.0, empty.1, [], (refl, refl, refl), λ k d lt e. All-contains_itself _ k d lt, inl refl))

pub returns-in-Setup : goal.returns-in-Setup
unfolding begun_over
returns-in-Setup g c =
    let before = c.loop.invariant.2 in
    let generation_ended = c.in_ok-next.ensures.generation_ended in
    let histories = before.2 ++ generation_ended.0 ∷ [] in
    let stored = kept_generation before.2 generation_ended.0 _ _ _ before.4 generation_ended.2 in
    let begun = begun_over g.O.Environment.does g.F.Files.gives _ _ _ _ _ _ _ c.now-start.ensures.does c.in_ok-setup.ensures.given c.in_ok-book.ensures.first
    (c.in_ok-stored.ensures.stored ∙ c.setup.ensures.stored) in
    record {
      stored = c.in_ok-next.ensures.stored;
      watched = record {
        ends = c.in-Setup.is;
        start = c.now-start.result;
        first = sched_of c.in_ok-book.book;
        begun = begun;
        histories = before.2;
        from = sched_of c.loop.book;
        listed = c.in_ok-runs.runs.items;
        kept = c.loop.runs.items;
        u = c.loop.environment;
        lead = before.3;
        history = generation_ended.0;
        last = generation_ended.1;
        still_listed = λ object number is unnamed.
            let run = run_with_limit object number c.now-start.result in
            All-contains (λ r. has_call_for (entries_in histories) r ≡ false → Contains c.generation.new.runs.items r) _ run stored
            (c.in_ok-runs.ensures.all object number is) unnamed;
      };
      kept = tt;
      fault = tt;
    }

pub returns-in_err-next-clause-kept : goal.returns-in_err-next-clause-kept
unfolding begun_over
returns-in_err-next-clause-kept g c =
    let p = err_from_is_err_and c.from_residual-in_err-next.result c.from_residual-in_err-next.ensures.1 in
    let before = c.loop.invariant.2 in
    let begun = begun_over g.O.Environment.does g.F.Files.gives _ _ _ _ _ _ _ c.now-start.ensures.does c.in_ok-setup.ensures.given c.in_ok-book.ensures.first
    (c.in_ok-stored.ensures.stored ∙ c.setup.ensures.stored) in
    let ended =
    text_after_generation g.O.Environment.does g.F.Files.past (c.args.room / 2) _ _ before.2 _ _ _ _ _ _ _ before.3 before.5 c.in_err-next.ensures.kept in
    rw p.1
    (⊎_elim (λ old. inl (old ∙ c.setup.ensures.stored)) (λ new. inr (record {
      start = c.now-start.result;
      first = sched_of c.in_ok-book.book;
      listed = c.in_ok-runs.runs.items;
      begun = begun;
      ended = new;
    })) ended)

pub loop-preserved : goal.loop-preserved
loop-preserved g c =
    let before = c.loop.invariant.2 in
    let generation_ended = c.in_ok-next.ensures.generation_ended in
    let renewed = rw (c.in-Renewal.is) at generation_ended.1 in
    let empty = c.in_ok-next.ensures.empty in (
      tt,
      tt,
      (
        empty.0,
        empty.1,
        before.2 ++ generation_ended.0 ∷ [],
        generations_more g.O.Environment.does g.F.Files.past (c.args.room / 2) before.2 generation_ended.0 _ _ _ _ _ _ _ _ _ before.3 renewed,
        kept_generation before.2 generation_ended.0 _ _ _ before.4 generation_ended.2,
        text_after_generation g.O.Environment.does g.F.Files.past (c.args.room / 2) _ _ before.2 _ _ _ _ _ _ _ before.3 before.5
            (inr (text_of_generation g.O.Environment.does g.F.Files.past (c.args.room / 2) _ _ _ _ _ _ _ _ _ renewed c.in_ok-next.ensures.stored)),
      ),
    )
