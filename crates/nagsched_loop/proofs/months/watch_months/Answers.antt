use Rattle.std.proofs.Common.{◌/◌, inl, inr, refl}
use Rattle.nagsched_loop.specs.Months.{more, none, unchanged}
use Rattle.nagsched_loop.proofs.MonthLemmas.{ended_as_setup, text_after_setup, text_since}
use Rattle.nagsched_loop.proofs.months.watch_months.Goals as goal

pub loop-init : goal.loop-init
loop-init g c = (tt, tt, (unchanged, none, inl refl))

pub returns-in_err-book-clause-kept : goal.returns-in_err-book-clause-kept
returns-in_err-book-clause-kept g c =
    let before = c.loop.invariant.2 in
    text_since g.O.Environment.does g.F.Files.gives g.F.Files.past (c.args.room / 2) _ _ _ _ before.0 c.in_err-book.ensures.kept

pub returns-in-Program-clause-watched : goal.returns-in-Program-clause-watched
returns-in-Program-clause-watched g c = record {
  last = g.F.Files.stored c.loop.files;
  u = c.loop.environment;
  runs = c.in_ok-book.field-0.runs.items;
  setups = c.loop.invariant.2.1;
  watched = rw (c.in-Program.is) at c.in_ok-book.ensures.watched;
}

pub returns-in-Program-clause-kept : goal.returns-in-Program-clause-kept
returns-in-Program-clause-kept g c =
    let before = c.loop.invariant.2 in
    let made = c.in_ok-book.ensures in
    let text = text_after_setup g.O.Environment.does g.F.Files.past (c.args.room / 2) g.F.Files.gives _ _ _ _ _ _ _ made.watched made.stored in
    text_since g.O.Environment.does g.F.Files.gives g.F.Files.past (c.args.room / 2) _ _ _ _ before.0 (inr text)

pub loop-preserved : goal.loop-preserved
loop-preserved g c =
    let before = c.loop.invariant.2 in
    let made = c.in_ok-book.ensures in
    let watched = rw (ended_as_setup _ made.watched.ends c.in-Setup.is) at made.watched in
    let text = text_after_setup g.O.Environment.does g.F.Files.past (c.args.room / 2) g.F.Files.gives _ _ _ _ _ _ _ made.watched made.stored in (
      tt,
      tt,
      (
        text_since g.O.Environment.does g.F.Files.gives g.F.Files.past (c.args.room / 2) _ _ _ _ before.0 (inr text),
        more _ _ before.1 watched made.stored,
        inr (_, made.stored),
      ),
    )
