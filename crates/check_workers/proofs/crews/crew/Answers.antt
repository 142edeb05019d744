use Rattle.std.proofs.Common.{◌≡◌, length, sym, ap, subst, ◌∙◌, arith}
use Rattle.check_book.specs.Books.{entries_of}
use Rattle.check_desk.specs.Passes.{pass_of}
use Rattle.check_workers.specs.Tallies.{IsSum}
use Rattle.check_workers.proofs.CrewLemmas.{all_begin, all_numbers, all_tallied, are_shifts, crew_error, failed_then_so, made_then_so, missing_calls}
use Rattle.check_workers.proofs.CrewLemmas.{none_brought, same_numbers, shifts_from, sum_calls, sum_is, sum_stops, sum_sums}
use Rattle.check_desk.proofs.PublicLaws.{seen_history, nonempty_numbers}
use Rattle.check_workers.proofs.crews.crew.Goals as goal

pub close-requires : goal.close-requires
close-requires g c = all_tallied (g.P.Plugin.allows c.args.plugin.now) c.args.moments.now c.args.desk nonempty_numbers c.args.passes.items
    c.in-Ok.worked.items c.in-Ok.ensures

pub returns-in-Ok-clause-shifts : goal.returns-in-Ok-clause-shifts
returns-in-Ok-clause-shifts g c =
    let allows = g.P.Plugin.allows c.args.plugin.now in
    made_then_so c.close.result c.close.ensures.gathered (λ made x. (
      shifts_from allows c.args.moments.now c.args.desk c.args.passes.items c.in-Ok.worked.items c.in-Ok.ensures,
      are_shifts allows c.args.moments.now c.args.desk (entries_of made.0) c.args.passes.items c.in-Ok.worked.items c.in-Ok.ensures (rw x.2 x.1.seen),
      x.1.sum ∙ sum_is allows c.args.moments.now c.args.desk c.args.passes.items c.in-Ok.worked.items c.in-Ok.ensures,
    ))

pub returns-in-Ok-clause-begins : goal.returns-in-Ok-clause-begins
returns-in-Ok-clause-begins g c = made_then_so c.close.result c.close.ensures.gathered (λ made x.
    all_begin (g.P.Plugin.allows c.args.plugin.now) c.args.moments.now c.args.desk
    (entries_of made.0) c.args.passes.items c.in-Ok.worked.items c.in-Ok.ensures (rw x.2 x.1.seen))

pub returns-in-Ok-clause-sums : goal.returns-in-Ok-clause-sums
returns-in-Ok-clause-sums g c = made_then_so c.close.result c.close.ensures.gathered (λ made x.
    subst IsSum (sym x.1.sum) (sum_sums (g.P.Plugin.allows c.args.plugin.now) c.args.moments.now c.args.desk c.args.passes.items c.in-Ok.worked.items
    c.in-Ok.ensures))

pub returns-in-Ok-clause-calls : goal.returns-in-Ok-clause-calls
returns-in-Ok-clause-calls g c = made_then_so c.close.result c.close.ensures.gathered (λ made x.
    let all = x.1.calls ∙ sum_calls (g.P.Plugin.allows c.args.plugin.now) c.args.moments.now c.args.desk c.args.passes.items c.in-Ok.worked.items
    c.in-Ok.ensures in
    rw x.1.sum (x.3 ∙ all))

pub returns-in-Ok-clause-memory : goal.returns-in-Ok-clause-memory
returns-in-Ok-clause-memory g c = made_then_so c.close.result c.close.ensures.gathered (λ made x many.
    rw x.1.sum (sum_stops (g.P.Plugin.allows c.args.plugin.now) c.args.moments.now c.args.desk c.args.passes.items c.in-Ok.worked.items c.in-Ok.ensures many))

pub returns-in-Ok-clause-all : goal.returns-in-Ok-clause-all
returns-in-Ok-clause-all g c = made_then_so c.close.result c.close.ensures.gathered (λ made x.
    let same = ap length x.1.numbers ∙ same_numbers (g.P.Plugin.allows c.args.plugin.now) c.args.moments.now c.args.desk c.args.passes.items
    c.in-Ok.worked.items c.in-Ok.ensures in
    omega (arith, same, x.4))

pub returns-in-Ok-clause-errors : goal.returns-in-Ok-clause-errors
returns-in-Ok-clause-errors g c =
    let worked = c.in-Ok.ensures in
    failed_then_so c.close.result c.close.ensures.errors (λ e h. crew_error (λ back. back ≡ c.args.desk) e h
    (λ back x. (x.0, none_brought c.args.passes.items c.in-Ok.worked.items worked.count x.1))
    (λ back pass x.
    let same = ap length x.3.numbers ∙ same_numbers (g.P.Plugin.allows c.args.plugin.now) c.args.moments.now c.args.desk c.args.passes.items
    c.in-Ok.worked.items worked in (
      x.0,
      x.1,
      omega (arith, same, x.4),
      same,
      x.3.numbers ∙ all_numbers (g.P.Plugin.allows c.args.plugin.now) c.args.moments.now c.args.desk c.args.passes.items c.in-Ok.worked.items worked,
      seen_history c.args.desk pass x.1,
      (
        shifts_from (g.P.Plugin.allows c.args.plugin.now) c.args.moments.now c.args.desk c.args.passes.items c.in-Ok.worked.items worked,
        are_shifts (g.P.Plugin.allows c.args.plugin.now) c.args.moments.now c.args.desk
            (pass_of pass).seen c.args.passes.items c.in-Ok.worked.items worked x.3.seen,
        missing_calls (g.P.Plugin.allows c.args.plugin.now) c.args.moments.now c.args.desk c.args.passes.items c.in-Ok.worked.items worked
            (pass_of pass).calls x.3.calls,
      ),
    )))
