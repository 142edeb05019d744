use Rattle.std.proofs.Common.{◌≡◌, arith, ◌∙◌, length, sym}
use Rattle.std.specs.Prelude.{IsTrue}
use Rattle.std.proofs.lemmas.Bool.{eqb-true}
use Rattle.check_states.specs.Changes.{changes_in}
use Rattle.check_states.proofs.ChangeLemmas.{IsSettled, settled}
use Rattle.check_states.proofs.last_results.LastResults.are_all.Goals as goal

-- where there are 21 results, with one more they are as they were
as_they_are : (c : goal.After-is_full) → IsTrue c.is_full.result → IsSettled c.args.self.now c.args.found
as_they_are c e =
    let r = c.self.inside in
    let full : length r.kept.items ≡ 21 = eqb-true (length r.kept.items) r.kept.capacity (sym c.is_full.ensures ∙ e) ∙ c.self.invariant.capacity in
    let counted = c.self.invariant.counted full in
    let bounded = c.if-self-gt0.false in
    let none : changes_in r.kept.items ≡ 0 = omega (arith, counted, bounded) in
    rw (← c.self.view_is)
    (settled r.kept.items c.args.found r.newest full none c.self.invariant.newest (sym c.is_another.ensures ∙ c.if-is_another.false))

pub returns-clause-kept : goal.returns-clause-kept
returns-clause-kept c = λ e. (as_they_are c e).kept

pub returns-clause-percent : goal.returns-clause-percent
returns-clause-percent c = λ e. (as_they_are c e).percent
