use Rattle.std.proofs.Common.{◌≡◌, ◌<◌, ℕ, List, length, ap, arith, ◌∙◌, unwrap_or, []}
use Rattle.check_states.specs.declared.state.State.{State}
use Rattle.check_states.specs.Flapping.{results_after}
use Rattle.check_sched.proofs.ReportLaws.{read_at}
use Rattle.check_sched.proofs.UpdateLaws.{set_is_update}
use Rattle.check_sched.proofs.results.Results.add.Goals as goal

-- the object has its results
in_range : (number : ℕ) (items now : List (List State)) → items ≡ now → number < length now → number < length items
in_range number items now e known = let seen = ap length e in omega (arith, seen, known)

pub returns-clause-kept : goal.returns-clause-kept
returns-clause-kept c =
    rw (← c.self.view_is)
    (set_is_update c.args.number (λ results. results_after results c.args.found) c.self.inside.by_number.items c.index_mut.result.now c.push.new.self
    (in_range c.args.number c.self.inside.by_number.items c.args.self.now c.self.view_is c.requires)
    (c.push.ensures.kept ∙ ap (λ results. results_after results c.args.found) c.index_mut.ensures.value))

pub returns-clause-flaps : goal.returns-clause-flaps
returns-clause-flaps c =
    let read = read_at c.self.inside.by_number.items c.args.number c.index_mut.result.now
    (in_range c.args.number c.self.inside.by_number.items c.args.self.now c.self.view_is c.requires) c.index_mut.ensures.value in
    rw (← c.self.view_is, ap (λ results. unwrap_or results []) read) c.push.ensures.flaps
