use Rattle.std.proofs.Common.{◌<◌, ◌≤◌, ◌∙◌, arith, length, sym}
use Rattle.std.proofs.lemmas.List.{take_all}
use Rattle.check_objects.specs.Configuration.{name_of, object_count}
use Rattle.check_saved_state.specs.Saved.{saved_by_name}
use Rattle.check_sched.specs.Saved.{results_after_resume}
use Rattle.check_sched.proofs.EachObjectLaws.{one_each, results_seen}
use Rattle.check_sched.proofs.ResumedLaws.{if_saved, length-made}
use Rattle.check_sched.proofs.sched.resuming.resumed_results.Goals as goal

pub last_results-requires : goal.last_results-requires
last_results-requires c =
    let setup = c.args.setup.now in
    let saved = c.args.saved.now in
    let n = c.loop-number.number in
    let in_range : n < object_count setup = omega arith in
    if_saved saved (λ x. length x.results ≤ 21) (name_of setup n) _ c.requires.saved (sym (c.saved_match-kept.ensures setup c.requires.saved_indexes in_range))
    (λ x h named. h.results.bounded)

pub loop-number-preserved : goal.loop-number-preserved
loop-number-preserved c =
    let setup = c.args.setup.now in
    let n = c.loop-number.number in
    let in_range : n < object_count setup = omega arith in
    one_each setup (λ p. results_after_resume (saved_by_name c.args.saved.now p.1.name)) n c.loop-number.by_number.items _
    _ in_range c.in_ok-push.ensures.items c.loop-number.invariant
    (λ o e. results_seen setup c.args.saved.now n o _ _ e (c.saved_match-kept.ensures setup c.requires.saved_indexes in_range) c.in_ok-results.ensures)

pub returns : goal.returns
returns c =
    let setup = c.args.setup.now in
    let saved = c.args.saved.now in
    let long = length-made setup (λ p. results_after_resume (saved_by_name saved p.1.name)) in
    c.of.ensures ∙ c.loop-number.invariant ∙ take_all c.loop-number.number _ (omega (arith, long))
