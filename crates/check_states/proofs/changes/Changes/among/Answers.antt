use Rattle.std.proofs.Common.{◌≡◌, ◌++◌, ◌-◌, List, Option, Some, length, ◌∙◌, sym, ap, arith, option_copied}
use Rattle.std.specs.Prelude.{slice_get, unwrap_or}
use Rattle.check_states.specs.declared.state.State.{State}
use Rattle.check_states.proofs.FlappingLemmas.{AreWhole, parts_are_whole, within_all, within_count}
use Rattle.check_states.proofs.changes.Changes.among.Goals as goal

-- the changes of the two parts are those of the whole
whole : (results older newer : List State) (oldest before_newer : State) (copied : Option State) → older ++ newer ≡ results → Some oldest ≡ slice_get results 0
    → before_newer ≡ unwrap_or copied oldest → copied ≡ slice_get older (length older - 1) → AreWhole results older newer oldest before_newer
whole results older newer oldest before_newer copied e front last read =
    parts_are_whole results older newer oldest before_newer e front (last ∙ ap (λ found. unwrap_or found oldest) read)

pub returns-clause-weight : goal.returns-clause-weight
returns-clause-weight c =
    rw (c.changes_after-among_older.ensures.weight, c.changes_after-among_newer.ensures.weight)
    (whole _ _ _ _ _ _ c.as_slices.ensures (sym (ap option_copied c.in-Some.is) ∙ c.front.ensures) c.unwrap_or-before_newer.ensures
    (c.copied.ensures ∙ c.last.ensures.value)).weight

pub returns-clause-count : goal.returns-clause-count
returns-clause-count c =
    rw (c.changes_after-among_older.ensures.count, c.changes_after-among_newer.ensures.count)
    (whole _ _ _ _ _ _ c.as_slices.ensures (sym (ap option_copied c.in-Some.is) ∙ c.front.ensures) c.unwrap_or-before_newer.ensures
    (c.copied.ensures ∙ c.last.ensures.value)).count

pub overflow_add-result : goal.overflow_add-result
overflow_add-result c =
    let most = within_all c.args.results.now.items c.requires in
    let all = (whole c.args.results.now.items c.as_slices.result.0.now c.as_slices.result.1.now c.in-Some.oldest.now c.unwrap_or-before_newer.result
    c.copied.result c.as_slices.ensures (sym (ap option_copied c.in-Some.is) ∙ c.front.ensures) c.unwrap_or-before_newer.ensures
    (c.copied.ensures ∙ c.last.ensures.value)).weight in
    omega (arith, most, all, c.changes_after-among_older.ensures.weight, c.changes_after-among_newer.ensures.weight)

pub overflow_add-result-2 : goal.overflow_add-result-2
overflow_add-result-2 c =
    let most = within_count c.args.results.now.items c.requires in
    let all = (whole c.args.results.now.items c.as_slices.result.0.now c.as_slices.result.1.now c.in-Some.oldest.now c.unwrap_or-before_newer.result
    c.copied.result c.as_slices.ensures (sym (ap option_copied c.in-Some.is) ∙ c.front.ensures) c.unwrap_or-before_newer.ensures
    (c.copied.ensures ∙ c.last.ensures.value)).count in
    omega (arith, most, all, c.changes_after-among_older.ensures.count, c.changes_after-among_newer.ensures.count)
