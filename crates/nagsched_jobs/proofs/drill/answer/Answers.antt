use Rattle.std.proofs.Common.{◌∙◌}
use Rattle.std.proofs.lemmas.Result.{err_from_is_err_and}
use Rattle.nagsched_protocol.proofs.DrillLemmas.{few_moments}
use Rattle.nagsched_protocol.proofs.NoteLemmas.{nothing_noted, refused_noted, refused_outcome}
use Rattle.nagsched_jobs.specs.Drill.{drill_note}
use Rattle.nagsched_jobs.proofs.DrillDriveLemmas.{refused_drill, text_of_drill, wrote_drill, wrote_none}
use Rattle.nagsched_jobs.proofs.drill.answer.Goals as goal

pub work_all-requires-clause-bounded : goal.work_all-requires-clause-bounded
work_all-requires-clause-bounded g c κs within = few_moments c.args.input.now _ c.in-Ok.ensures

-- ---- a history

pub returns-in_err-book-in-Ok-clause-wrote : goal.returns-in_err-book-in-Ok-clause-wrote
returns-in_err-book-in-Ok-clause-wrote g c =
    let p = err_from_is_err_and c.from_residual.result c.from_residual.ensures.1 in
    rw (p.1) (wrote_none _ _ _ _ _ _ (p.2 ∙ c.in_err-book-in-Ok.ensures.kind))

pub returns-in_ok-book-in-Ok-clause-wrote : goal.returns-in_ok-book-in-Ok-clause-wrote
returns-in_ok-book-in-Ok-clause-wrote g c =
    wrote_drill c.write_book.result _ _ _ _ _ _ _ (text_of_drill _ _ _ _ _ _ _ c.in-Ok.ensures c.in_ok-book-in-Ok.ensures.drill)
    (rw c.in_ok-book-in-Ok.ensures.setup at c.write_book.ensures.wrote)

pub returns-in_ok-book-in-Ok-clause-note : goal.returns-in_ok-book-in-Ok-clause-note
unfolding drill_note
returns-in_ok-book-in-Ok-clause-note g c = nothing_noted c.write_book.result c.args.input.now c.args.note.now _ _ c.in-Ok.ensures

-- ---- a refusal

pub returns-in-Err-clause-wrote : goal.returns-in-Err-clause-wrote
returns-in-Err-clause-wrote g c =
    let r = c.refuse_input.ensures in refused_drill c.in-Err.error _ _ _ c.args.input.now c.refuse_input.result _ _ c.in-Err.ensures r.wrote r.memory

pub returns-in-Err-clause-outcome : goal.returns-in-Err-clause-outcome
returns-in-Err-clause-outcome g c =
    let r = c.refuse_input.ensures in refused_outcome c.in-Err.error _ c.refuse_input.result _ c.in-Err.ensures r.outcome r.memory

pub returns-in-Err-clause-note : goal.returns-in-Err-clause-note
unfolding drill_note
returns-in-Err-clause-note g c =
    let r = c.refuse_input.ensures in refused_noted c.in-Err.error c.args.input.now _ c.refuse_input.result _ c.args.note.now c.refuse_input.new.note c.in-Err.ensures r.note r.memory
