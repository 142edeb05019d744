use Rattle.nagsched_run.specs.JsonRun.{json_outcome, json_run_note, json_run_text}
use Rattle.nagsched_protocol.proofs.NoteLemmas.{nothing_noted, refused_noted, refused_outcome}
use Rattle.nagsched_run.proofs.JsonRunLemmas.{refused_json, talked_outcome, talked_text}
use Rattle.nagsched_run.proofs.json_run.answer.Goals as goal

pub returns-in-Ok-clause-wrote : goal.returns-in-Ok-clause-wrote
returns-in-Ok-clause-wrote g c = talked_text c.args.start c.live.result c.args.input.now _ _ _ c.in-Ok.ensures c.live.ensures

pub returns-in-Ok-clause-outcome : goal.returns-in-Ok-clause-outcome
returns-in-Ok-clause-outcome g c = talked_outcome c.args.start c.live.result c.args.input.now _ _ _ c.in-Ok.ensures c.live.ensures

pub returns-in-Ok-clause-note : goal.returns-in-Ok-clause-note
unfolding json_run_note
returns-in-Ok-clause-note g c = nothing_noted c.live.result c.args.input.now c.args.note.now _ _ c.in-Ok.ensures

pub returns-in-Err-clause-wrote : goal.returns-in-Err-clause-wrote
unfolding json_run_text
returns-in-Err-clause-wrote g c =
    let r = c.refuse_input.ensures in refused_json c.args.start c.in-Err.error c.args.input.now _ c.refuse_input.result _ _ c.in-Err.ensures r.wrote r.memory

pub returns-in-Err-clause-outcome : goal.returns-in-Err-clause-outcome
unfolding json_outcome
returns-in-Err-clause-outcome g c =
    let r = c.refuse_input.ensures in refused_outcome c.in-Err.error _ c.refuse_input.result _ c.in-Err.ensures r.outcome r.memory

pub returns-in-Err-clause-note : goal.returns-in-Err-clause-note
unfolding json_run_note
returns-in-Err-clause-note g c =
    let r = c.refuse_input.ensures in refused_noted c.in-Err.error c.args.input.now _ c.refuse_input.result _ c.args.note.now c.refuse_input.new.note c.in-Err.ensures r.note r.memory
