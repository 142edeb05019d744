use Rattle.nagsched_protocol.specs.Text.{text}
use Rattle.nagsched_run.specs.Drive.{outcome_of, run_note}
use Rattle.nagsched_protocol.proofs.NoteLemmas.{nothing_noted, refused_noted, refused_outcome}
use Rattle.nagsched_run.proofs.DriveLemmas.{refused_text_written}
use Rattle.nagsched_run.proofs.drive.answer.Goals as goal

pub returns-in-Ok-clause-wrote : goal.returns-in-Ok-clause-wrote
unfolding text
returns-in-Ok-clause-wrote g c = rw c.in-Ok.ensures (rw c.deref.ensures.value at c.carry_out.ensures.wrote)

pub returns-in-Ok-clause-note : goal.returns-in-Ok-clause-note
unfolding run_note
returns-in-Ok-clause-note g c = nothing_noted c.carry_out.result c.args.input.now c.args.note.now _ _ c.in-Ok.ensures

pub returns-in-Err-clause-wrote : goal.returns-in-Err-clause-wrote
unfolding text
returns-in-Err-clause-wrote g c =
    let r = c.refuse_input.ensures in refused_text_written c.in-Err.error c.args.input.now _ c.refuse_input.result _ _ c.in-Err.ensures r.wrote r.memory

pub returns-in-Err-clause-outcome : goal.returns-in-Err-clause-outcome
unfolding outcome_of
returns-in-Err-clause-outcome g c =
    let r = c.refuse_input.ensures in refused_outcome c.in-Err.error _ c.refuse_input.result _ c.in-Err.ensures r.outcome r.memory

pub returns-in-Err-clause-note : goal.returns-in-Err-clause-note
unfolding run_note
returns-in-Err-clause-note g c =
    let r = c.refuse_input.ensures in refused_noted c.in-Err.error c.args.input.now _ c.refuse_input.result _ c.args.note.now c.refuse_input.new.note c.in-Err.ensures r.note r.memory
