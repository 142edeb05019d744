use Rattle.nagsched_run.specs.JsonRun.{JsonRunEnded, json_run_note}
use Rattle.nagsched_cli.proofs.NoteLemmas.{noting, noting_words}
use Rattle.nagsched_cli.proofs.session.run_as.Goals as goal

pub returns-in-Words : goal.returns-in-Words
returns-in-Words g c = noting_words c.args.form c.args.start c.run.result _ c.args.note.now c.run.new.note c.in-Words.is c.run.ensures

pub returns-in-Json : goal.returns-in-Json
returns-in-Json g c =
    rw c.in-Json.is (noting c.run_as_json.result c.args.note.now c.run_as_json.new.note
    (λ (run : JsonRunEnded _ _ _). json_run_note c.args.start run.input) c.run_as_json.ensures)
