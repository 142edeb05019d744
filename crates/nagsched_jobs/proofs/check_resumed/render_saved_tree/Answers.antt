use Rattle.std.proofs.Common.{◌≡◌, Err, Some, rules}
use Rattle.serde_json.specs.View.{view}
use Rattle.check_saved_state.specs.SavedFault.{refusal}
use Rattle.check_saved_state.specs.Text.{saved_of_tree}
use Rattle.nagsched_jobs.proofs.check_resumed.render_saved_tree.Goals as goal

pub returns-in_ok-render_saved_fault-in-Err : goal.returns-in_ok-render_saved_fault-in-Err
returns-in_ok-render_saved_fault-in-Err c =
    let real : refusal c.in-Err.fault ≡ Some c.in-Err.fault = search rules in
    let fails : saved_of_tree (view c.args.tree.now) ≡ Err c.in-Err.fault = rw real at c.in-Err.ensures in
    record { report = rw fails (c.in_ok-render_saved_fault-in-Err.ensures c.args.setup.now c.args.start); kind = tt }

pub returns-in_ok-render_changes-in-Ok-clause-report : goal.returns-in_ok-render_changes-in-Ok-clause-report
returns-in_ok-render_changes-in-Ok-clause-report c = rw c.in-Ok.ensures (c.in_ok-render_changes-in-Ok.ensures (view c.args.tree.now))
