use Rattle.std.proofs.Common.{◌≡◌, Err, Some, rules}
use Rattle.check_saved_state.specs.SavedFault.{refusal}
use Rattle.check_saved_state.specs.Text.{saved_tree_of}
use Rattle.nagsched_jobs.proofs.check_resumed.render_saved.Goals as goal

pub returns-in_ok-render_saved_fault-in-Err : goal.returns-in_ok-render_saved_fault-in-Err
returns-in_ok-render_saved_fault-in-Err c =
    let real : refusal c.in-Err.fault ≡ Some c.in-Err.fault = search rules in
    let fails : saved_tree_of c.args.text.now ≡ Err c.in-Err.fault = rw real at c.in-Err.ensures.exact in
    record { report = rw fails (c.in_ok-render_saved_fault-in-Err.ensures c.args.setup.now c.args.start); kind = tt }
