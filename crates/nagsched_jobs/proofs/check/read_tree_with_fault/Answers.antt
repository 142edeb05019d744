use Rattle.std.proofs.Common.{◌≡◌, Some, rules}
use Rattle.serde_json.specs.View.{view}
use Rattle.setup_model.specs.Fault.{non_memory_fault, view_of}
use Rattle.check_objects.specs.Setup.{IsRefusedTree}
use Rattle.nagsched_jobs.proofs.CheckLemmas.{good_tree, real_fault, refused_tree}
use Rattle.nagsched_jobs.proofs.check.read_tree_with_fault.Goals as goal

pub returns-in-Ok-clause-reading : goal.returns-in-Ok-clause-reading
returns-in-Ok-clause-reading c = λ document is. good_tree document (view c.args.tree) c.in-Ok.setup is c.in-Ok.ensures.setup

pub returns : goal.returns
returns c =
    let real : non_memory_fault (view_of c.in-Err.fault) ≡ Some (view_of c.in-Err.fault) = search rules in
    let refused = real_fault (non_memory_fault (view_of c.in-Err.fault)) (view_of c.in-Err.fault) (IsRefusedTree (view c.args.tree)) real c.in-Err.ensures.refused in
    record {
      reading = λ document is.
          refused_tree document (view c.args.tree) (view_of c.in-Err.fault) c.in_ok-render_refusal-in-Err.field-0.text.items
          c.in_ok-render_refusal-in-Err.field-0.outcome is refused c.in_ok-render_refusal-in-Err.ensures;
      kind = tt;
    }
