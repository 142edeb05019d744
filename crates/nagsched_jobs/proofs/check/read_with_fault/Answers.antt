use Rattle.std.proofs.Common.{◌≡◌, Some, rules}
use Rattle.setup_model.specs.Agreement.{IsExpectedError}
use Rattle.setup_model.specs.Fault.{non_memory_fault, view_of}
use Rattle.check_objects.specs.Setup.{document_tree}
use Rattle.nagsched_jobs.proofs.CheckLemmas.{real_fault, unread}
use Rattle.nagsched_jobs.proofs.check.read_with_fault.Goals as goal

pub returns-in_ok-render_refusal-in-Err : goal.returns-in_ok-render_refusal-in-Err
returns-in_ok-render_refusal-in-Err c =
    let real : non_memory_fault (view_of c.in-Err.fault) ≡ Some (view_of c.in-Err.fault) = search rules in
    let fails = real_fault (non_memory_fault (view_of c.in-Err.fault)) (view_of c.in-Err.fault) (λ o. IsExpectedError o (document_tree c.args.document.now)) real
    c.in-Err.ensures.exact in
    record {
      reading =
          unread c.args.document.now (view_of c.in-Err.fault) c.in_ok-render_refusal-in-Err.field-0.text.items c.in_ok-render_refusal-in-Err.field-0.outcome fails
          c.in_ok-render_refusal-in-Err.ensures;
      kind = tt;
    }
