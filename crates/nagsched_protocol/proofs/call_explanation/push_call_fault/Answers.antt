use Rattle.std.proofs.Common.{ℕ, List, ◌++◌, ◌∙◌, ap₂}
use Rattle.std.specs.Prelude.{codes}
use Rattle.std.proofs.lemmas.Result.{on_ok_weaker}
use Rattle.nagsched_protocol.specs.CallExplanation.{run_fault}
use Rattle.nagsched_protocol.proofs.call_explanation.push_call_fault.Goals as goal

pub returns-in-WrongRun : goal.returns-in-WrongRun
returns-in-WrongRun c =
    let fault = λ (name : List ℕ) (run : ℕ). c.args.line.now ++ run_fault name (codes " is being checked under another number") run in
    rw c.in-WrongRun.is (on_ok_weaker c.push_run_fault-in-WrongRun.result (λ h.
    h ∙ ap₂ fault c.asked_name-in-WrongRun.ensures.text c.given_run-in-WrongRun.ensures) c.push_run_fault-in-WrongRun.ensures)

pub returns-in-RunsSpent : goal.returns-in-RunsSpent
returns-in-RunsSpent c = rw c.in-RunsSpent.is c.push_words-in-RunsSpent.ensures.text
