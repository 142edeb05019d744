use Rattle.std.proofs.Common.{◌≡◌, ◌∷◌, List, ap, ◌∙◌}
use Rattle.json.specs.Token.{Token}
use Rattle.nagsched_protocol.proofs.FlatLemmas.{report_calls, take_calls}
use Rattle.nagsched_protocol.proofs.flat_line.call_of_tokens.Goals as goal

pub returns-in-take : goal.returns-in-take
returns-in-take c =
    take_calls c.args.setup.now c.args.reader.now c.next_text.new.reader c.in_ok-next_text.field-0.now c.take_of_tokens.result
    ((rw c.in-Some-BeginArray.field-0-is at c.in-Some-BeginArray.ensures.value) ∙ ap (λ l. Token.begin_array ∷ l) c.in_ok-next_text.ensures) c.in-take.is c.take_of_tokens.ensures

pub returns-in-report : goal.returns-in-report
returns-in-report c =
    report_calls c.args.setup.now c.args.reader.now c.next_text.new.reader c.in_ok-next_text.field-0.now c.report_of_tokens.result
    ((rw c.in-Some-BeginArray.field-0-is at c.in-Some-BeginArray.ensures.value) ∙ ap (λ l. Token.begin_array ∷ l) c.in_ok-next_text.ensures) c.in-report.is c.report_of_tokens.ensures
