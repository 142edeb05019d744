use Rattle.std.proofs.Common.{List, ◌++◌, ◌∙◌, ap}
use Rattle.std.specs.Prelude.{codes}
use Rattle.std.proofs.lemmas.Result.{on_ok_weaker}
use Rattle.json.specs.Lex.{tokens}
use Rattle.json.specs.Token.{Token}
use Rattle.setup_diagnostics.proofs.PieceLemmas.{two_pieces}
use Rattle.nagsched_protocol.specs.Explanation.{shown_value}
use Rattle.nagsched_protocol.proofs.explanation.push_array_fault.Goals as goal

pub returns : goal.returns
returns c =
    let wanted = codes "; it has to be " ++ codes "an array that begins with the name of a command" in
    let line = c.push_words.new.self in
    on_ok_weaker c.push_kind_fault.result (λ h. two_pieces c.args.line.now line c.push_kind_fault.new.line (codes ": it is ")
    (shown_value (tokens c.args.text.now) ++ wanted) c.in_ok-push_words.ensures.text
    (h ∙ ap (λ (ts : List Token). line ++ (shown_value ts ++ wanted)) c.in_ok-reader.ensures.ok)) c.push_kind_fault.ensures
