use Rattle.std.proofs.Common.{List, ◌++◌, ◌∙◌, ap}
use Rattle.std.specs.Prelude.{codes}
use Rattle.std.proofs.lemmas.Result.{on_ok_weaker}
use Rattle.json.specs.Lex.{tokens}
use Rattle.json.specs.Token.{Token}
use Rattle.setup_diagnostics.proofs.PieceLemmas.{two_pieces}
use Rattle.nagsched_protocol.specs.Explanation.{items_of, shown_value}
use Rattle.nagsched_protocol.proofs.explanation.push_name_fault.Goals as goal

pub returns : goal.returns
returns c =
    let wanted = codes "; it has to be " ++ c.args.wanted.now in
    let line = c.push_words.new.self in
    let read = c.pass_bracket.ensures ∙ ap items_of c.in_ok-reader.ensures.ok in
    on_ok_weaker c.push_kind_fault.result (λ h. two_pieces c.args.line.now line c.push_kind_fault.new.line (codes ": the name of the command is ")
    (shown_value (items_of (tokens c.args.text.now)) ++ wanted) c.in_ok-push_words.ensures.text
    (h ∙ ap (λ (ts : List Token). line ++ (shown_value ts ++ wanted)) read)) c.push_kind_fault.ensures
